-- The words of a line, one after another, until one has an index.
use Rattle.std.proofs.Common.{◌≡◌, ℕ, ◌+◌, ◌/◌, ◌%◌, ◌<◌, ◌≤◌, List, length, sym, ap, ◌∙◌, inl, inr}
use Rattle.std.proofs.Common.{arith}
use Rattle.std.specs.Prelude.{slice_index}
use Rattle.std.proofs.lemmas.Bool.{cases_Bool, cases_lt}
use Rattle.gsi_word.specs.Blocks.{is_starred}
use Rattle.gsi_word.specs.Bytes.{zero_digit}
use Rattle.refusal_places.specs.MeantParts.{HasIndex, IsFirstOf, first_word, word_begin, word_size}

-- No word before the one that begins here has the index.
pub record Seeks (line : List ℕ) (index first : ℕ) : Type 0 where
  pub number : ℕ
  pub counted : 1 ≤ number
  pub begins : first ≡ word_begin line number
  pub within : first ≤ length line + 1
  pub none : (earlier : ℕ) → earlier < number → ¬ (HasIndex line index earlier)

module _ (line : List ℕ) (index : ℕ) where
  first_small : first_word line ≤ 1
  first_small = elim (cases_Bool (is_starred line)) [
    | inl h ↦ rw h (omega arith)
    | inr h ↦ rw h (omega arith)
  ]

  -- The word after this one.
  next_begin : (number : ℕ) → 1 ≤ number
      → word_begin line (number + 1) ≡ word_begin line number + word_size line + 1
  next_begin number some = elim (cases_Bool (is_starred line)) [
    | inl h ↦ rw h (omega (arith, some))
    | inr h ↦ rw h (omega (arith, some))
  ]

  -- A later word begins no earlier.
  later_begin : (number later : ℕ) → number ≤ later
      → word_begin line number ≤ word_begin line later
  later_begin number later le = elim (cases_Bool (is_starred line)) [
    | inl h ↦ rw h (omega (arith, le))
    | inr h ↦ rw h (omega (arith, le))
  ]

  pub starts : Seeks line index (first_word line)
  starts = record {
    number = 1;
    counted = omega arith;
    begins = omega arith;
    within = omega (arith, first_small);
    none = λ earlier lt has. absurd (omega (arith, lt, has.counted));
  }

  module _ (first : ℕ) (seeks : Seeks line index first) where
    pub is_here : first + word_size line ≤ length line
        → slice_index line first ≡ zero_digit + index / 10
        → slice_index line (first + 1) ≡ zero_digit + index % 10
        → IsFirstOf line index (record { first = first; end = first + word_size line })
    is_here whole tens ones = record {
      number = seeks.number;
      has = record {
        counted = seeks.counted;
        whole = rw (sym seeks.begins) whole;
        tens = rw (sym seeks.begins) tens;
        ones = rw (sym seeks.begins) ones;
      };
      first_such = seeks.none;
      first = seeks.begins;
      end = ap (λ (k : ℕ). k + word_size line) seeks.begins;
    }

    pub goes_on : first + word_size line ≤ length line
        → (slice_index line first ≡ zero_digit + index / 10
        → slice_index line (first + 1) ≡ zero_digit + index % 10 → ⊥)
        → Seeks line index (first + word_size line + 1)
    goes_on whole other = record {
      number = seeks.number + 1;
      counted = omega (arith, seeks.counted);
      begins = ap (λ (k : ℕ). k + word_size line + 1) seeks.begins
          ∙ sym (next_begin seeks.number seeks.counted);
      within = omega (arith, whole);
      none = λ earlier lt has. elim (cases_lt earlier seeks.number) [
        | inl before ↦ seeks.none earlier before has
        | inr after ↦
            let same : earlier ≡ seeks.number = omega (arith, lt, after) in
            let here : word_begin line earlier ≡ first =
            ap (λ (n : ℕ). word_begin line n) same ∙ sym seeks.begins in
            other (ap (λ (k : ℕ). slice_index line k) (sym here) ∙ has.tens)
            (ap (λ (k : ℕ). slice_index line (k + 1)) (sym here) ∙ has.ones)
      ];
    }

    pub none_left : length line < first + word_size line
        → (number : ℕ) → ¬ (HasIndex line index number)
    none_left past number has = elim (cases_lt number seeks.number) [
      | inl before ↦ seeks.none number before has
      | inr after ↦ absurd (omega (
        arith,
        past,
        has.whole,
        seeks.begins,
        later_begin seeks.number number after,
      ))
    ]
