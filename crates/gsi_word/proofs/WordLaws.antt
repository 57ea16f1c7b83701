-- One word at the front of printable bytes: the test finds it exactly where it stands, and it is
-- the only one.
use Rattle.std.proofs.Common.{◌≡◌, ◌≢◌, ℕ, suc, ◌+◌, ◌-◌, ◌*◌, ◌/◌, ◌%◌, ◌<◌, ◌≤◌, Bool, true}
use Rattle.std.proofs.Common.{false, eqb, List, [], ◌∷◌, ◌++◌, length, get_or, take, drop, All, ◌⊎◌}
use Rattle.std.proofs.Common.{inl, inr, refl, sym, ap, ◌∙◌, arith}
use Rattle.std.proofs.lemmas.Bool.Decides.{nat_tests}
use Rattle.std.proofs.lemmas.Bool.{false≢true, leb-true, and_parts}
use Rattle.std.proofs.lemmas.List.{length-append, length-take, length-drop, get_or-drop, get_or_at}
use Rattle.std.proofs.lemmas.List.{take_at, drop_at}
use Rattle.std.proofs.lemmas.List.Elements.{All-from_recursion, All-take, All-drop, All-cons}
use Rattle.std.proofs.lemmas.List.Elements.{All-append, All-weaker}
use Rattle.gsi_word.specs.Words.{GsiWord, IsLineByte, IsGraphic, IsWord, sign_byte, spelled}
use Rattle.gsi_word.specs.LineFaults.{EndsWord, BeginsWord}
use Rattle.gsi_word.specs.Layout.{word_of, begins_word, HasIndex, IsWordBytes}

-- The head of a word and what follows.
abbrev pub headed : ℕ → ℕ → ℕ → ℕ → ℕ → ℕ → ℕ → List ℕ → List ℕ
headed a b i j k m s rest = a ∷ b ∷ i ∷ j ∷ k ∷ m ∷ s ∷ rest

-- Seven places on, the bytes are those after the head.
seven : (width : ℕ) → 7 + width ≡ suc (suc (suc (suc (suc (suc (suc width))))))
seven width = omega arith

take_head : (width a b i j k m s : ℕ) (rest : List ℕ)
    → take (7 + width) (headed a b i j k m s rest) ≡ headed a b i j k m s (take width rest)
take_head width a b i j k m s rest = rw (seven width) refl

drop_head : (width a b i j k m s : ℕ) (rest : List ℕ)
    → drop (7 + width) (headed a b i j k m s rest) ≡ drop width rest
drop_head width a b i j k m s rest = rw (seven width) refl

pub at_head : (width a b i j k m s : ℕ) (rest : List ℕ)
    → get_or (headed a b i j k m s rest) (7 + width) 0 ≡ get_or rest width 0
at_head width a b i j k m s rest = rw (seven width) refl

-- What the test of a word says of its bytes.
pub record Cells (width a b i j k m s : ℕ) (rest : List ℕ) : Type 0 where
  pub long : width ≤ length rest
  pub tens : (48 ≤ a) × (a ≤ 57)
  pub ones : (48 ≤ b) × (b ≤ 57)
  pub info : (i ≢ 32) × ((j ≢ 32) × ((k ≢ 32) × (m ≢ 32)))
  pub sign : (s ≡ 43) ⊎ (s ≡ 45)
  pub ends : (length rest ≡ width) ⊎ (get_or rest width 0 ≡ 32)

-- Bytes of this form pass the test exactly where that is so.
cells_of : (width a b i j k m s : ℕ) (rest : List ℕ)
    → begins_word width (headed a b i j k m s rest) ≡ true → Cells width a b i j k m s rest
unfolding begins_word
cells_of width a b i j k m s rest h =
    let after = at_head width a b i j k m s rest in
    record {
      long = grind (arith, nat_tests);
      tens = grind (arith, nat_tests);
      ones = grind (arith, nat_tests);
      info = grind (arith, nat_tests);
      sign = grind (arith, nat_tests);
      ends = grind (arith, nat_tests, after);
    }

pub test_of_cells : (width a b i j k m s : ℕ) (rest : List ℕ) → Cells width a b i j k m s rest
    → begins_word width (headed a b i j k m s rest) ≡ true
unfolding begins_word
test_of_cells width a b i j k m s rest c =
    let after = at_head width a b i j k m s rest in
    grind (arith, nat_tests, after)

-- A word stands at the front of the bytes.
pub record Front (width : ℕ) (bytes : List ℕ) : Type 0 where
  pub word : IsWord width (word_of (take (7 + width) bytes))
  pub text : take (7 + width) bytes ≡ spelled (word_of (take (7 + width) bytes))
  pub ends : EndsWord (drop (7 + width) bytes)

ink : (b : ℕ) → IsGraphic b → b ≢ 32
ink b h e = absurd (omega arith)

graphic : (b : ℕ) → IsLineByte b → b ≢ 32 → IsGraphic b
graphic b h ne = (omega arith, h.1)

ends_of : (rest : List ℕ) → (length rest ≡ 0) ⊎ (get_or rest 0 0 ≡ 32) → EndsWord rest
ends_of [] h = tt
ends_of (b ∷ rest) (inl e) = absurd (omega arith)
ends_of (b ∷ rest) (inr e) = e

front_of : (width a b i j k m s : ℕ) (rest : List ℕ) → Cells width a b i j k m s rest
    → All IsLineByte (headed a b i j k m s rest) → Front width (headed a b i j k m s rest)
front_of width a b i j k m s rest c h =
    let n : ℕ = 10 * (a - 48) + (b - 48) in
    let first : 48 + n / 10 ≡ a = omega (arith, c.tens, c.ones) in
    let second : 48 + n % 10 ≡ b = omega (arith, c.tens, c.ones) in
    let sign : sign_byte (eqb s 45) ≡ s = elim c.sign [ inl e ↦ rw e refl | inr e ↦ rw e refl ] in
    let (ink_i, (ink_j, (ink_k, ink_m))) = c.info in
    record {
      word = rw (take_head width a b i j k m s rest) (record {
        index = omega (arith, c.tens, c.ones);
        info_length = refl;
        info = All-from_recursion IsGraphic (i ∷ j ∷ k ∷ m ∷ []) (
          graphic i (h 2 0 (omega arith)) ink_i,
          (
            graphic j (h 3 0 (omega arith)) ink_j,
            (graphic k (h 4 0 (omega arith)) ink_k, (graphic m (h 5 0 (omega arith)) ink_m, tt)),
          ),
        );
        content_length = omega (arith, length-take width rest, c.long);
        content = All-take IsLineByte width rest
            (All-drop IsLineByte 7 (headed a b i j k m s rest) h);
      });
      text = rw (take_head width a b i j k m s rest, first, second, sign) refl;
      ends = rw (drop_head width a b i j k m s rest) (ends_of (drop width rest) (elim c.ends [
        | inl e ↦ inl (omega (arith, length-drop width rest))
        | inr e ↦ inr (get_or-drop width rest 0 0
            ∙ ap (λ (n : ℕ). get_or rest n 0) (omega arith) ∙ e)
      ]));
    }

-- Bytes that pass the test of a word are at least as long as one.
pub long_of : (width : ℕ) (bytes : List ℕ) → begins_word width bytes ≡ true
    → 7 + width ≤ length bytes
unfolding begins_word
long_of width bytes e = leb-true _ _ (and_parts _ _ e).0

front_long : (width : ℕ) (bytes : List ℕ) → begins_word width bytes ≡ true → All IsLineByte bytes
    → 7 ≤ length bytes → Front width bytes
front_long width (a ∷ b ∷ i ∷ j ∷ k ∷ m ∷ s ∷ rest) e h long =
    front_of width a b i j k m s rest (cells_of width a b i j k m s rest e) h
front_long width bytes e h long = absurd (omega arith)

-- Printable bytes that pass the test begin with a word.
pub front : (width : ℕ) (bytes : List ℕ) → begins_word width bytes ≡ true → All IsLineByte bytes
    → Front width bytes
front width bytes e h = front_long width bytes e h (omega (arith, long_of width bytes e))

has_index : (width : ℕ) (bytes : List ℕ) → begins_word width bytes ≡ true → 7 ≤ length bytes
    → HasIndex (take (7 + width) bytes)
has_index width (a ∷ b ∷ i ∷ j ∷ k ∷ m ∷ s ∷ rest) e long =
    let c = cells_of width a b i j k m s rest e in
    rw (take_head width a b i j k m s rest)
    (record { long = omega arith; tens = c.tens; ones = c.ones })
has_index width bytes e long = absurd (omega arith)

-- Printable bytes that pass the test begin with all bytes of a word.
pub word_bytes_of : (width : ℕ) (bytes : List ℕ) → begins_word width bytes ≡ true
    → All IsLineByte bytes → IsWordBytes width (take (7 + width) bytes)
word_bytes_of width bytes e h =
    let long = long_of width bytes e in
    record {
      len = omega (arith, length-take (7 + width) bytes, long);
      digits = has_index width bytes e (omega (arith, long));
      word = (front width bytes e h).word;
    }

-- Four bytes, one by one.
four_cells : (xs : List ℕ) → length xs ≡ 4 → (i : ℕ) × (j : ℕ) × (k : ℕ) × (m : ℕ)
    × (xs ≡ i ∷ j ∷ k ∷ m ∷ [])
four_cells (i ∷ j ∷ k ∷ m ∷ []) e = (i, j, k, m, refl)
four_cells xs e = absurd (omega arith)

sign_cases : (b : Bool) → (sign_byte b ≡ 43) ⊎ (sign_byte b ≡ 45)
sign_cases true = inr refl
sign_cases false = inl refl

sign_back : (b : Bool) → eqb (sign_byte b) 45 ≡ b
sign_back true = refl
sign_back false = refl

ends_cells : (width : ℕ) (content rest : List ℕ) → length content ≡ width → EndsWord rest
    → (length (content ++ rest) ≡ width) ⊎ (get_or (content ++ rest) width 0 ≡ 32)
ends_cells width content [] len e = inl (omega (arith, length-append content []))
ends_cells width content (b ∷ rest) len e = inr (get_or_at content b rest 0 width len ∙ e)

-- A word that ends the bytes or has a blank after it passes the test.
test_of_word : (width : ℕ) (w : GsiWord) (rest : List ℕ) → IsWord width w → EndsWord rest
    → begins_word width (spelled w ++ rest) ≡ true
test_of_word width w rest h ends =
    let (i, j, k, m, is) = four_cells w.info h.info_length in
    let info : All IsGraphic (i ∷ j ∷ k ∷ m ∷ []) = rw is at h.info in
    rw is (test_of_cells width (48 + w.index / 10) (48 + w.index % 10) i j k m
    (sign_byte w.negative) (w.content ++ rest) (record {
      long = omega (arith, length-append w.content rest, h.content_length);
      tens = (omega arith, omega (arith, h.index));
      ones = (omega arith, omega (arith, h.index));
      info = (
        ink i (info 0 0 (omega arith)),
        (
          ink j (info 1 0 (omega arith)),
          (ink k (info 2 0 (omega arith)), ink m (info 3 0 (omega arith))),
        ),
      );
      sign = sign_cases w.negative;
      ends = ends_cells width w.content rest h.content_length ends;
    }))

front_cells : (width : ℕ) (w : GsiWord) (rest : List ℕ) (i j k m : ℕ) → w.info ≡ i ∷ j ∷ k ∷ m ∷ []
    → length w.content ≡ width
    → take (7 + width) (spelled w ++ rest) ≡ headed (48 + w.index / 10) (48 + w.index % 10) i j k m
    (sign_byte w.negative) w.content
front_cells width w rest i j k m e len =
    rw e (take_head width (48 + w.index / 10) (48 + w.index % 10) i j k m (sign_byte w.negative)
    (w.content ++ rest)
    ∙ ap (λ (r : List ℕ). headed (48 + w.index / 10) (48 + w.index % 10) i j k m
    (sign_byte w.negative) r) (take_at w.content rest width len))

back_cells : (width : ℕ) (w : GsiWord) (rest : List ℕ) (i j k m : ℕ) → w.info ≡ i ∷ j ∷ k ∷ m ∷ []
    → length w.content ≡ width → drop (7 + width) (spelled w ++ rest) ≡ rest
back_cells width w rest i j k m e len =
    rw e (drop_head width (48 + w.index / 10) (48 + w.index % 10) i j k m (sign_byte w.negative)
    (w.content ++ rest) ∙ drop_at w.content rest width len)

-- The bytes of a word give it back, whatever follows.
word_of_spelled : (width : ℕ) (w : GsiWord) (rest : List ℕ) → IsWord width w
    → (word_of (take (7 + width) (spelled w ++ rest)) ≡ w)
    × (drop (7 + width) (spelled w ++ rest) ≡ rest)
word_of_spelled width w rest h =
    let (i, j, k, m, is) = four_cells w.info h.info_length in
    let cells = front_cells width w rest i j k m is h.content_length in
    let index : 10 * (48 + w.index / 10 - 48) + (48 + w.index % 10 - 48) ≡ w.index =
    omega (arith, h.index) in (
      ap word_of cells ∙ rw (index, sym is, sign_back w.negative) refl,
      back_cells width w rest i j k m is h.content_length,
    )

-- Bytes begin with one word at most.
pub one_word : (width : ℕ) (w v : GsiWord) (a b : List ℕ) → IsWord width w → IsWord width v
    → spelled w ++ a ≡ spelled v ++ b → (w ≡ v) × (a ≡ b)
one_word width w v a b hw hv e =
    let x = word_of_spelled width w a hw in
    let y = word_of_spelled width v b hv in (
      sym x.0 ∙ ap (λ (z : List ℕ). word_of (take (7 + width) z)) e ∙ y.0,
      sym x.1
          ∙ ap (λ (z : List ℕ). drop (7 + width) z) e ∙ y.1,
    )

-- Bytes that fail the test begin with no word.
pub no_word : (width : ℕ) (bytes : List ℕ) → begins_word width bytes ≡ false
    → ¬ BeginsWord width bytes
no_word width bytes e b = false≢true (sym e ∙ ap (λ (r : List ℕ). begins_word width r) b.text
    ∙ test_of_word width b.word b.rest b.is_word b.ends)

-- The bytes of a word are printable.
pub spelled_printable : (width : ℕ) (w : GsiWord) → IsWord width w → All IsLineByte (spelled w)
spelled_printable width w h =
    let info : All IsLineByte w.info = All-weaker IsGraphic IsLineByte
    (λ b g. (omega arith, g.1)) w.info h.info in
    let sign : IsLineByte (sign_byte w.negative) = elim (sign_cases w.negative) [
      | inl e ↦ (omega (arith, e), omega (arith, e))
      | inr e ↦ (omega (arith, e), omega (arith, e))
    ] in
    let digit : (n : ℕ) → n < 10 → IsLineByte (48 + n) = λ n h. (omega arith, omega (arith, h)) in
    let body : List ℕ = sign_byte w.negative ∷ w.content in
    All-cons IsLineByte _ ((48 + w.index % 10) ∷ (w.info ++ body))
    (digit (w.index / 10) (omega (arith, h.index)))
    (All-cons IsLineByte _ (w.info ++ body) (digit (w.index % 10) (omega arith))
    (All-append IsLineByte w.info body info (All-cons IsLineByte _ w.content sign h.content)))
