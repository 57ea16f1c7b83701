-- The numbered lines of a file, part by part.
use Rattle.std.proofs.Common.{◌≡◌, ℕ, zero, suc, ◌+◌, ◌-◌, ◌<◌, ◌≤◌, true, false, List, [], ◌∷◌}
use Rattle.std.proofs.Common.{◌++◌, length, take, drop, filter, refl, sym, ap, subst, ◌∙◌, inl, inr}
use Rattle.std.proofs.Common.{arith, None, slice_get, length-take, length-drop, drop-cons}
use Rattle.std.proofs.Common.{drop-drop, add-one}
use Rattle.std.specs.Prelude.{slice_index}
use Rattle.std.proofs.lemmas.Bool.{cases_lt}
use Rattle.std.proofs.lemmas.List.{take-append-drop, take_all, get_or-drop}
use Rattle.std.proofs.lemmas.List.Splits.{slice_split_at, slice_split_none}
use Rattle.gsi_file.specs.LinePlaces.{line_places, places_from}
use Rattle.gsi_file.specs.Parts.{HasNoEnd, is_line, is_line_end, numbered_lines, parts}
use Rattle.refusal_places.specs.Lines.{IsLineAt}

-- The part of a file between two places.
abbrev pub part_between : List ℕ → ℕ → ℕ → List ℕ
part_between bytes first end = take (end - first) (drop first bytes)

-- The part that begins at a place and ends at another, and the parts after it.
pub record Cut (bytes : List ℕ) (first end : ℕ) : Type 0 where
  pub more : List (List ℕ)
  pub is : parts (drop first bytes) ≡ part_between bytes first end ∷ more
  pub goes : end < length bytes → more ≡ parts (drop (end + 1) bytes)
  pub ends : length bytes ≤ end → more ≡ []

split : (n : ℕ) (bytes : List ℕ) → n < length bytes
    → bytes ≡ take n bytes ++ slice_index bytes n ∷ drop (n + 1) bytes
split n bytes lt =
    sym (take-append-drop n bytes)
    ∙ ap (λ (l : List ℕ). take n bytes ++ l) (drop-cons bytes n 0 lt
    ∙ ap (λ (k : ℕ). slice_index bytes n ∷ drop k bytes) (sym (add-one n)))

ended : (bytes : List ℕ) (first end : ℕ) → first ≤ end → end < length bytes
    → HasNoEnd (part_between bytes first end) → is_line_end (slice_index bytes end) ≡ true
    → parts (drop first bytes) ≡ part_between bytes first end ∷ parts (drop (end + 1) bytes)
ended bytes first end low lt none is_end =
    let size : end - first < length (drop first bytes) =
    omega (arith, length-drop first bytes, low, lt) in
    let same : slice_index (drop first bytes) (end - first) ≡ slice_index bytes end =
    get_or-drop first bytes (end - first) 0 ∙ ap (λ (k : ℕ). slice_index bytes k)
    (omega (arith, low)) in
    ap parts (split (end - first) (drop first bytes) size)
    ∙ slice_split_at is_line_end (part_between bytes first end)
    (slice_index (drop first bytes) (end - first)) (drop (end - first + 1) (drop first bytes)) none
    (ap is_line_end same ∙ is_end)
    ∙ ap (λ (l : List ℕ). part_between bytes first end ∷ parts l)
    (drop-drop (end - first + 1) first bytes
    ∙ ap (λ (k : ℕ). drop k bytes) (omega (arith, low)))

last : (bytes : List ℕ) (first end : ℕ) → first ≤ end → length bytes ≤ end
    → HasNoEnd (part_between bytes first end)
    → parts (drop first bytes) ≡ part_between bytes first end ∷ []
last bytes first end low le none =
    let all : part_between bytes first end ≡ drop first bytes =
    take_all (end - first) (drop first bytes) (omega (arith, length-drop first bytes, low, le)) in
    slice_split_none is_line_end (drop first bytes) (subst HasNoEnd all none)
    ∙ ap (λ (p : List ℕ). p ∷ []) (sym all)

-- A part that has no end, and ends where it does.
pub cut : (bytes : List ℕ) (first end : ℕ) → first ≤ end
    → HasNoEnd (part_between bytes first end)
    → (end < length bytes → is_line_end (slice_index bytes end) ≡ true) → Cut bytes first end
cut bytes first end low none is_end = elim (cases_lt end (length bytes)) [
  | inl lt ↦ record {
    more = parts (drop (end + 1) bytes);
    is = ended bytes first end low lt none (is_end lt);
    goes = λ _. refl;
    ends = λ le. absurd (omega (arith, lt, le));
  }
  | inr le ↦ record {
    more = [];
    is = last bytes first end low le none;
    goes = λ lt. absurd (omega (arith, lt, le));
    ends = λ _. refl;
  }
]

later : {X : Type 0} (x : X) (xs : List X) (n : ℕ) → 1 ≤ n → slice_get (x ∷ xs) n
    ≡ slice_get xs (n - 1)
later x xs zero some = absurd (omega (arith, some))
later x xs (suc n) some = ap (λ (k : ℕ). slice_get xs k) (omega arith)

-- A line of a file is the one of these parts that has so many lines before it.
pub record Walks (bytes : List ℕ) (number left first : ℕ) : Type 0 where
  pub some : 1 ≤ left
  pub within : first ≤ length bytes
  pub place : slice_get (line_places bytes) (number - 1)
      ≡ slice_get (places_from first (parts (drop first bytes))) (left - 1)
  pub line : slice_get (numbered_lines bytes) (number - 1)
      ≡ slice_get (filter is_line (parts (drop first bytes))) (left - 1)

pub starts : (bytes : List ℕ) (number : ℕ) → 1 ≤ number → Walks bytes number number 0
starts bytes number some = record { some = some; within = omega arith; place = refl; line = refl }

module _ (bytes : List ℕ) (number left first end : ℕ) (low : first ≤ end)
    (high : end ≤ length bytes) (w : Walks bytes number left first) (c : Cut bytes first end) where
  places_of : slice_get (line_places bytes) (number - 1)
      ≡ slice_get (places_from first (part_between bytes first end ∷ c.more)) (left - 1)
  places_of = w.place ∙ ap (λ ps. slice_get (places_from first ps) (left - 1)) c.is

  lines_of : slice_get (numbered_lines bytes) (number - 1)
      ≡ slice_get (filter is_line (part_between bytes first end ∷ c.more)) (left - 1)
  lines_of = w.line ∙ ap (λ ps. slice_get (filter is_line ps) (left - 1)) c.is

  next_place : first + length (part_between bytes first end) + 1 ≡ end + 1
  next_place = omega (
    arith,
    length-take (end - first) (drop first bytes),
    length-drop first bytes,
    low,
    high,
  )

  -- It is this line.
  pub is_here : is_line (part_between bytes first end) ≡ true → left ≡ 1 → 1 ≤ number
      → IsLineAt bytes number (record { first = first; end = end })
  is_here line one some = record {
    counted = some;
    within = (low, high);
    begins = places_of ∙ rw (line, one) refl;
    bytes_are = lines_of ∙ rw (line, one) refl;
  }

  -- It is a later one.
  pub after_line : is_line (part_between bytes first end) ≡ true → 1 < left
      → end < length bytes → Walks bytes number (left - 1) (end + 1)
  after_line line more lt = record {
    some = omega (arith, more);
    within = omega (arith, lt);
    place = places_of ∙ rw line (later first
        (places_from (first + length (part_between bytes first end) + 1) c.more) (left - 1)
        (omega (arith, more))) ∙ ap (λ (k : ℕ). slice_get (places_from k c.more) (left - 1 - 1))
        next_place ∙ ap (λ ps. slice_get (places_from (end + 1) ps) (left - 1 - 1)) (c.goes lt);
    line = lines_of ∙ rw line (later (part_between bytes first end) (filter is_line c.more)
        (left - 1) (omega (arith, more)))
        ∙ ap (λ ps. slice_get (filter is_line ps) (left - 1 - 1)) (c.goes lt);
  }

  pub after_blank : is_line (part_between bytes first end) ≡ false → end < length bytes
      → Walks bytes number left (end + 1)
  after_blank line lt = record {
    some = w.some;
    within = omega (arith, lt);
    place = places_of ∙ rw line refl ∙ ap (λ (k : ℕ). slice_get (places_from k c.more) (left - 1))
        next_place ∙ ap (λ ps. slice_get (places_from (end + 1) ps) (left - 1)) (c.goes lt);
    line = lines_of ∙ rw line refl
        ∙ ap (λ ps. slice_get (filter is_line ps) (left - 1)) (c.goes lt);
  }

  -- There is none.
  pub none_after_line : is_line (part_between bytes first end) ≡ true → 1 < left
      → length bytes ≤ end → slice_get (numbered_lines bytes) (number - 1) ≡ None
  none_after_line line more le =
      lines_of ∙ rw line (later (part_between bytes first end) (filter is_line c.more)
      (left - 1) (omega (arith, more)))
      ∙ ap (λ ps. slice_get (filter is_line ps) (left - 1 - 1)) (c.ends le)

  pub none_after_blank : is_line (part_between bytes first end) ≡ false
      → length bytes ≤ end → slice_get (numbered_lines bytes) (number - 1) ≡ None
  none_after_blank line le =
      lines_of ∙ rw line refl ∙ ap (λ ps. slice_get (filter is_line ps) (left - 1)) (c.ends le)
