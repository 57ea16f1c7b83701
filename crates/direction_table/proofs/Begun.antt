-- Beginnings of texts that have two parts.
use Rattle.std.proofs.Common.{◌≡◌, ◌∙◌, ◌++◌, ◌∷◌, ◌/◌, ◌^◌, ℕ, List, [], length}
use Rattle.std.proofs.Common.{take, drop, decimal, ap, sym, refl, subst}
use Rattle.std.proofs.Common.{append_assoc}
use Rattle.std.proofs.lemmas.List.{take-append-drop, take_at}
use Rattle.direction_table.specs.Beginnings.{IsBegun}
use Rattle.direction_table.specs.DecimalNumbers.{point}
use Rattle.direction_table.specs.Texts.{decimals_of, direction_text, last_digit}

-- The first part is a beginning.
pub first_part : (first rest old new : List ℕ) → new ≡ old ++ first
    → IsBegun (first ++ rest) old new
first_part first rest old new h = record {
  count = length first;
  added = h ∙ ap (λ (l : List ℕ). old ++ l) (sym (take_at first rest (length first) refl));
}

-- A beginning of the first part is one of both.
pub of_first : (first rest old new : List ℕ) → IsBegun first old new
    → IsBegun (first ++ rest) old new
of_first first rest old new p =
    let got = take p.count first in
    let whole : first ++ rest ≡ got ++ (drop p.count first ++ rest) =
    ap (λ (l : List ℕ). l ++ rest) (sym (take-append-drop p.count first))
    ∙ append_assoc got (drop p.count first) rest in record {
      count = length got;
      added = p.added ∙ ap (λ (l : List ℕ). old ++ l)
          (sym (ap (take (length got)) whole
          ∙ take_at got (drop p.count first ++ rest) (length got) refl));
    }

-- The first part, and a beginning of the second.
pub of_second : (first second old middle new : List ℕ) → middle ≡ old ++ first
    → IsBegun second middle new → IsBegun (first ++ second) old new
of_second first second old middle new h p =
    let got = first ++ take p.count second in
    let rest = drop p.count second in
    let whole : first ++ second ≡ got ++ rest =
    ap (λ (l : List ℕ). first ++ l) (sym (take-append-drop p.count second))
    ∙ sym (append_assoc first (take p.count second) rest) in record {
      count = length got;
      added = p.added ∙ (ap (λ (l : List ℕ). l ++ take p.count second) h
          ∙ (append_assoc old first (take p.count second)
          ∙ ap (λ (l : List ℕ). old ++ l)
          (sym (ap (take (length got)) whole ∙ take_at got rest (length got) refl))));
    }

-- What was added of a text of two parts: a beginning of the first, or the first and a beginning of
-- the second.
pub ruleset of_two = (of_first, of_second)

-- Six decimals are five and one more.
pub six_decimals : (direction : ℕ) → direction_text 6 direction
    ≡ direction_text 5 direction ++ (last_digit (direction / 10 ^ 3) ∷ [])
six_decimals direction =
    sym (append_assoc (decimal (direction / 10 ^ 9)) (point ∷ decimals_of 5 direction)
    (last_digit (direction / 10 ^ 3) ∷ []))

-- A beginning of five decimals is one of six.
pub of_five : (direction : ℕ) (old new : List ℕ) → IsBegun (direction_text 5 direction) old new
    → IsBegun (direction_text 6 direction) old new
of_five direction old new p =
    subst (λ text. IsBegun text old new) (sym (six_decimals direction))
    (of_first (direction_text 5 direction) (last_digit (direction / 10 ^ 3) ∷ []) old new p)

-- Five decimals are a beginning of six.
pub all_five : (direction : ℕ) (old new : List ℕ) → new ≡ old ++ direction_text 5 direction
    → IsBegun (direction_text 6 direction) old new
all_five direction old new h =
    subst (λ text. IsBegun text old new) (sym (six_decimals direction))
    (first_part (direction_text 5 direction) (last_digit (direction / 10 ^ 3) ∷ []) old new h)

-- What was added of six decimals: a beginning of five, or all five.
pub ruleset of_six = (of_five, all_five)
