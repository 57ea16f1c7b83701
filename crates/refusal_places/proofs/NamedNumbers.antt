-- The number that a line has after some words is the one that was written there.
use Rattle.std.proofs.Common.{◌≡◌, ℕ, zero, suc, ◌+◌, ◌-◌, ◌*◌, ◌^◌, ◌<◌, ◌≤◌, Bool, true, false}
use Rattle.std.proofs.Common.{List, [], ◌∷◌, ◌++◌, length, get_or, not, cond, Some, None, refl}
use Rattle.std.proofs.Common.{ap, ◌∙◌, arith, decimal}
use Rattle.std.specs.Prelude.{◌&&◌, fold, nat_lt}
use Rattle.std.specs.Char.{is_ascii_digit}
use Rattle.std.specs.List.{list_all, position, position_or_len}
use Rattle.std.specs.Str.{all_ascii_digits}
use Rattle.std.proofs.Math.Seq.{drop-append_seam, take-append_seam}
use Rattle.std.proofs.lemmas.Bool.{and_parts, lt-ltb}
use Rattle.std.proofs.lemmas.Bool.Decides.{nat_tests}
use Rattle.std.proofs.lemmas.Fmt.{decimal_is_IsNumeral_wide, decimal_nonempty, length-decimal-le_wide}
use Rattle.std.proofs.lemmas.List.{length-append}
use Rattle.std.proofs.lemmas.Str.Parse.{IsNumeralModel, numerals_by_fold, tells_all_ascii_digits}
use Rattle.gsi_word.specs.Angles.{decimal_value}
use Rattle.refusal_places.specs.Meant.{after_digits}
use Rattle.refusal_places.specs.Numbers.{are_few, first_digits, number_of}

-- Digits are told apart and read as `decimal_number` does both.
all_same : (ds : List ℕ) → list_all is_ascii_digit ds ≡ all_ascii_digits ds
all_same [] = refl
all_same (d ∷ ds) = ap (λ (t : Bool). is_ascii_digit d && t) (all_same ds)

reads : IsNumeralModel (λ ds. all_ascii_digits ds ≡ true) decimal_value
reads = numerals_by_fold _ tells_all_ascii_digits (fold (λ m b. 10 * m + (b - 48))) (record {
  empty = λ n. refl;
  more = λ n c cs digit. ap (λ (m : ℕ). fold (λ k b. 10 * k + (b - 48)) m cs) (omega arith);
})

-- The digits of a number have it.
have_value : (n : ℕ) → n < 10 ^ 64
    → (list_all is_ascii_digit (decimal n) ≡ true) × (decimal_value (decimal n) ≡ n)
have_value n small = let d = decimal_is_IsNumeral_wide n small in
    (all_same (decimal n) ∙ reads.from (decimal n) d.0.1, reads.same (decimal n) d.0.1 ∙ d.1)

abbrev is_other : ℕ → Bool
is_other b = not (is_ascii_digit b)

-- Digits, and what comes after them: at the first other byte they end.
seam : (ds : List ℕ) (b : ℕ) (rest : List ℕ) → list_all is_ascii_digit ds ≡ true
    → is_ascii_digit b ≡ false → position_or_len is_other (ds ++ b ∷ rest) ≡ length ds
seam [] b rest all other = rw other refl
seam (d ∷ ds) b rest all other =
    let p = and_parts (is_ascii_digit d) (list_all is_ascii_digit ds) all in
    rw p.0 (ap (λ (n : ℕ). 1 + n) (seam ds b rest p.1 other) ∙ (omega arith))

ends_at : (ds : List ℕ) (b : ℕ) (rest : List ℕ) → list_all is_ascii_digit ds ≡ true
    → is_ascii_digit b ≡ false → position is_other (ds ++ b ∷ rest) ≡ Some (length ds)
ends_at ds b rest all other =
    ap (λ (k : ℕ). cond (nat_lt k (length (ds ++ b ∷ rest))) (Some k) None)
    (seam ds b rest all other)
    ∙ ap (λ (t : Bool). cond t (Some (length ds)) None) (lt-ltb (length ds)
    (length (ds ++ b ∷ rest)) (omega (arith, length-append ds (b ∷ rest))))

cut_off : (ds : List ℕ) (b : ℕ) (rest : List ℕ) → list_all is_ascii_digit ds ≡ true
    → is_ascii_digit b ≡ false → first_digits (ds ++ b ∷ rest) ≡ ds
cut_off ds b rest all other = rw (ends_at ds b rest all other) (take-append_seam ds (b ∷ rest))

-- What stands after a number is what was written there.
pub left_after : (n : ℕ) (b : ℕ) (rest : List ℕ) → n < 10 ^ 10 → is_ascii_digit b ≡ false
    → after_digits (decimal n ++ b ∷ rest) ≡ b ∷ rest
left_after n b rest small other =
    rw (ends_at (decimal n) b rest (have_value n (omega (arith, small))).0 other)
    (drop-append_seam (decimal n) (b ∷ rest))

-- A number of ten digits at most is read back.
pub read_back : (n : ℕ) (b : ℕ) (rest : List ℕ) → n < 10 ^ 10 → is_ascii_digit b ≡ false
    → number_of (first_digits (decimal n ++ b ∷ rest)) ≡ Some n
read_back n b rest small other =
    let wide : n < 10 ^ 64 = omega (arith, small) in
    let h = have_value n wide in
    let some : 0 < length (decimal n) = decimal_nonempty n (omega (arith, small)) in
    let short : length (decimal n) ≤ 10 = length-decimal-le_wide 10 n (omega arith) small wide in
    let few : are_few (decimal n) ≡ true = grind (arith, nat_tests, some, short) in
    ap number_of (cut_off (decimal n) b rest h.0 other) ∙ rw (few, h.0)
    (ap (λ (k : ℕ). Some k) h.1)
