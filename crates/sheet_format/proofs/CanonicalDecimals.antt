-- Canonical decimals: each is a numeral of plain digits, so the library reads it, whatever its
-- length.
use Rattle.std.proofs.Common.{◌≡◌, ℕ, ◌≤◌, Bool, true, false, List, [], ◌∷◌, length, refl, arith}
use Rattle.std.proofs.Common.{rules, slice_index, ◌==◌, inl, inr, ℤ, pos, negsuc, FitsSigned}
use Rattle.std.proofs.Common.{int_le}
use Rattle.std.specs.Char.{is_ascii_digit}
use Rattle.std.specs.List.{list_all}
use Rattle.std.specs.Str.{IsAscii}
use Rattle.std.specs.Str.Parse.{IsNumeral, digits_value, signed_digits_value, without_leading_sign}
use Rattle.std.proofs.lemmas.Bool.{eqb-true, ne_eqb, cases_Bool, and_parts, leb-true}
use Rattle.std.proofs.lemmas.Bool.Decides.{nat_tests}
use Rattle.std.proofs.lemmas.List.{nil_from_length}
use Rattle.std.proofs.lemmas.Fmt.{IsAscii-from_digits}
use Rattle.std.proofs.lemmas.Str.Ascii.{IsAscii-cons, IsAscii-nil}
use Rattle.std.proofs.lemmas.Str.Parse.{IsDigitsTest, IsNumeralModel, numerals_by_value}
use Rattle.sheet_format.specs.Numbers.{is_canonical, is_positive, is_within}
use Rattle.std.specs.Int.{w128}

own : IsDigitsTest (λ ds. list_all is_ascii_digit ds ≡ true)
own = search rules

-- Bytes that are all digits are what the library reads as a numeral in tens.
pub numerals : IsNumeralModel (λ ds. list_all is_ascii_digit ds ≡ true) (digits_value 10)
numerals = numerals_by_value _ own

-- A digit 1 to 9 and any digits are digits throughout.
pub positive-digits : (ds : List ℕ) → is_positive ds ≡ true → list_all is_ascii_digit ds ≡ true
positive-digits [] e = cc e
positive-digits (c ∷ cs) e = grind (arith, nat_tests)

-- The first of them lies between the digits 1 and 9.
pub positive-first : (ds : List ℕ) → is_positive ds ≡ true → (49 ≤ slice_index ds 0)
    × (slice_index ds 0 ≤ 57)
positive-first [] e = cc e
positive-first (c ∷ cs) e = grind (arith, nat_tests)

positive-numeral : (ds : List ℕ) → is_positive ds ≡ true → IsNumeral 10 ds
positive-numeral [] e = cc e
positive-numeral (c ∷ cs) e = (omega arith, numerals.to (c ∷ cs) (positive-digits (c ∷ cs) e))

positive-ascii : (ds : List ℕ) → is_positive ds ≡ true → IsAscii ds
positive-ascii ds e = IsAscii-from_digits ds (positive-numeral ds e).1

-- A number between two that fit 128 bits fits them.
pub between-fits : (low high v : ℤ) → FitsSigned w128 low → FitsSigned w128 high
    → int_le low v ≡ true → int_le v high ≡ true → FitsSigned w128 v
between-fits (pos l) (pos h) (pos n) f g a b =
    record { sfits = omega (arith, g.sfits, leb-true n h b) }
between-fits (pos l) (negsuc h) (pos n) f g a b = cc b
between-fits (negsuc l) (pos h) (pos n) f g a b =
    record { sfits = omega (arith, g.sfits, leb-true n h b) }
between-fits (negsuc l) (negsuc h) (pos n) f g a b = cc b
between-fits (pos l) h (negsuc n) f g a b = cc a
between-fits (negsuc l) h (negsuc n) f g a b =
    record { sfits = omega (arith, f.sfits, leb-true n l a) }

-- A number's form has a sign, or none, and digits.
canonical-from : (c : ℕ) (cs : List ℕ) (zero_first minus : Bool) → (c == 48) ≡ zero_first
    → (c == 45) ≡ minus → is_canonical (c ∷ cs) ≡ true
    → IsNumeral 10 (without_leading_sign (c ∷ cs)) × IsAscii (c ∷ cs)
canonical-from c cs true minus z m e =
    let none : length cs ≡ 0 = grind (arith, nat_tests) in
    let is48 : c ≡ 48 = eqb-true c 48 z in
    let nil : cs ≡ [] = nil_from_length cs none in
    rw (is48, nil) ((omega arith, (omega arith, tt)), IsAscii-cons 48 [] (omega arith) IsAscii-nil)
canonical-from c cs false true z m e =
    let is45 : c ≡ 45 = eqb-true c 45 m in
    let p : is_positive cs ≡ true = rw (z, m) at e in
    rw is45 (positive-numeral cs p, IsAscii-cons 45 cs (omega arith) (positive-ascii cs p))
canonical-from c cs false false z m e =
    let p : is_positive (c ∷ cs) ≡ true = rw (z, m) at e in
    let f = positive-first (c ∷ cs) p in
    let plus : (c == 43) ≡ false = ne_eqb c 43 (λ q. absurd (omega (arith, f, q))) in
    rw (m, plus) (positive-numeral (c ∷ cs) p, positive-ascii (c ∷ cs) p)

-- A canonical decimal, but for its sign, is a numeral, and all of it is ASCII.
pub canonical-numeral : (bs : List ℕ) → is_canonical bs ≡ true
    → IsNumeral 10 (without_leading_sign bs) × IsAscii bs
canonical-numeral [] e = cc e
canonical-numeral (c ∷ cs) e = canonical-from c cs (c == 48) (c == 45) refl refl e

-- A canonical number that is none of 128 bits is out of the bounds.
pub outside : (low high : ℤ) (bs : List ℕ) → FitsSigned w128 low → FitsSigned w128 high
    → is_canonical bs ≡ true
    → (IsNumeral 10 (without_leading_sign bs) × FitsSigned w128 (signed_digits_value 10 bs) → ⊥)
    → is_within low high (signed_digits_value 10 bs) ≡ false
outside low high bs f g e refused = elim (cases_Bool
    (is_within low high (signed_digits_value 10 bs))) [
      | inl within ↦
          let p = and_parts _ _ within in
          absurd (refused (
            (canonical-numeral bs e).0,
            between-fits low high (signed_digits_value 10 bs) f g p.0 p.1,
          ))
      | inr out ↦ out
    ]
