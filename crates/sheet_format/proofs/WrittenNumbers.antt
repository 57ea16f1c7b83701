-- The text of a number is a canonical decimal, and has its value.
use Rattle.std.proofs.Common.{◌≡◌, ℕ, zero, suc, ◌+◌, ◌%◌, ◌^◌, ◌<◌, true, List, [], ◌∷◌, ◌++◌}
use Rattle.std.proofs.Common.{refl, ap, ◌∙◌, arith, ℤ, pos, negsuc, neg_ℤ, FitsSigned}
use Rattle.std.specs.Char.{is_ascii_digit}
use Rattle.std.specs.Fmt.{decimal, signed_decimal}
use Rattle.std.specs.Int.{w128}
use Rattle.std.specs.Str.Parse.{digits_value, signed_digits_value}
use Rattle.std.proofs.lemmas.Bool.{and_from, and_parts, ne_eqb}
use Rattle.std.proofs.lemmas.Bool.Decides.{nat_tests}
use Rattle.std.proofs.lemmas.Fmt.{decimal_by_steps_wide, decimal_digit, decimal_is_IsNumeral_wide}
use Rattle.std.proofs.lemmas.List.Folds.{list_all-append}
use Rattle.sheet_format.specs.Numbers.{is_canonical, is_positive}
use Rattle.sheet_format.proofs.CanonicalDecimals.{positive-first}

digit-glyph : (d : ℕ) → d < 10 → is_ascii_digit (48 + d) ≡ true
digit-glyph d h = grind (arith, nat_tests)

first-digit : (n : ℕ) → n < 10 → 0 < n → is_positive ((48 + n) ∷ []) ≡ true
first-digit n h p = grind (arith, nat_tests)

positive-push : (ds : List ℕ) (d : ℕ) → is_positive ds ≡ true → is_ascii_digit d ≡ true
    → is_positive (ds ++ (d ∷ [])) ≡ true
positive-push [] d e h = cc e
positive-push (c ∷ cs) d e h =
    let p = and_parts _ _ e in
    and_from _ _ p.0 (list_all-append is_ascii_digit cs (d ∷ [])
    ∙ and_from _ _ p.1 (and_from _ _ h refl))

decimal-positive : (n : ℕ) → n < 10 ^ 64 → 0 < n → is_positive (decimal n) ≡ true
decimal-positive = decimal_by_steps_wide (λ n ds. 0 < n → is_positive ds ≡ true) first-digit
    (λ n ds le more p. positive-push ds (48 + n % 10) (more (omega arith))
    (digit-glyph (n % 10) (omega arith)))

positive-canonical : (ds : List ℕ) → is_positive ds ≡ true → is_canonical ds ≡ true
positive-canonical [] e = e
positive-canonical (c ∷ cs) e =
    let f = positive-first (c ∷ cs) e in
    rw (
      ne_eqb c 48 (λ q. absurd (omega (arith, f, q))),
      ne_eqb c 45 (λ q. absurd (omega (arith, f, q))),
    ) e

-- Digits that begin with 1 to 9 have no sign, so their number is that of the digits.
pub positive-value : (ds : List ℕ) → is_positive ds ≡ true
    → signed_digits_value 10 ds ≡ pos (digits_value 10 ds)
positive-value [] e = cc e
positive-value (c ∷ cs) e =
    let f = positive-first (c ∷ cs) e in
    rw (
      ne_eqb c 45 (λ q. absurd (omega (arith, f, q))),
      ne_eqb c 43 (λ q. absurd (omega (arith, f, q))),
    ) refl

-- The text of a number is a canonical decimal, and has its value.
pub written : (z : ℤ) → FitsSigned w128 z → (is_canonical (signed_decimal z) ≡ true)
    × (signed_digits_value 10 (signed_decimal z) ≡ z)
written (pos zero) f = rw (decimal_digit 0 (omega arith)) (refl, refl)
written (pos (suc n)) f =
    let small : suc n < 10 ^ 64 = omega (arith, f.sfits) in
    let p = decimal-positive (suc n) small (omega arith) in (
      positive-canonical (decimal (suc n)) p,
      positive-value (decimal (suc n)) p
          ∙ ap pos (decimal_is_IsNumeral_wide (suc n) small).1,
    )
written (negsuc n) f =
    let small : suc n < 10 ^ 64 = omega (arith, f.sfits) in
    let p = decimal-positive (suc n) small (omega arith) in
    (p, ap (λ (k : ℕ). neg_ℤ (pos k)) (decimal_is_IsNumeral_wide (suc n) small).1)
