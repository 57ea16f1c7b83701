-- Numbers of 32 bits are short as text, so a long field has none of them.
use Rattle.std.proofs.Common.{◌≡◌, ℕ, suc, ◌^◌, ◌<◌, ◌≤◌, true, false, List, length, ap, arith, inl}
use Rattle.std.proofs.Common.{inr, ℤ, pos, negsuc, FitsSigned, int_le}
use Rattle.std.specs.Fmt.{signed_decimal}
use Rattle.std.specs.Int.{w128, w32}
use Rattle.std.proofs.lemmas.Bool.{and_parts, cases_Bool, leb-true}
use Rattle.std.proofs.lemmas.Fmt.{length-decimal-le_wide}
use Rattle.sheet_format.specs.Numbers.{is_canonical, is_within, value_of}
use Rattle.sheet_format.proofs.OneForm.{form-written}

-- The text of a number between two of 32 bits.
between-short : (low high v : ℤ) → FitsSigned w32 low → FitsSigned w32 high → int_le low v ≡ true
    → int_le v high ≡ true → FitsSigned w128 v × (length (signed_decimal v) ≤ 18)
between-short low (pos h) (pos n) f g a b =
    let small : n < 10 ^ 10 = omega (arith, g.sfits, leb-true n h b) in
    let short = length-decimal-le_wide 10 n (omega arith) small (omega (arith, small)) in
    (record { sfits = omega (arith, small) }, omega (arith, short))
between-short low (negsuc h) (pos n) f g a b = cc b
between-short (pos l) high (negsuc n) f g a b = cc a
between-short (negsuc l) high (negsuc n) f g a b =
    let small : suc n < 10 ^ 10 = omega (arith, f.sfits, leb-true n l a) in
    let short = length-decimal-le_wide 10 (suc n) (omega arith) small (omega (arith, small)) in
    (record { sfits = omega (arith, small) }, omega (arith, short))

-- A canonical decimal longer than 18 bytes lies between no two numbers of 32 bits.
pub long-outside : (low high : ℤ) (bs : List ℕ) → FitsSigned w32 low → FitsSigned w32 high
    → is_canonical bs ≡ true → 18 < length bs → is_within low high (value_of bs) ≡ false
long-outside low high bs f g e long = elim (cases_Bool (is_within low high (value_of bs))) [
  | inl within ↦
      let p = and_parts _ _ within in
      let (fits, short) = between-short low high (value_of bs) f g p.0 p.1 in
      let same = ap length (form-written bs e fits) in
      absurd (omega (arith, same, short, long))
  | inr out ↦ out
]
