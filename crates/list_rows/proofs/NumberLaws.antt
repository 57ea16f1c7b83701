-- The numbers of rows, which have one point: it alone is turned into the form's.
use Rattle.std.proofs.Common.{◌≡◌, ◌∙◌, ℕ, ◌+◌, ◌/◌, ◌%◌, ◌-◌, ◌<◌, ◌≤◌, ◌^◌, List, [], ◌∷◌, ◌++◌}
use Rattle.std.proofs.Common.{FitsSigned, ℤ, pos, negsuc, ap, arith, map, refl, suc, sym, true, zero}
use Rattle.std.specs.Prelude.{decimal, unsigned_abs}
use Rattle.std.specs.Char.{is_ascii_digit}
use Rattle.std.specs.Int.{w32}
use Rattle.std.specs.List.{list_all}
use Rattle.std.proofs.lemmas.Bool.{and_parts, ne_eqb}
use Rattle.std.proofs.lemmas.Bool.Decides.{nat_tests}
use Rattle.std.proofs.lemmas.Fmt.{digits_decimal}
use Rattle.std.proofs.lemmas.List.{map-append}
use Rattle.angle_texts.specs.MgonTexts.{short_mgon_text, sign_text}
use Rattle.direction_table.specs.Texts.{decimals_of, direction_text}
use Rattle.list_rows.specs.RowPieces.{gon_text, mgon_text}
use Rattle.list_rows.proofs.CellLaws.{size-fits}
use Rattle.row_forms.specs.Forms.{number_in, with_comma}
use Rattle.row_forms.specs.declared.form.RowForm.{RowForm}
use Rattle.row_forms.specs.declared.form.RowForm.TheVariants.{Commas, Semicolons}
use Rattle.sheet_format.proofs.CanonicalDecimals.{numerals}

-- A text has no point.
abbrev IsPointless : List ℕ → Type 0
IsPointless text = map with_comma text ≡ text

both-pointless : (a b : List ℕ) → IsPointless a → IsPointless b → IsPointless (a ++ b)
both-pointless a b ha hb = map-append with_comma a b ∙ ap (λ (t : List ℕ). t ++ map with_comma b) ha
    ∙ ap (λ (t : List ℕ). a ++ t) hb

digit-pointless : (b : ℕ) → 48 ≤ b → IsPointless (b ∷ [])
digit-pointless b low = rw (ne_eqb b 46 (omega (arith, low))) refl

digits-pointless : (ds : List ℕ) → list_all is_ascii_digit ds ≡ true → IsPointless ds
digits-pointless [] e = refl
digits-pointless (d ∷ ds) e =
    let parts = and_parts (is_ascii_digit d) (list_all is_ascii_digit ds) e in
    let digit : 48 ≤ d = grind (arith, nat_tests, parts.0) in
    both-pointless (d ∷ []) ds (digit-pointless d digit) (digits-pointless ds parts.1)

decimal-pointless : (n : ℕ) → n < 2 ^ 64 → IsPointless (decimal n)
decimal-pointless n fits = digits-pointless (decimal n) (digits_decimal numerals n fits)

last-pointless : (n : ℕ) → IsPointless ((48 + n % 10) ∷ [])
last-pointless n = digit-pointless (48 + n % 10) (omega arith)

decimals-pointless : (count n : ℕ) → IsPointless (decimals_of count n)
decimals-pointless zero n = refl
decimals-pointless (suc k) n =
    both-pointless (decimals_of k n) _ (decimals-pointless k n) (last-pointless (n / 10 ^ (8 - k)))

sign-pointless : (units : ℤ) → IsPointless (sign_text units)
sign-pointless (pos n) = refl
sign-pointless (negsuc n) = refl

-- A comma stands for the one point of a number.
one-point : (whole decimals : List ℕ) → IsPointless whole → IsPointless decimals
    → map with_comma (whole ++ (46 ∷ decimals)) ≡ whole ++ (44 ∷ decimals)
one-point whole decimals hw hd =
    map-append with_comma whole (46 ∷ decimals)
    ∙ ap (λ (t : List ℕ). t ++ (44 ∷ map with_comma decimals)) hw
    ∙ ap (λ (t : List ℕ). whole ++ (44 ∷ t)) hd

-- A direction in a form has the form's point.
pub gon-in : (form : RowForm) (n : ℕ) → n < 2 ^ 64
    → gon_text form n ≡ number_in form (direction_text 6 n)
gon-in Commas n fits = refl
gon-in Semicolons n fits = sym (one-point (decimal (n / 10 ^ 9)) (decimals_of 6 n)
    (decimal-pointless (n / 10 ^ 9) (omega (arith, fits))) (decimals-pointless 6 n))

-- So has a face difference.
pub mgon-in : (form : RowForm) (units : ℤ) → FitsSigned w32 units
    → mgon_text form units ≡ number_in form (short_mgon_text units)
mgon-in Commas units fits = refl
mgon-in Semicolons units fits =
    let n = unsigned_abs units in
    let small : n < 2 ^ 64 = size-fits units fits in
    let tenths = (48 + n / 10 % 10) ∷ [] in
    let hundredths = (48 + n % 10) ∷ [] in
    let digits = both-pointless tenths hundredths (last-pointless (n / 10)) (last-pointless n) in
    let size = one-point (decimal (n / 100)) (tenths ++ hundredths)
    (decimal-pointless (n / 100) (omega (arith, small))) digits in
    let sign = sign_text units in
    let rest : List ℕ = decimal (n / 100) ++ (46 ∷ (tenths ++ hundredths)) in
    sym (map-append with_comma sign rest
    ∙ ap (λ (t : List ℕ). t ++ map with_comma rest) (sign-pointless units)
    ∙ ap (λ (t : List ℕ). sign ++ t) size)
