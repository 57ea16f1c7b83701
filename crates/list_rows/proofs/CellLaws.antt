-- Cells: what `csv` writes of a name, and of numbers, which call for no quotes in either form.
use Rattle.std.proofs.Common.{◌≡◌, ℕ, ◌+◌, ◌/◌, ◌%◌, ◌<◌, ◌≤◌, ◌^◌, List, [], ◌∷◌, ◌++◌}
use Rattle.std.proofs.Common.{true, false, ap, append_assoc, arith, length, refl, zero, suc}
use Rattle.std.proofs.Common.{FitsSigned, ℤ, pos, negsuc, ◌-◌, ◌∙◌, length-append}
use Rattle.std.proofs.Common.{sym, take}
use Rattle.std.specs.Prelude.{codes, decimal, if◌then◌else◌, unsigned_abs}
use Rattle.std.specs.List.{list_all}
use Rattle.std.specs.Char.{is_ascii_digit}
use Rattle.std.specs.Int.{w32}
use Rattle.std.proofs.lemmas.Bool.{and_parts, ne_eqb}
use Rattle.std.proofs.lemmas.Bool.Decides.{nat_tests}
use Rattle.std.proofs.lemmas.Fmt.{digits_decimal}
use Rattle.std.proofs.lemmas.List.{length-take-le, take-take, take_at}
use Rattle.std.proofs.Math.Seq.{take-append-add}
use Rattle.std.proofs.lemmas.List.Folds.{list_any-append}
use Rattle.adjust_kernel.specs.Names.{IsName}
use Rattle.csv.specs.Writing.{field_text, fields_text, is_blank, needs_byte}
use Rattle.csv.specs.Writing.{needs_quotes, quoted, row_text}
use Rattle.angle_texts.specs.MgonTexts.{sign_text}
use Rattle.direction_table.specs.Texts.{decimals_of}
use Rattle.list_rows.specs.RowPieces.{cell_text, gon_text, hundredths_text, mgon_text}
use Rattle.list_rows.specs.RowTexts.{titles}
use Rattle.sheet_format.proofs.CanonicalDecimals.{numerals}
use Rattle.row_forms.proofs.FieldLengths.{length-field}
use Rattle.row_forms.specs.Forms.{point_of, separator, writer_of}
use Rattle.row_forms.specs.declared.form.RowForm.{RowForm}
use Rattle.row_forms.specs.declared.form.RowForm.TheVariants.{Commas, Semicolons}

-- A field is plain that calls for no quotes.
abbrev pub IsPlain : RowForm → List ℕ → Type 0
IsPlain form field = needs_quotes (writer_of form) field ≡ false

-- A plain field is written as it is.
pub plain-field : (form : RowForm) (field : List ℕ) → IsPlain form field
    → field_text (writer_of form) field ≡ field
plain-field form field h = ap (λ b. if b then quoted (writer_of form) field else field) h

-- Two plain fields make a plain one.
pub plain-both : (form : RowForm) (a b : List ℕ) → IsPlain form a → IsPlain form b
    → IsPlain form (a ++ b)
plain-both form a b ha hb = rw (list_any-append (needs_byte (writer_of form)) a b, ha, hb) refl

-- A digit or a minus is plain.
byte-plain : (form : RowForm) (b : ℕ) → 45 ≤ b → b ≤ 57 → needs_byte (writer_of form) b ≡ false
byte-plain Commas b low high = rw (
  ne_eqb b 44 (omega (arith, low)),
  ne_eqb b 34 (omega (arith, low)),
  ne_eqb b 13 (omega (arith, low)),
  ne_eqb b 10 (omega (arith, low)),
) refl
byte-plain Semicolons b low high = rw (
  ne_eqb b 59 (omega (arith, high)),
  ne_eqb b 34 (omega (arith, low)),
  ne_eqb b 13 (omega (arith, low)),
  ne_eqb b 10 (omega (arith, low)),
) refl

one-plain : (form : RowForm) (b : ℕ) → 45 ≤ b → b ≤ 57 → IsPlain form (b ∷ [])
one-plain form b low high = rw (byte-plain form b low high) refl

digits-plain : (form : RowForm) (ds : List ℕ) → list_all is_ascii_digit ds ≡ true
    → IsPlain form ds
digits-plain form [] e = refl
digits-plain form (d ∷ ds) e =
    let parts = and_parts (is_ascii_digit d) (list_all is_ascii_digit ds) e in
    let digit : (48 ≤ d) × (d ≤ 57) = grind (arith, nat_tests, parts.0) in
    plain-both form (d ∷ []) ds (one-plain form d (omega (arith, digit.0)) digit.1)
    (digits-plain form ds parts.1)

-- A number is plain.
pub decimal-plain : (form : RowForm) (n : ℕ) → n < 2 ^ 64 → IsPlain form (decimal n)
decimal-plain form n fits = digits-plain form (decimal n) (digits_decimal numerals n fits)

-- The point of a form is plain.
point-plain : (form : RowForm) → IsPlain form (point_of form ∷ [])
point-plain Commas = refl
point-plain Semicolons = refl

last-digit-plain : (form : RowForm) (n : ℕ) → IsPlain form ((48 + n % 10) ∷ [])
last-digit-plain form n = one-plain form (48 + n % 10) (omega arith) (omega arith)

decimals-plain : (form : RowForm) (count n : ℕ) → IsPlain form (decimals_of count n)
decimals-plain form zero n = refl
decimals-plain form (suc k) n =
    plain-both form (decimals_of k n) _ (decimals-plain form k n)
    (last-digit-plain form (n / 10 ^ (8 - k)))

-- A direction is plain.
pub gon-plain : (form : RowForm) (n : ℕ) → n < 2 ^ 64 → IsPlain form (gon_text form n)
gon-plain form n fits =
    plain-both form (decimal (n / 10 ^ 9)) _
    (decimal-plain form (n / 10 ^ 9) (omega (arith, fits)))
    (plain-both form (point_of form ∷ []) (decimals_of 6 n) (point-plain form)
    (decimals-plain form 6 n))

sign-plain : (form : RowForm) (units : ℤ) → IsPlain form (sign_text units)
sign-plain form (pos n) = refl
sign-plain Commas (negsuc n) = refl
sign-plain Semicolons (negsuc n) = refl

hundredths-plain : (form : RowForm) (n : ℕ) → n < 2 ^ 64 → IsPlain form (hundredths_text form n)
hundredths-plain form n fits =
    let tenths = (48 + n / 10 % 10) ∷ [] in
    let hundredths = (48 + n % 10) ∷ [] in
    plain-both form (decimal (n / 100)) (point_of form ∷ (tenths ++ hundredths))
    (decimal-plain form (n / 100) (omega (arith, fits)))
    (plain-both form (point_of form ∷ []) (tenths ++ hundredths) (point-plain form)
    (plain-both form tenths hundredths (last-digit-plain form (n / 10)) (last-digit-plain form n)))

pub size-fits : (units : ℤ) → FitsSigned w32 units → unsigned_abs units < 2 ^ 64
size-fits (pos n) h = omega (arith, h.sfits)
size-fits (negsuc n) h = omega (arith, h.sfits)

-- A face difference is plain.
pub mgon-plain : (form : RowForm) (units : ℤ) → FitsSigned w32 units
    → IsPlain form (mgon_text form units)
mgon-plain form units fits =
    plain-both form (sign_text units) (hundredths_text form (unsigned_abs units))
    (sign-plain form units) (hundredths-plain form (unsigned_abs units) (size-fits units fits))

-- A row of six fields, of which the first and the third are names.
pub six-pieces : (form : RowForm) (station set target direction two_c two_i : List ℕ)
    → IsPlain form set → IsPlain form direction → IsPlain form two_c → IsPlain form two_i
    → (cell_text form station ++ (set ++ (separator form ∷ []))) ++ (cell_text form target
    ++ (direction ++ (separator form
    ∷ (two_c ++ (separator form ∷ (two_i ++ (10 ∷ [])))))))
    ≡ row_text (writer_of form) (station ∷ set ∷ target ∷ direction ∷ two_c ∷ two_i ∷ [])
unfolding fields_text is_blank
six-pieces form station set target direction two_c two_i ps pd pc pi =
    rw (
      plain-field form set ps,
      plain-field form direction pd,
      plain-field form two_c pc,
      plain-field form two_i pi,
    ) (simp append_assoc refl)

-- The row of a name and an empty field.
pub name-row : (form : RowForm) (name : List ℕ) → row_text (writer_of form) (name ∷ [] ∷ [])
    ≡ cell_text form name ++ (10 ∷ [])
unfolding fields_text is_blank
name-row form name = refl

-- The rows of titles.
pub title-row : codes "station,set,target,direction,2c,2i\n" ≡ row_text (writer_of Commas) titles
unfolding fields_text is_blank
title-row = refl

pub title-row-of-semicolons : codes "station;set;target;direction;2c;2i\n"
    ≡ row_text (writer_of Semicolons) titles
unfolding fields_text is_blank
title-row-of-semicolons = refl

-- Of a row of a name and an empty field, all but its last two bytes are the name.
pub name-part : (form : RowForm) (row name : List ℕ)
    → row ≡ row_text (writer_of form) (name ∷ [] ∷ [])
    → take (length row - 2) row ≡ field_text (writer_of form) name
name-part form row name is =
    let field = field_text (writer_of form) name in
    let end = separator form ∷ 10 ∷ [] in
    let whole : row ≡ field ++ end =
    is ∙ name-row form name ∙ append_assoc field (separator form ∷ []) (10 ∷ []) in
    let count = ap length whole ∙ length-append field end in
    ap (take (length row - 2)) whole
    ∙ take_at field end (length row - 2) (omega (arith, count))

-- A cell of a name is short.
pub cell-short : (form : RowForm) (name : List ℕ) → IsName name
    → length (cell_text form name) ≤ 35
cell-short form name is = omega (
  arith,
  length-append (field_text (writer_of form) name) (separator form ∷ []),
  length-field form name,
  is.short,
)

-- The first bytes of what was put, where all of it was put.
pub put-start : (room old text : List ℕ) (at n end : ℕ) → at ≤ length old → at + n ≤ end
    → take end room ≡ take at old ++ text → take (at + n) room ≡ take at old ++ take n text
put-start room old text at n end inside short whole =
    let first = take at old in
    let size : length first ≡ at = length-take-le at old inside in
    sym (take-take (at + n) end room short) ∙ ap (take (at + n)) whole
    ∙ ap (λ k. take (k + n) (first ++ text)) (sym size) ∙ take-append-add first text n
