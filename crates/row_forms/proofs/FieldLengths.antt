-- How long a field is as it is written.
use Rattle.std.proofs.Common.{ℕ, ◌+◌, ◌*◌, ◌≤◌, ◌==◌, Bool, true, false, List, [], ◌∷◌, arith}
use Rattle.std.proofs.Common.{length, length-append}
use Rattle.std.specs.Prelude.{if◌then◌else◌}
use Rattle.csv.specs.Writing.{escaped, field_text, needs_quotes, quoted}
use Rattle.row_forms.specs.Forms.{writer_of}
use Rattle.row_forms.specs.declared.form.RowForm.{RowForm}

-- A field in quotes is at most twice as long, and two quotes.
escaped-more : (b : Bool) (q c : ℕ) (rest : List ℕ) (n : ℕ) → length rest ≤ 2 * n
    → length (if b then q ∷ c ∷ rest else c ∷ rest) ≤ 2 * (n + 1)
escaped-more true q c rest n h = omega (arith, h)
escaped-more false q c rest n h = omega (arith, h)

length-escaped : (form : RowForm) (field : List ℕ)
    → length (escaped (writer_of form) field) ≤ 2 * length field
unfolding escaped
length-escaped form [] = omega arith
length-escaped form (c ∷ rest) = let h = escaped-more (c == 34) 34 c
    (escaped (writer_of form) rest) (length rest) (length-escaped form rest) in omega (arith, h)

-- The text of a field is at most twice as long as the field, and two quotes.
pub length-field : (form : RowForm) (field : List ℕ) → length (field_text (writer_of form) field)
    ≤ 2 * length field + 2
length-field form field = by (needs_quotes (writer_of form) field)
  where
    by : (b : Bool) → length (if b then quoted (writer_of form) field else field)
        ≤ 2 * length field + 2
    by true = omega (
      arith,
      length-append (escaped (writer_of form) field) (34 ∷ []),
      length-escaped form field,
    )
    by false = omega arith
