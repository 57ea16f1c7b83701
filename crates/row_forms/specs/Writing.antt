-- What a writer of rows of one form has written.
use Rattle.std.specs.Prelude.{◌≡◌, ◌++◌, ℕ, false, List, Option, Some}
use Rattle.csv.specs.Writing.{fields_written, has_written, text_written, writer_setup}
use Rattle.csv.specs.declared.writer.Writer.{Writer}
use Rattle.row_forms.specs.Forms.{writer_of}
use Rattle.row_forms.specs.declared.form.RowForm.{RowForm}

-- a writer of rows of this form stands between two rows, and this text was written
pub record HasWritten {W : Type 0} (form : RowForm) (contents : W → Option (List ℕ))
    (writer : Writer W) (text : List ℕ) : Type 0 where
  pub setup : writer_setup writer ≡ writer_of form
  pub fields : fields_written writer ≡ 0
  pub between : has_written writer ≡ false
  pub whole : text_written contents writer ≡ Some text

-- whatever text stood between two rows before, this was written after it, and again it stands so
abbrev pub Writes : {W : Type 0} → RowForm → (W → Option (List ℕ)) → Writer W → Writer W
    → List ℕ → Type 0
Writes form contents before after written =
    (text : List ℕ) → HasWritten form contents before text
    → HasWritten form contents after (text ++ written)
