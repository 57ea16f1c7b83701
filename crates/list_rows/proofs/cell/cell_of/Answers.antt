use Rattle.std.proofs.Common.{◌≡◌, ◌-◌, ◌∙◌, ◌++◌, ◌∷◌, [], List, ℕ, ap, arith, length}
use Rattle.std.proofs.Common.{length-append, rules, take}
use Rattle.csv.specs.Writing.{field_text, row_text}
use Rattle.row_forms.specs.Forms.{separator, writer_of}
use Rattle.row_forms.specs.declared.form.RowForm.{RowForm}
use Rattle.list_rows.proofs.CellLaws.{cell-short, name-part}
use Rattle.list_rows.proofs.cell.cell_of.Goals as goal

-- What is left of the row before its last two bytes is the name, as it is written.
name-of-row : (form : RowForm) (name row : List ℕ) (count : ℕ) → count ≡ length row
    → row ≡ row_text (writer_of form) (name ∷ [] ∷ [])
    → take (count - 2) row ≡ field_text (writer_of form) name
name-of-row form name row count many is = rw many (name-part form row name is)

pub returns-in_err-row-clause-short : goal.returns-in_err-row-clause-short
returns-in_err-row-clause-short c = cell-short c.args.form c.args.name.now c.bytes-bytes.ensures.valid

pub new-requires : goal.new-requires
new-requires c =
    let form = c.args.form in
    let name = c.args.name.now in
    let row : c.deref.result.now ≡ row_text (writer_of form) (name ∷ [] ∷ []) =
    c.deref.ensures.value
    ∙ rw (c.as_slice.ensures, c.bytes-bytes.ensures.value) at c.in_ok-row.ensures in
    let part = ap length (name-of-row form name c.deref.result.now c.len.result (search rules) row) in
    let short = cell-short form name c.bytes-bytes.ensures.valid in
    omega (arith, part, short, length-append (field_text (writer_of form) name) (separator form ∷ []))

pub returns-then-calls_for_quotes-clause-cell : goal.returns-then-calls_for_quotes-clause-cell
returns-then-calls_for_quotes-clause-cell c =
    let form = c.args.form in
    let row : c.deref.result.now ≡ row_text (writer_of form) (c.args.name.now ∷ [] ∷ []) =
    c.deref.ensures.value
    ∙ rw (c.as_slice.ensures, c.bytes-bytes.ensures.value) at c.in_ok-row.ensures in
    rw c.separator.ensures at c.new.ensures
    ∙ ap (λ (t : List ℕ). t ++ (separator form ∷ []))
    (name-of-row form c.args.name.now c.deref.result.now c.len.result (search rules) row)

pub returns-then-calls_for_quotes-clause-short : goal.returns-then-calls_for_quotes-clause-short
returns-then-calls_for_quotes-clause-short c =
    cell-short c.args.form c.args.name.now c.bytes-bytes.ensures.valid
