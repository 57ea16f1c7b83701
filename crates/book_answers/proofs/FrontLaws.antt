-- The cell of a name, as a row has it.
use Rattle.std.proofs.Common.{◌≡◌, ◌∙◌, ◌∷◌, ◌++◌, ◌-◌, List, ℕ, [], ap, arith, length}
use Rattle.std.proofs.Common.{length-append, take}
use Rattle.std.proofs.lemmas.List.{take_at}
use Rattle.csv.specs.Writing.{row_text}
use Rattle.list_rows.proofs.CellLaws.{name-row}
use Rattle.list_rows.specs.RowPieces.{cell_text}
use Rattle.row_forms.specs.Forms.{writer_of}
use Rattle.row_forms.specs.declared.form.RowForm.{RowForm}

-- Of a row of a name and an empty cell, all but its last byte is the cell and its separator.
pub front-part : (form : RowForm) (row name : List ℕ)
    → row ≡ row_text (writer_of form) (name ∷ [] ∷ [])
    → take (length row - 1) row ≡ cell_text form name
front-part form row name is =
    let cell = cell_text form name in
    let whole : row ≡ cell ++ (10 ∷ []) = is ∙ name-row form name in
    let count = ap length whole ∙ length-append cell (10 ∷ []) in
    ap (take (length row - 1)) whole ∙ take_at cell (10 ∷ []) (length row - 1) (omega (arith, count))
