use Rattle.std.proofs.Common.{◌∙◌, ap, map}
use Rattle.row_forms.specs.declared.form.RowForm.TheVariants.{Commas}
use Rattle.station_differences.specs.DifferenceTexts.{differences_text}
use Rattle.station_differences.specs.declared.line.TargetLine.TheVariants.{Compared as InLine}
use Rattle.table_answers.specs.ColumnRows.{columns_rows}
use Rattle.table_answers.specs.Wholes.{whole_text}
use Rattle.table_answers.proofs.whole.whole_by.Goals as goal

pub returns-clause-text : goal.returns-clause-text
returns-clause-text c =
    let compared = c.in_ok-compared.compared in
    let lines = c.deref-2.ensures.value ∙ c.in_ok-lines.ensures
    ∙ ap (map InLine) c.deref.ensures.value in
    let differences = c.in_ok-differences.ensures ∙ ap (differences_text Commas) lines in
    c.in_ok-text.ensures ∙ (λ i. whole_text compared (columns_rows c.args.by_columns)
    ((c.deref-3.ensures.value ∙ differences) i) (c.deref-4.ensures.value i))
