-- All that is answered of a table is one.
use Rattle.std.proofs.Common.{◌≡◌, ℕ, List, ap, sym, ◌∙◌}
use Rattle.station_book.specs.Stations.{SurveyedStation}
use Rattle.station_book.specs.declared.result_limits.ResultLimits.{ResultLimits}
use Rattle.row_forms.specs.declared.form.RowForm.TheVariants.{Commas}
use Rattle.station_differences.proofs.TextLaws.{one_text}
use Rattle.station_differences.specs.DifferenceTexts.{differences_text}
use Rattle.table_answers.specs.ColumnRows.{table_columns}
use Rattle.table_answers.specs.OneCompared.{one_compared}
use Rattle.table_answers.specs.Wholes.{IsWhole, WholeValue, beyond_in, whole_text}
use Rattle.table_report.proofs.OneReport.{one_of_table}
use Rattle.table_report.specs.Stating.{ReportAsked, ReportValue}

pub one_whole : (asked : ReportAsked) (limits : ResultLimits) (its : SurveyedStation)
    (bytes : List ℕ) (a b : WholeValue) → IsWhole asked limits its bytes a
    → IsWhole asked limits its bytes b → a ≡ b
one_whole asked limits its bytes a b p q =
    let compared : a.compared ≡ b.compared =
    one_compared asked.form its.station limits.residual bytes asked.within a.compared b.compared
    p.compares q.compares in
    let differences : p.differences ≡ q.differences =
    one_text (differences_text Commas) asked.form its.station bytes p.differences q.differences
    p.are_differences q.are_differences in
    let reports = one_of_table asked limits its bytes
    (record { text = p.report; beyond = beyond_in a.compared })
    (record { text = q.report; beyond = beyond_in b.compared }) p.is_report q.is_report in
    let report : p.report ≡ q.report = ap (λ (r : ReportValue). r.text) reports in
    let text : a.text ≡ b.text =
    p.text_is ∙ (λ i. whole_text (compared i)
    (table_columns asked.form its.station.targets bytes) (differences i) (report i))
    ∙ sym q.text_is in
    (λ i. record { compared = compared i; text = text i })
