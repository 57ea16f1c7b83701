-- A station has one text of each answer.
use Rattle.std.proofs.Common.{◌≡◌, ℕ, List, [], ◌∷◌, ap, refl, sym, ◌∙◌}
use Rattle.adjust_kernel.specs.Stations.{StationValue}
use Rattle.direction_table.specs.TableTexts.{names_of, table_text}
use Rattle.direction_table.specs.Texts.{step_of}
use Rattle.direction_table.specs.declared.table.TargetDirection.{TargetDirection}
use Rattle.least_directions.proofs.LawLemmas.{one_list as one_rounded}
use Rattle.report_rows.specs.RowTexts.{report_rows_text}
use Rattle.report_rows.specs.Stating.{AreReportRows}
use Rattle.row_forms.specs.declared.form.RowForm.{RowForm}
use Rattle.row_forms.specs.declared.form.RowForm.TheVariants.{Commas}
use Rattle.station_answers.specs.Accuracy.{IsAccuracyText, accuracy_text}
use Rattle.station_answers.specs.Directions.{IsDirectionsText, numbers_of}
use Rattle.station_answers.specs.Faces.{faces_text}
use Rattle.station_answers.specs.Parts.{IsWholeText, whole_text}
use Rattle.station_answers.specs.Saying.{SaysReport, SaysResiduals}
use Rattle.station_answers.specs.Steps.{fits}
use Rattle.station_book.specs.Stations.{SurveyedStation}
use Rattle.station_book.specs.declared.result_limits.ResultLimits.{ResultLimits}
use Rattle.station_report.proofs.ComputedLaws.{one_text}
use Rattle.station_report.proofs.DeviationLaws.{one_accuracy as one_accuracy_of}
use Rattle.station_report.specs.NoteTexts.{ReportHead, unnoted}
use Rattle.station_residuals.specs.ResidualTexts.{residuals_text}
use Rattle.station_results.proofs.LeastLaws.{one_list}

-- Rows are their names and numbers.
same_rows : (xs ys : List TargetDirection) → names_of xs ≡ names_of ys
    → numbers_of xs ≡ numbers_of ys → xs ≡ ys
same_rows [] [] e f = refl
same_rows [] (y ∷ ys) e f = absurd cc
same_rows (x ∷ xs) [] e f = absurd cc
same_rows (x ∷ xs) (y ∷ ys) e f =
    let n : x.name ≡ y.name = cc in
    let d : x.direction ≡ y.direction = cc in
    let names : names_of xs ≡ names_of ys = cc in
    let numbers : numbers_of xs ≡ numbers_of ys = cc in
    λ i. record { name = n i; direction = d i } ∷ same_rows xs ys names numbers i

-- Of the directions, in a form and with however many decimals,
pub one_directions : (station : StationValue) (form : RowForm) (count : ℕ) (a b : List ℕ)
    → IsDirectionsText form station count a → IsDirectionsText form station count b → a ≡ b
one_directions station form count a b p q =
    let steps = fits count in
    let numbers = one_rounded station (step_of count) (numbers_of p.stated) (numbers_of q.stated)
    steps.0 steps.1 p.rounded q.rounded in
    p.text_is
    ∙ ap (table_text form count) (same_rows p.stated q.stated (p.named ∙ sym q.named) numbers)
    ∙ sym q.text_is

-- of the residuals,
pub one_residuals : (its : SurveyedStation) (a b : List ℕ) → SaysResiduals its a
    → SaysResiduals its b → a ≡ b
one_residuals its a b p q =
    p.text_is ∙ ap residuals_text (one_list its.station p.rows q.rows p.adjusted q.adjusted)
    ∙ sym q.text_is

-- of the report,
pub one_report : (head : ReportHead) (limits : ResultLimits) (its : SurveyedStation) (a b : List ℕ)
    → SaysReport head limits its a → SaysReport head limits its b → a ≡ b
one_report head limits its a b p q = one_text head limits its [] a b p q

-- and of its rows in a form.
pub one_rows : (form : RowForm) (its : SurveyedStation) (a b : List ℕ) → AreReportRows form its a
    → AreReportRows form its b → a ≡ b
one_rows form its a b p q =
    p.text_is
    ∙ ap (report_rows_text form its) (one_list its.station p.rows q.rows p.adjusted q.adjusted)
    ∙ sym q.text_is

-- of how accurate it is,
pub one_accuracy : (station : StationValue) (a b : List ℕ) → IsAccuracyText station a
    → IsAccuracyText station b → a ≡ b
one_accuracy station a b p q =
    p.text_is
    ∙ ap (accuracy_text station)
    (one_accuracy_of station p.accuracy q.accuracy p.adjustable p.is_accuracy q.is_accuracy)
    ∙ sym q.text_is

-- and of all of it.
pub one_whole : (count : ℕ) (path : List ℕ) (limits : ResultLimits) (its : SurveyedStation)
    (a b : List ℕ) → IsWholeText count path limits its a → IsWholeText count path limits its b
    → a ≡ b
one_whole count path limits its a b p q =
    let directions = one_directions its.station Commas count p.directions q.directions p.are_directions
    q.are_directions in
    let rows = one_rows Commas its p.rows q.rows p.are_rows q.are_rows in
    let accuracy = one_accuracy its.station p.accuracy q.accuracy p.is_accuracy q.is_accuracy in
    let report = one_report (unnoted path) limits its p.report q.report p.is_report q.is_report in
    p.text_is
    ∙ (λ i. whole_text (directions i) (rows i) (accuracy i) (faces_text its) (report i))
    ∙ sym q.text_is
