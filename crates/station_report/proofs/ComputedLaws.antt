-- What is computed of a station is one, and so is the text of its report.
use Rattle.std.proofs.Common.{◌≡◌, ℕ, List, Option, length, arith, refl, subst, sym, ◌∙◌}
use Rattle.adjust_kernel.specs.Stations.{StationValue}
use Rattle.least_directions.proofs.LeastLaws as directions
use Rattle.station_book.specs.Stations.{SurveyedStation}
use Rattle.station_book.specs.declared.result_limits.ResultLimits.{ResultLimits}
use Rattle.station_report.proofs.DeviationLaws.{one_accuracy}
use Rattle.station_report.specs.NoteTexts.{ReportHead}
use Rattle.station_report.specs.ReportTexts.{report_text}
use Rattle.station_report.specs.Stating.{IsComputed, IsReportText}
use Rattle.station_report.specs.declared.accuracy.Accuracy.{Accuracy}
use Rattle.station_results.proofs.GreatestLaws.{one_greatest}
use Rattle.station_results.proofs.LeastLaws as results
use Rattle.station_results.specs.Greatest.{IsGreatest}
use Rattle.station_results.specs.declared.adjusted.AdjustedObs.{AdjustedObs}

-- The directions, the rows, the place of the greatest residual and the accuracy.
pub one_computed : (station : StationValue) (ds es : List ℕ) (rs ss : List AdjustedObs) (m n : ℕ)
    (d e : Option Accuracy) → IsComputed station ds rs m d → IsComputed station es ss n e
    → (ds ≡ es) × (rs ≡ ss) × (m ≡ n) × (d ≡ e)
one_computed station ds es rs ss m n d e p q =
    let rows = results.one_list station rs ss p.adjusted q.adjusted in
    let greatest : IsGreatest ss m = subst (λ (rows : List AdjustedObs). IsGreatest rows m) rows
    p.is_greatest in (
      directions.one_list station 1_000 ds es (omega arith) refl p.rounded q.rounded,
      rows,
      one_greatest ss (length ss) m n greatest q.is_greatest,
      one_accuracy station d e p.adjusted.adjustable p.is_accuracy q.is_accuracy,
    )

-- A station has one text, with one section.
pub one_text : (head : ReportHead) (limits : ResultLimits) (its : SurveyedStation)
    (section a b : List ℕ) → IsReportText head limits its section a
    → IsReportText head limits its section b → a ≡ b
one_text head limits its section a b p q =
    let one = one_computed its.station p.directions q.directions p.rows q.rows p.greatest q.greatest
    p.accuracy q.accuracy p.computed q.computed in
    p.text_is
    ∙ (λ i. report_text head limits its (one.0 i) section (one.1 i) (one.2 i) (one.3 i))
    ∙ sym q.text_is
