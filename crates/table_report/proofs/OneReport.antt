-- A station and the bytes of a table have one report.
use Rattle.std.proofs.Common.{◌≡◌, ℕ, List, ℤ, Option, ap, sym, subst, ◌∙◌}
use Rattle.adjust_kernel.specs.Stations.{StationValue}
use Rattle.direction_table.proofs.LawLemmas.{one_table}
use Rattle.directions_apart.specs.Apart.{stated_by}
use Rattle.least_directions.proofs.LeastLaws.{one_distance}
use Rattle.report_phrases.specs.declared.language.Language.{Language}
use Rattle.station_book.specs.Stations.{SurveyedStation}
use Rattle.station_book.specs.declared.result_limits.ResultLimits.{ResultLimits}
use Rattle.station_compare.specs.LimitInForce.{limit_in_force, off_in}
use Rattle.station_compare.specs.declared.how_far.HowFar.{HowFar}
use Rattle.station_differences.proofs.LeastLaws.{one_list}
use Rattle.station_report.proofs.ComputedLaws.{one_text}
use Rattle.station_report.specs.Stating.{IsReportText}
use Rattle.table_report.specs.Sections.{section_text}
use Rattle.table_report.specs.Stating.{IsReportBeside, IsReportOfTable, IsSection, ReportAsked}
use Rattle.table_report.specs.Stating.{ReportValue, beyond_of}

-- A section, and whether directions are apart, are one.
one_section : (language : Language) (station : StationValue) (path : List ℕ)
    (directions : List ℤ) (off limit : ℕ) (a b : List ℕ) (x y : Option HowFar)
    → IsSection language station path directions off limit a x
    → IsSection language station path directions off limit b y → (a ≡ b) × (x ≡ y)
one_section language station path directions off limit a b x y p q =
    let rows = one_list station directions p.rows q.rows p.compared q.compared in
    let apart = one_distance station (stated_by directions) off p.how_far.apart
    q.how_far.apart p.are_apart q.are_apart in
    let limits = p.held_to ∙ sym q.held_to in
    let how_far : p.how_far ≡ q.how_far = λ i. record { apart = apart i; limit = limits i } in (
      p.section_is ∙ (λ i. section_text language path station (rows i) (how_far i))
          ∙ sym q.section_is,
      p.beyond_is ∙ ap beyond_of how_far ∙ sym q.beyond_is,
    )

-- A report with stated directions is one.
one_beside : (asked : ReportAsked) (limits : ResultLimits) (its : SurveyedStation)
    (directions : List ℤ) (off limit : ℕ) (a b : ReportValue)
    → IsReportBeside asked limits its directions off limit a
    → IsReportBeside asked limits its directions off limit b → a ≡ b
one_beside asked limits its directions off limit a b p q =
    let (section, beyond) = one_section asked.head.notes.language its.station asked.table_path
    directions off limit p.section q.section a.beyond b.beyond p.is_section q.is_section in
    let text = one_text asked.head limits its q.section a.text b.text
    (subst (λ (s : List ℕ). IsReportText asked.head limits its s a.text) section p.is_report)
    q.is_report in
    (λ i. record { text = text i; beyond = beyond i })

-- A report with a table's bytes is one.
pub one_of_table : (asked : ReportAsked) (limits : ResultLimits) (its : SurveyedStation)
    (bytes : List ℕ) (a b : ReportValue) → IsReportOfTable asked limits its bytes a
    → IsReportOfTable asked limits its bytes b → a ≡ b
one_of_table asked limits its bytes a b p q =
    let targets = its.station.targets in
    let directions = one_table asked.form targets bytes p.directions q.directions p.states q.states
    in
    one_beside asked limits its q.directions (off_in asked.form targets bytes)
    (limit_in_force asked.form asked.within targets bytes) a b
    (subst (λ (ds : List ℤ). IsReportBeside asked limits its ds (off_in asked.form targets bytes)
    (limit_in_force asked.form asked.within targets bytes)
    a) directions p.beside) q.beside
