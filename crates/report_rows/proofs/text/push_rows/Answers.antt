use Rattle.std.proofs.Common.{◌∙◌, ◌≤◌, ◌++◌, List, ℕ, length, map, rules}
use Rattle.std.proofs.Common.{ap, subst, take, zip}
use Rattle.std.proofs.lemmas.List.{map-id}
use Rattle.adjust_kernel.specs.Stations.{StationValue}
use Rattle.report_rows.specs.RowTexts.{row_of}
use Rattle.list_rows.proofs.RowLaws.{all-pairs, pair-joined}
use Rattle.row_forms.specs.Forms.{rows_text}
use Rattle.row_forms.specs.Writing.{HasWritten}
use Rattle.station_results.specs.declared.adjusted.AdjustedObs.{AdjustedObs}
use Rattle.report_rows.proofs.text.push_rows.Goals as goal

pub observations-preserved : goal.observations-preserved
observations-preserved g c text h =
    let form = c.args.form in
    let its = c.args.surveyed.now in
    let rows = c.args.rows.now in
    let place = c.observations.place in
    let row = c.row_at-row.result in
    let differences = c.differences_at-differences.result in
    let line = row_of form its.station.name in
    let before = text ++ rows_text form (map line (take place (zip rows its.faces))) in
    let named = c.name-name.ensures.value
    ∙ ap (λ (s : StationValue). s.name) c.station.ensures in
    let written = rw named at c.in_ok-push_observation.ensures in
    let more = rw (map-id rows) at (pair-joined form (λ (a : AdjustedObs). a) line text rows its.faces
    place row differences c.row_at-row.ensures c.differences_at-differences.ensures) in
    subst (λ (t : List ℕ). HasWritten {W = g.row.W.Denot} form g.W.Write.contents
    c.push_observation.new.writer t) more (written before (c.observations.invariant text h))

pub returns : goal.returns
returns g c text h =
    let its = c.args.surveyed.now in
    let rows = c.args.rows.now in
    let past : length rows ≤ c.observations.place = search rules in
    let whole = rw (map-id rows) at (all-pairs (λ (a : AdjustedObs). a) rows its.faces
    c.observations.place past) in
    rw whole at (c.observations.invariant text h)
