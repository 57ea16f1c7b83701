use Rattle.std.proofs.Common.{◌<◌, length, ap, sym, ◌∙◌, option_copied, rules}
use Rattle.station_check.specs.ListTexts.{surveyed_text}
use Rattle.station_check.proofs.ListLaws.{next_one, some_inside}
use Rattle.station_check.proofs.Partway.{in_any_case, partway_then, partway_then_some}
use Rattle.station_check.proofs.list.print_stations.Goals as goal
use Rattle.station_check.proofs.list.print_stations.Goals.{in-Some+in_ok-print_surveyed, in_default}

pub stations-preserved : goal.stations-preserved
stations-preserved g c =
    let stations = c.args.stations.now in
    elim c.match-at.branch [
      | in-Some+in_ok-print_surveyed w ↦
          let here = next_one surveyed_text stations c.stations.place w.in-Some.surveyed.now
          (sym c.at.ensures ∙ ap option_copied w.in-Some.is) in
          rw (w.page-is, w.writer-is) (record {
            text = partway_then _ _ _ _ _ _ _ _ _ _
                c.stations.invariant.text w.in_ok-print_surveyed.ensures.ok here;
            failed = w.in_ok-print_surveyed.ensures.failed ∙ c.stations.invariant.failed;
          })
      | in_default w ↦
          let inside : c.stations.place < length stations = search rules in
          absurd (some_inside stations c.stations.place inside
          (sym c.at.ensures ∙ ap option_copied w.in_default.is))
    ]

pub returns-in_err-print_surveyed-clause-cut_short :
    goal.returns-in_err-print_surveyed-clause-cut_short
returns-in_err-print_surveyed-clause-cut_short g c =
    let stations = c.args.stations.now in
    let here = next_one surveyed_text stations c.stations.place c.in-Some.surveyed.now
    (sym c.at.ensures ∙ ap option_copied c.in-Some.is) in
    in_any_case c.from_residual.result (partway_then_some _ _ _ _ _ _ _ _ _
    c.stations.invariant.text c.in_err-print_surveyed.ensures.cut_short here)
