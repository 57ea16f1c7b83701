use Rattle.std.proofs.Common.{◌<◌, ◌++◌, ◌∙◌, ap, length, option_copied, rules}
use Rattle.std.proofs.Common.{sym}
use Rattle.std.proofs.lemmas.List.{take_all}
use Rattle.list_rows.specs.RowTexts.{rows_of}
use Rattle.list_rows.proofs.RowLaws.{entries-joined}
use Rattle.row_forms.specs.Forms.{rows_text}
use Rattle.station_check.proofs.ListLaws.{some_inside}
use Rattle.list_rows.proofs.text.push_stations.Goals as goal
use Rattle.list_rows.proofs.text.push_stations.Goals.{in-Some+in_ok-push_surveyed, in_default}

pub stations-preserved : goal.stations-preserved
stations-preserved c =
    let stations = c.args.stations.now in
    let place = c.stations.place in
    elim c.match-at.branch [
      | in-Some+in_ok-push_surveyed w ↦
          let surveyed = w.in-Some.surveyed.now in
          rw w.text-is
          (w.in_ok-push_surveyed.ensures
          ∙ ap (λ t. t ++ rows_text c.args.form (rows_of c.args.form surveyed)) c.stations.invariant
          ∙ entries-joined c.args.form (rows_of c.args.form) c.args.text.now.items stations place surveyed
          (sym c.at.ensures ∙ ap option_copied w.in-Some.is))
      | in_default w ↦
          let inside : place < length stations = search rules in
          absurd (some_inside stations place inside
          (sym c.at.ensures ∙ ap option_copied w.in_default.is))
    ]

pub returns : goal.returns
returns c =
    let whole = take_all c.stations.place c.args.stations.now (search rules) in
    rw whole at c.stations.invariant
