use Rattle.std.proofs.Common.{codes}
use Rattle.direction_table.specs.Texts.{direction_text}
use Rattle.station_differences.specs.JsonLines.{json_directions, json_stated}
use Rattle.station_differences.specs.Lines.{least_on}
use Rattle.station_differences.proofs.Appended.{four}
use Rattle.station_differences.proofs.json_lines.push_directions.Goals as goal

pub returns : goal.returns
unfolding json_directions
returns c =
    let line = c.args.line.now in
    four _ _ _ _ _ (codes ",\"stated\":") (json_stated c.args.short line)
    (codes ",\"least_squares\":") (direction_text 6 (least_on line))
    c.in_ok-extend_from_slice.ensures.items c.in_ok-push_stated_or_null.ensures
    c.in_ok-extend_from_slice-2.ensures.items
    (rw c.least.ensures at c.in_ok-push_gon.ensures.added)
