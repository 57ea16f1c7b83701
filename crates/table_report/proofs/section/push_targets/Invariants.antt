use Rattle.std.proofs.Common.{◌≡◌, ◌++◌, flat_map, take}
use Rattle.station_differences.specs.DifferenceTexts.{are_short}
use Rattle.station_differences.specs.Medians.{median_of}
use Rattle.table_report.specs.Sections.{target_line}
use Rattle.table_report.proofs.section.push_targets.Given as goal

abbrev pub invariant-loop-row : goal.invariant-loop-row
invariant-loop-row l =
    l.text.items ≡ l.fn.text.items
    ++ flat_map (target_line (are_short l.rows) (median_of l.rows)) (take l.row-index l.rows)
