use Rattle.std.proofs.Common.{◌≡◌, ◌++◌}
use Rattle.station_report.specs.Columns.{each_place}
use Rattle.station_report.specs.GapTexts.{lacking_number}
use Rattle.station_report.proofs.gaps.push_lacking_sets.Given as goal

abbrev pub invariant-loop-set : goal.invariant-loop-set
invariant-loop-set l =
    l.text.items ≡ l.fn.text.items
    ++ each_place l.set (lacking_number l.fn.station l.fn.target)
