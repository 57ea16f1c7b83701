use Rattle.std.proofs.Common.{◌≡◌, ◌++◌, drop}
use Rattle.std.specs.List.{flat_map}
use Rattle.station_mark.specs.ToldRows.{zenith_row}
use Rattle.station_mark.proofs.rows.add_zeniths.Given as goal

abbrev pub invariant-loop-range : goal.invariant-loop-range
invariant-loop-range l =
    l.text.items ++ flat_map (zenith_row l.station) (drop l.range-index l.ranges)
    ≡ l.fn.text.items ++ flat_map (zenith_row l.station) l.ranges
