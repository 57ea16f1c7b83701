use Rattle.std.proofs.Common.{◌≡◌, ◌++◌, drop}
use Rattle.std.specs.List.{flat_map}
use Rattle.station_mark.specs.ToldRows.{pair_row}
use Rattle.station_mark.proofs.rows.add_pairs.Given as goal

abbrev pub invariant-loop-pair : goal.invariant-loop-pair
invariant-loop-pair l =
    l.text.items ++ flat_map (pair_row l.station) (drop l.pair-index l.pairs)
    ≡ l.fn.text.items ++ flat_map (pair_row l.station) l.pairs
