use Rattle.std.proofs.Common.{◌≡◌, ◌++◌, drop}
use Rattle.station_mark.specs.Notes.{pair_lines}
use Rattle.station_mark.proofs.notes.add_pairs.Given as goal

abbrev pub invariant-loop-pair : goal.invariant-loop-pair
invariant-loop-pair l =
    l.text.items ++ pair_lines l.name (drop l.pair-index l.pairs)
    ≡ l.fn.text.items ++ pair_lines l.name l.pairs
