use Rattle.std.proofs.Common.{◌≡◌, ◌≤◌, ◌+◌, length, map, not, take}
use Rattle.std.specs.List.{suffix_len}
use Rattle.csv.specs.Records.{fields_of}
use Rattle.direction_table.specs.Cells.{names_in}
use Rattle.direction_table.proofs.picked.end_of_named.Given as goal

abbrev pub invariant-loop-end : goal.invariant-loop-end
invariant-loop-end l = (l.end ≤ length l.rows)
    × (l.end + suffix_len (λ row. not (names_in l.targets l.names row)) (map fields_of l.rows)
    ≡ length l.rows
    + suffix_len (λ row. not (names_in l.targets l.names row)) (take l.end (map fields_of l.rows)))

abbrev pub decreases-loop-end : goal.decreases-loop-end
decreases-loop-end l = l.end
