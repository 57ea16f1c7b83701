use Rattle.std.proofs.Common.{◌≡◌, [], filter, take}
use Rattle.csv.specs.Records.{fields_of, partial_of}
use Rattle.direction_table.specs.Separators as spec
use Rattle.direction_table.proofs.separator.keep_fields.Given as goal

abbrev pub invariant-loop-at : goal.invariant-loop-at
invariant-loop-at l =
    (fields_of l.kept ≡ filter spec.has_byte (take l.at (fields_of l.raw)))
    × (partial_of l.kept ≡ [])
