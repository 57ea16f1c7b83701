use Rattle.std.proofs.Common.{◌≡◌, map, take}
use Rattle.station_answers.proofs.directions.rows_of.Given as goal

-- The rows of the targets so far.
abbrev pub invariant-loop-place : goal.invariant-loop-place
invariant-loop-place l = record {
  names : map (λ row. row.name) l.rows.items ≡ take l.place l.targets;
  directions : map (λ row. row.direction) l.rows.items ≡ take l.place l.directions;
}
