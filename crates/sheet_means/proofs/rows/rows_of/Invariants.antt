use Rattle.std.proofs.Common.{◌≡◌, ◌≤◌, length}
use Rattle.std.specs.Vec.{vec_capacity}
use Rattle.sheet_means.proofs.RowLaws.{AreRowsTo}
use Rattle.sheet_means.proofs.rows.rows_of.Given as goal

-- The rows of the observations so far, and there is room for all.
abbrev pub invariant-loop-obs : goal.invariant-loop-obs
invariant-loop-obs l = record {
  so_far : AreRowsTo l.station l.rows.items l.obs-index;
  each : length l.rows.items ≡ l.obs-index;
  room : length l.station.obs ≤ vec_capacity l.rows;
}
