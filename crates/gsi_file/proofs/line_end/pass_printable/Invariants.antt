use Rattle.std.proofs.Common.{ℕ, ◌≤◌, ◌<◌, ◌-◌}
use Rattle.std.specs.Prelude.{slice_index}
use Rattle.gsi_word.specs.Words.{IsLineByte}
use Rattle.gsi_file.proofs.line_end.pass_printable.Given as goal

abbrev pub invariant-loads : goal.invariant-loads
invariant-loads l = record {
  low : l.from ≤ l.at;
  high : l.at ≤ l.to;
  printable : (k : ℕ) → l.from ≤ k → k < l.at → IsLineByte (slice_index l.bytes k);
}

abbrev pub decreases-loads : goal.decreases-loads
decreases-loads l = l.to - l.at
