use Rattle.std.proofs.Common.{◌≡◌, ◌++◌}
use Rattle.direction_table.specs.Texts.{decimals_of}
use Rattle.direction_table.proofs.text.push_decimals.Given as goal

abbrev pub invariant-loop-place : goal.invariant-loop-place
invariant-loop-place l = l.text.items ≡ l.fn.text.items ++ decimals_of l.place l.direction
