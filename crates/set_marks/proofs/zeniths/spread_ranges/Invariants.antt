use Rattle.std.proofs.Common.{◌≡◌, ◌++◌, length}
use Rattle.std.specs.Prelude.{filter}
use Rattle.set_marks.specs.Zeniths.{is_spread}
use Rattle.set_marks.proofs.zeniths.spread_ranges.Given as goal

abbrev pub invariant-targets : goal.invariant-targets
invariant-targets l = l.found ++ filter is_spread l.left ≡ filter is_spread l.ranges

abbrev pub decreases-targets : goal.decreases-targets
decreases-targets l = length l.left
