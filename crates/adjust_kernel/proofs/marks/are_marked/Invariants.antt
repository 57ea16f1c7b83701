use Rattle.std.proofs.Common.{◌≡◌, ℕ, ◌<◌, true}
use Rattle.adjust_kernel.specs.Marks.{mark}
use Rattle.adjust_kernel.proofs.marks.are_marked.Given as goal

abbrev pub invariant-loop-n : goal.invariant-loop-n
invariant-loop-n l = (k : ℕ) → k < l.n → mark l.marks k ≡ true
