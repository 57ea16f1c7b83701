use Rattle.std.proofs.Common.{◌≡◌, ◌*◌, take, pos}
use Rattle.adjust_kernel.specs.Tallies.{added_for_target}
use Rattle.adjust_kernel.specs.Within.{IsWithin}
use Rattle.adjust_kernel.proofs.scan.target_sum_of.Given as goal

abbrev pub invariant-loop-one : goal.invariant-loop-one
invariant-loop-one l = record {
  sum : l.sum ≡ added_for_target (take l.one-index l.added) l.target;
  bound : IsWithin (pos (2_800_000_000_000_000_000_000 * l.one-index)) l.sum;
}
