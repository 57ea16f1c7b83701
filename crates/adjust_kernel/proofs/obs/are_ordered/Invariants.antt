use Rattle.adjust_kernel.specs.Stations.{IsBefore}
use Rattle.adjust_kernel.proofs.EachTwo.{PairsBelow}
use Rattle.adjust_kernel.proofs.obs.are_ordered.Given as goal

abbrev pub invariant-loop-place : goal.invariant-loop-place
invariant-loop-place l = PairsBelow IsBefore l.obs l.place
