use Rattle.adjust_kernel.proofs.TallyLaws.{zeros_within, zeros_are_sums}
use Rattle.adjust_kernel.proofs.running.Running.new.Goals as goal

pub invariant_of-result-clause-targets_in : goal.invariant_of-result-clause-targets_in
invariant_of-result-clause-targets_in c = zeros_within 100

pub invariant_of-result-clause-sets_in : goal.invariant_of-result-clause-sets_in
invariant_of-result-clause-sets_in c = zeros_within 40

pub returns-clause-nothing : goal.returns-clause-nothing
returns-clause-nothing c = zeros_are_sums
