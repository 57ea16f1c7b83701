use Rattle.adjust_kernel.specs.declared.kernel_fault.KernelFault.TheVariants.{TargetSum, SetSum}
use Rattle.adjust_kernel.specs.declared.kernel_fault.KernelFault.TheVariants.{NotConnected}
use Rattle.adjust_kernel.specs.declared.kernel_fault.KernelFault.TheVariants.{Residual}
use Rattle.adjust_kernel.proofs.VerdictLaws.{accepted_sheet, clear_where_accepted}
use Rattle.adjust_kernel.proofs.VerdictLaws.{matches_where_accepted}
use Rattle.adjust_kernel.proofs.laws.acceptance.Goals as goal

pub returns : goal.returns
returns c = record {
  matches = λ station sheet limit a. matches_where_accepted station sheet limit a.0 a.1;
  targets = λ station sheet limit a. clear_where_accepted station sheet limit a.0 a.1 (TargetSum 0);
  sets = λ station sheet limit a. clear_where_accepted station sheet limit a.0 a.1 (SetSum 0);
  connection = λ station sheet limit a. clear_where_accepted station sheet limit a.0 a.1
      NotConnected;
  residuals = λ station sheet limit a. clear_where_accepted station sheet limit a.0 a.1
      (Residual 0);
  accepted = accepted_sheet;
}
