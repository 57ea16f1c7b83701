use Rattle.adjust_kernel.specs.declared.kernel_fault.KernelFault.TheVariants.{TargetSum, SetSum}
use Rattle.adjust_kernel.specs.declared.kernel_fault.KernelFault.TheVariants.{NotConnected}
use Rattle.adjust_kernel.proofs.VerdictLaws.{clear_where_refused, matches_where_refused}
use Rattle.adjust_kernel.proofs.laws.refusal.Goals as goal

pub returns : goal.returns
returns c = record {
  matches = matches_where_refused;
  targets = λ station sheet limit fault v past.
      clear_where_refused station sheet limit fault v (TargetSum 0) past;
  sets = λ station sheet limit fault v past. clear_where_refused station sheet limit fault v
      (SetSum 0) past;
  connection = λ station sheet limit fault v past.
      clear_where_refused station sheet limit fault v NotConnected past;
}
