-- The lemmas of the laws, by the names of the laws: what proofs of other crates cite.
use Rattle.std.proofs.Common.{ℕ, Option}
use Rattle.std.specs.Prelude.{IfSome}
use Rattle.adjust_kernel.specs.Sheets.{SheetValue}
use Rattle.adjust_kernel.specs.Stations.{StationValue}
use Rattle.adjust_kernel.specs.Verdict.{IsAcceptedSheet, KeepsLimit}
use Rattle.adjust_kernel.specs.declared.kernel_fault.KernelFault.TheVariants.{Residual}
use Rattle.adjust_kernel.proofs.VerdictLaws.{clear_where_accepted}
pub use Rattle.adjust_kernel.proofs.VerdictLaws.{only_one_verdict as one_verdict, some_verdict}
pub use Rattle.adjust_kernel.proofs.VerdictLaws.{accepted_sheet}

-- An accepted sheet keeps the residual limit, if one is stated.
pub accepted_keeps_limit : (station : StationValue) (sheet : SheetValue) (limit : Option ℕ)
    → IsAcceptedSheet station sheet limit → IfSome limit (KeepsLimit station sheet)
accepted_keeps_limit station sheet limit a =
    clear_where_accepted station sheet limit a.0 a.1 (Residual 0)
