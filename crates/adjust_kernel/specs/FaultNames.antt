-- The names of faults, as the line of a refusal has them, and the numbers that they carry
-- (profile).
use Rattle.std.specs.Prelude.{ℕ, List, Option, Some, None, codes}
use Rattle.adjust_kernel.specs.declared.kernel_fault.KernelFault.{KernelFault}
use Rattle.adjust_kernel.specs.declared.kernel_fault.KernelFault.TheVariants.{Name, TargetRow}
use Rattle.adjust_kernel.specs.declared.kernel_fault.KernelFault.TheVariants.{SetRow, ObsRow}
use Rattle.adjust_kernel.specs.declared.kernel_fault.KernelFault.TheVariants.{Datum, TargetSum}
use Rattle.adjust_kernel.specs.declared.kernel_fault.KernelFault.TheVariants.{SetSum, NotConnected}
use Rattle.adjust_kernel.specs.declared.kernel_fault.KernelFault.TheVariants.{Residual}

-- The name of a fault of a sheet against its station.
abbrev pub kernel_fault_name : KernelFault → List ℕ
kernel_fault_name Name = codes "Name"
kernel_fault_name (TargetRow n) = codes "TargetRow"
kernel_fault_name (SetRow n) = codes "SetRow"
kernel_fault_name (ObsRow n) = codes "ObsRow"
kernel_fault_name Datum = codes "Datum"
kernel_fault_name (TargetSum n) = codes "TargetSum"
kernel_fault_name (SetSum n) = codes "SetSum"
kernel_fault_name NotConnected = codes "NotConnected"
kernel_fault_name (Residual n) = codes "Residual"

-- The number that a fault carries.
abbrev pub kernel_fault_number : KernelFault → Option ℕ
kernel_fault_number (TargetRow n) = Some n
kernel_fault_number (SetRow n) = Some n
kernel_fault_number (ObsRow n) = Some n
kernel_fault_number (TargetSum n) = Some n
kernel_fault_number (SetSum n) = Some n
kernel_fault_number (Residual n) = Some n
kernel_fault_number fault = None
