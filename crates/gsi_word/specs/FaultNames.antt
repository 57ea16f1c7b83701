-- The names of faults, as the line of a refusal has them (profile).
use Rattle.std.specs.Prelude.{ℕ, List, codes}
use Rattle.gsi_word.specs.declared.angle.AngleFault.{AngleFault}
use Rattle.gsi_word.specs.declared.angle.AngleFault.TheVariants.{Unit, InputMode, Sign}
use Rattle.gsi_word.specs.declared.angle.AngleFault.TheVariants.{Digits, Range}

-- The name of a fault of an angle.
abbrev pub angle_fault_name : AngleFault → List ℕ
angle_fault_name Unit = codes "Unit"
angle_fault_name InputMode = codes "InputMode"
angle_fault_name Sign = codes "Sign"
angle_fault_name Digits = codes "Digits"
angle_fault_name Range = codes "Range"
