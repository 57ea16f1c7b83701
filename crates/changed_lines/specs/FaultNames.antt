-- The names of faults, as the line of a refusal has them (profile).
use Rattle.std.specs.Prelude.{ℕ, List, codes}
use Rattle.changed_lines.specs.declared.fault.ChangeFault.{ChangeFault}
use Rattle.changed_lines.specs.declared.fault.ChangeFault.TheVariants.{LineOrder, NoSuchLine}
use Rattle.changed_lines.specs.declared.fault.ChangeFault.TheVariants.{NameTooLong, ZeroBefore}
use Rattle.changed_lines.specs.declared.fault.ChangeFault.TheVariants.{NoPoint, Memory}

-- The name of why no copy is made.
abbrev pub change_fault_name : ChangeFault → List ℕ
change_fault_name (LineOrder line) = codes "LineOrder"
change_fault_name (NoSuchLine line) = codes "NoSuchLine"
change_fault_name (NameTooLong line) = codes "NameTooLong"
change_fault_name (ZeroBefore line) = codes "ZeroBefore"
change_fault_name (NoPoint line) = codes "NoPoint"
change_fault_name Memory = codes "out of memory"
