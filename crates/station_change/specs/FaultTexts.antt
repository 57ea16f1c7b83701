-- The line of a refusal (profile).
use Rattle.std.specs.Prelude.{ℕ, List, ◌++◌, codes}
use Rattle.changed_lines.specs.FaultNames.{change_fault_name}
use Rattle.changed_lines.specs.declared.fault.ChangeFault.{ChangeFault}
use Rattle.changed_lines.specs.declared.fault.ChangeFault.TheVariants.{LineOrder, NoSuchLine}
use Rattle.changed_lines.specs.declared.fault.ChangeFault.TheVariants.{NameTooLong, ZeroBefore}
use Rattle.changed_lines.specs.declared.fault.ChangeFault.TheVariants.{NoPoint, Memory}
use Rattle.station_check.specs.FaultTexts.{numbered_place}
use Rattle.station_check.specs.VerdictLines.{refusal_line as check_refusal_line}
use Rattle.station_check.specs.declared.fault.Fault.TheVariants as check
use Rattle.station_change.specs.declared.fault.PrintFault.{PrintFault}
use Rattle.station_change.specs.declared.fault.PrintFault.TheVariants.{Change, Read, TooLong, Write}

-- the line of a fault of this name, at the line of this number
abbrev pub unchanged_line : ℕ → List ℕ → List ℕ
unchanged_line number name =
    codes "refused: " ++ (numbered_place (codes "block ") number
    ++ (codes "change: " ++ (name ++ codes "\n")))

-- The line of a change that can't be made. That of memory is the one that every command has.
abbrev pub change_line : ChangeFault → List ℕ
change_line (LineOrder number) =
    unchanged_line number (change_fault_name (LineOrder number))
change_line (NoSuchLine number) =
    unchanged_line number (change_fault_name (NoSuchLine number))
change_line (NameTooLong number) =
    unchanged_line number (change_fault_name (NameTooLong number))
change_line (ZeroBefore number) =
    unchanged_line number (change_fault_name (ZeroBefore number))
change_line (NoPoint number) = unchanged_line number (change_fault_name (NoPoint number))
change_line Memory = check_refusal_line check.Memory

-- the line of a fault of this name, of the whole field file
abbrev pub whole_line : List ℕ → List ℕ
whole_line name = codes "refused: field file: " ++ (name ++ codes "\n")

-- The line of a refusal. That of writing is the one that every command has.
abbrev pub refusal_line : PrintFault → List ℕ
refusal_line (Change fault) = change_line fault
refusal_line Read = whole_line (codes "Read")
refusal_line TooLong = whole_line (codes "FileTooLong")
refusal_line Write = check_refusal_line check.Write
