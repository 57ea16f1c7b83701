-- The names of faults, as the line of a refusal has them (profile), and those that come of reading.
use Rattle.std.specs.Prelude.{ℕ, List, codes}
use Rattle.byte_ends.specs.declared.input.InputFault.{InputFault}
use Rattle.byte_ends.specs.declared.input.InputFault.TheVariants as input
use Rattle.table_titles.specs.declared.fault.TitlesFault.{TitlesFault}
use Rattle.table_titles.specs.declared.fault.TitlesFault.TheVariants as fault

-- The name of a fault, or that memory ran out.
abbrev pub titles_fault_name : TitlesFault → List ℕ
titles_fault_name fault.Read = codes "Read"
titles_fault_name fault.TooLong = codes "TooLong"
titles_fault_name (fault.NoTitle of) = codes "NoTitle"
titles_fault_name (fault.TwiceTitled of) = codes "TwiceTitled"
titles_fault_name fault.SameTitle = codes "SameTitle"
titles_fault_name fault.Memory = codes "out of memory"

-- A table's bytes that aren't had whole: the fault that this is.
abbrev pub of_input : InputFault → TitlesFault
of_input input.Read = fault.Read
of_input input.TooLong = fault.TooLong
of_input input.Memory = fault.Memory
