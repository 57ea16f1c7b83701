-- The text of a refusal (profile).
use Rattle.std.specs.Prelude.{ℕ, List, [], ◌++◌, codes}
use Rattle.set_marks.specs.FaultNames.{mark_kind_name}
use Rattle.set_marks.specs.declared.fault.MarkFault.TheVariants.{File, Reading, At, Memory}
use Rattle.set_marks.specs.Markings.{fault_in, told_in}
use Rattle.set_marks.specs.declared.fault.MarkKind.{MarkKind}
use Rattle.set_marks.specs.declared.recognized.Recognized.{Recognized}
use Rattle.set_marks.specs.declared.refused.Refused.{Refused}
use Rattle.station_book.specs.declared.fault.BookFault.TheVariants as book
use Rattle.station_check.specs.FaultTexts.{numbered_place}
use Rattle.station_check.specs.VerdictLines.{refusal_line as check_refusal_line}
use Rattle.station_check.specs.declared.fault.Fault.TheVariants as check
use Rattle.station_mark.specs.Notes.{stations_text}
use Rattle.station_mark.specs.declared.fault.PrintFault.{PrintFault}
use Rattle.station_mark.specs.declared.fault.PrintFault.TheVariants.{Mark, Write}

-- the line of what keeps a file from being marked, at the block of this number
abbrev pub unmarked_line : ℕ → MarkKind → List ℕ
unmarked_line number kind =
    codes "refused: " ++ (numbered_place (codes "block ") number
    ++ (codes "mark: " ++ (mark_kind_name kind ++ codes "\n")))

-- The line of a refusal. That of a line of the file, of a reading by itself, and of memory and
-- writing is the one that every command has.
abbrev pub refusal_line : PrintFault → List ℕ
refusal_line (Mark (File fault)) = check_refusal_line (check.Gsi fault)
refusal_line (Mark (Reading number kind)) = check_refusal_line (check.Book (book.At number kind))
refusal_line (Mark (At number kind)) = unmarked_line number kind
refusal_line (Mark Memory) = check_refusal_line check.Memory
refusal_line Write = check_refusal_line check.Write

-- why no copy is printed, and what is told of the stations
pub record Unprinted : Type 0 where
  pub fault : PrintFault
  pub stations : List Recognized

-- The marking is refused; where its stations were judged, each is told.
abbrev pub unmarked : Refused → Unprinted
unmarked refused = record { fault = Mark (fault_in refused); stations = told_in refused }

-- this fault, and nothing is told of the stations
abbrev pub untold : PrintFault → Unprinted
untold fault = record { fault = fault; stations = [] }

-- The text of a refusal: the lines of each station that is told, and the line of the refusal.
abbrev pub refusal_text : Unprinted → List ℕ
refusal_text u = stations_text [] u.stations ++ refusal_line u.fault
