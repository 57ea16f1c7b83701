-- What is answered of a field file of which lines are to be changed, and how its reader is left.
use Rattle.std.specs.Prelude.{◌≡◌, ◌⊎◌, ℕ, List, Result, MatchResult}
use Rattle.byte_ends.specs.Came.{BytesCame, Leaves, Leaving, ReadOut, BrokenOff, Unfailed, Unknown}
use Rattle.byte_ends.specs.Input.{Input, Ended, BrokeOff, RanPast, input_within}
use Rattle.byte_ends.specs.Source.{ReaderChange}
use Rattle.byte_ends.specs.declared.input.InputFault.{InputFault}
use Rattle.byte_ends.specs.declared.input.InputFault.TheVariants as input
use Rattle.changed_lines.specs.Answers.{IsChanged, IsFault}
use Rattle.changed_lines.specs.declared.change.Change.{Change}
use Rattle.changed_lines.specs.declared.fault.ChangeFault.{ChangeFault}
use Rattle.changed_lines.specs.declared.fault.ChangeFault.TheVariants.{Memory}
use Rattle.gsi_file.specs.declared.bounds.TheConstants.{LONGEST_FILE}
use Rattle.station_change.specs.declared.fault.PrintFault.{PrintFault}
use Rattle.station_change.specs.declared.fault.PrintFault.TheVariants as fault

-- The fault of a field file whose bytes aren't had whole.
abbrev pub fault_of : InputFault → PrintFault
fault_of input.Read = fault.Read
fault_of input.TooLong = fault.TooLong
fault_of input.Memory = fault.Change Memory

-- The field file ended, and this is the copy of all its bytes with these changes.
abbrev pub IsCopy : List Change → Input → List ℕ → Type 0
IsCopy cs came copy = (bytes : List ℕ) × (came ≡ Ended bytes) × IsChanged bytes cs copy

-- Why there is none: it ended, and this is the first change of its bytes that can't be made; or
-- memory ran out, whatever came; or a read failed; or it is longer than a file may be.
abbrev pub RefusesCopy : List Change → Input → PrintFault → Type 0
RefusesCopy cs came (fault.Change why) = (why ≡ Memory)
    ⊎ ((bytes : List ℕ) × (came ≡ Ended bytes) × IsFault bytes cs why)
RefusesCopy cs came fault.Read = (bytes : List ℕ) × (came ≡ BrokeOff bytes)
RefusesCopy cs came fault.TooLong = came ≡ RanPast
RefusesCopy cs came fault.Write = ⊥

-- How a change that can't be made leaves the reader, which is read to its end first: where memory
-- ran out, no read failed.
abbrev pub left_by : ChangeFault → Leaving
left_by Memory = Unfailed
left_by why = ReadOut

-- How a refusal leaves it.
abbrev pub change_left : PrintFault → Leaving
change_left (fault.Change why) = left_by why
change_left fault.Read = BrokenOff
change_left fault.TooLong = Unfailed
change_left fault.Write = Unknown

-- The answer on what a reader gave, whatever it is: the copy with these changes or the refusal; and
-- how the reader is left. With a copy it has ended, and no read failed.
pub record IsChangeAnswer (cs : List Change) (gsi : ReaderChange)
    (r : Result (List ℕ) PrintFault) : Type 0 where
  pub answers : BytesCame gsi (λ came. MatchResult r
      (IsCopy cs (input_within LONGEST_FILE came)) (RefusesCopy cs (input_within LONGEST_FILE came)))
  pub reader : Leaves change_left r gsi
