-- A line at fault is what comes next.
use Rattle.std.proofs.Common.{◌≡◌, ℕ, ◌+◌, ◌≤◌, Bool, true, false, List, [], take, Some, IfSome}
use Rattle.std.proofs.Common.{refl, ap, inr}
use Rattle.byte_ends.specs.Source.{Told}
use Rattle.gsi_file.specs.declared.file_fault.FileKind.{FileKind}
use Rattle.gsi_file.specs.declared.search.FoundLine.{FoundLine}
use Rattle.gsi_file.specs.declared.lines.State.{State}
use Rattle.gsi_file.specs.declared.lines.State.TheVariants.{Open, End, Failed}
use Rattle.gsi_file.specs.declared.bounds.TheConstants.{LONGEST_FILE}
use Rattle.gsi_file.specs.FileAnswers.{FileAnswers}
use Rattle.gsi_file.specs.ToCome.{IsFileFault, FaultIsNext}
use Rattle.gsi_file.specs.Finding.{answers_in, FindsLine}
use Rattle.gsi_file.specs.Standing.{comes_in, settled_in}

next_at_fault : (before after : Told) (room line used room' : ℕ) (hand hand' : List ℕ) (last : Bool)
    (kind : FileKind) → FindsLine before after room hand hand' line used room' last
    → IsFileFault (take line hand') kind → FaultIsNext (answers_in room hand before) kind
next_at_fault before after room line used room' hand hand' true kind e fault =
    inr (take line hand', [], ap (λ (a : FileAnswers). a.lines) e, fault)
next_at_fault before after room line used room' hand hand' false kind e fault =
    inr (take line hand', _, ap (λ (a : FileAnswers). a.lines) e, fault)

-- The fault of a line that was found is what comes next, at the number of that line.
pub fault_to_come : (state : State) (count room room' : ℕ) (hand hand' rest : List ℕ)
    (before after : Told) (f : FoundLine) (kind : FileKind)
    → settled_in state ≡ false → count + 1 ≤ LONGEST_FILE
    → FindsLine before after room hand hand' f.line_length f.used f.room f.last
    → IsFileFault (take f.line_length hand') kind
    → IfSome (comes_in state count room hand (Some before)).answers (λ a. FaultIsNext a kind)
    × ((comes_in state count room' rest (Some after)).number
    ≡ (comes_in state count room hand (Some before)).number)
    × ((comes_in state count room hand (Some before)).number + 1 ≤ LONGEST_FILE)
fault_to_come Open count room room' hand hand' rest before after f kind unsettled fits found fault =
    let next = next_at_fault before after room f.line_length f.used f.room hand hand' f.last kind
    found
    fault in (next, refl, fits)
fault_to_come End count room room' hand hand' rest before after f kind unsettled fits found fault =
    cc
fault_to_come (Failed k) count room room' hand hand' rest before after f kind unsettled fits found
    fault = cc
