-- What lines stand for.
use Rattle.std.specs.Prelude.{◌≡◌, Bool, true, false, ℕ, ◌<◌, List, ⊤, Option, Some, None, Result}
use Rattle.std.specs.Prelude.{Ok, Err}
use Rattle.std.specs.Option.{option_map}
use Rattle.byte_ends.specs.Source.{Told, Through, reader_change}
use Rattle.byte_ends.specs.Source as over
use Rattle.gsi_file.specs.declared.file_fault.FileFault.{FileFault}
use Rattle.gsi_file.specs.declared.file_fault.FileFault.TheVariants.{At, Memory}
use Rattle.gsi_file.specs.declared.file_fault.FileKind.{FileKind}
use Rattle.gsi_file.specs.declared.lines.State.{State}
use Rattle.gsi_file.specs.declared.lines.State.TheVariants.{Open, End, Failed}
use Rattle.gsi_file.specs.declared.lines.Lines.{Lines}
use Rattle.gsi_file.specs.declared.line.Line.{Line}
use Rattle.gsi_file.specs.Failing.{failed_in}
use Rattle.gsi_file.specs.Window.{line_in_window, unused}
use Rattle.gsi_file.specs.Finding.{answers_in}
use Rattle.gsi_file.specs.ToCome.{ToCome, Answers, IsRead, only}

-- What is to come in a state, of so many bytes that may be taken, with these in hand, of a reader
-- that tells this.
abbrev pub comes_in : State → ℕ → ℕ → List ℕ → Option Told → ToCome
comes_in Open count room hand told =
    record { number = count; answers = option_map (answers_in room hand) told }
comes_in End count room hand told = record { number = count; answers = Some (only None) }
comes_in (Failed kind) count room hand told =
    record { number = count; answers = Some (only (Some kind)) }

-- Whether the end or a fault is settled in a state.
abbrev pub settled_in : State → Bool
settled_in Open = false
settled_in End = true
settled_in (Failed kind) = true

-- What is to come of lines.
abbrev pub to_come : {R : Type 0} → (R → Option Told) → Lines R → ToCome
to_come told l = comes_in l.state l.count l.room (unused l.window) (told l.reader)

-- A reader that still gives this, whether it tells or not: what is to come of lines where theirs
-- does is `to_come (gives t)`.
abbrev pub gives : {R : Type 0} → Told → R → Option Told
gives t reader = Some t

-- The reader, as it stands.
abbrev pub reader_of : {R : Type 0} → Lines R → R
reader_of l = l.reader

-- Whether the end or a fault is settled.
abbrev pub is_settled : {R : Type 0} → Lines R → Bool
is_settled l = settled_in l.state

-- The line that was found.
abbrev pub line_found : {R : Type 0} → Lines R → List ℕ
line_found l = line_in_window l.window

-- The bytes that were read and not yet given up: the line that was found, the byte that ended it if
-- one did, and those after.
abbrev pub bytes_in_hand : {R : Type 0} → Lines R → List ℕ
bytes_in_hand l = l.window.buffer

-- How many bytes may still be taken.
abbrev pub bytes_left : {R : Type 0} → Lines R → ℕ
bytes_left l = l.room

-- Whether a call gave no line.
abbrev pub gives_none : {A E : Type 0} → Result (Option A) E → Bool
gives_none (Ok (Some x)) = false
gives_none (Ok None) = true
gives_none (Err e) = true

-- Whether the end is settled in a state.
abbrev pub at_end_in : State → Bool
at_end_in Open = false
at_end_in End = true
at_end_in (Failed kind) = false

-- Whether the end is settled.
abbrev pub is_at_end : {R : Type 0} → Lines R → Bool
is_at_end l = at_end_in l.state

-- A call answered the end.
abbrev pub IsEnd : {A E : Type 0} → Result (Option A) E → Type 0
IsEnd (Ok (Some x)) = ⊥
IsEnd (Ok None) = ⊤
IsEnd (Err e) = ⊥

-- An answer that is no line settles the end or a fault. A line that no byte ended settles the end
-- too. Once one is settled the reader is not asked again.
pub record AsksNoMore {A E R : Type 0} (result : Result (Option A) E) (old new : Lines R)
    : Type 0 where
  pub settles : gives_none result ≡ true → is_settled new ≡ true
  pub last : gives_none result ≡ false → bytes_in_hand new ≡ line_found new → is_settled new ≡ true
  pub unread : is_settled old ≡ true → reader_of new ≡ reader_of old
  pub at_end : gives_none result ≡ false → is_settled new ≡ true → is_at_end new ≡ true
  pub stays : is_at_end old ≡ true → IsEnd result

-- A line that was given takes bytes.
abbrev pub Progresses : {A E : Type 0} → Result (Option A) E → ℕ → ℕ → Type 0
Progresses (Ok (Some x)) old new = new < old
Progresses (Ok None) old new = ⊤
Progresses (Err e) old new = ⊤

-- Where a step settles the end or a failed read, the reader tells that it has ended or broken off,
-- whether it told its bytes or not.
abbrev pub IsOverBy : {A : Type 0} → Result (Option A) FileKind → Bool → Option Told → Type 0
IsOverBy (Ok (Some x)) settled told = settled ≡ true → told ≡ Some over.ended
IsOverBy (Ok None) settled told = told ≡ Some over.ended
IsOverBy (Err kind) settled told = IsRead kind → told ≡ Some over.broken_off

-- The same of a call.
abbrev pub IsOverWith : {A : Type 0} → Result (Option A) FileFault → Bool → Option Told → Type 0
IsOverWith (Ok (Some x)) settled told = settled ≡ true → told ≡ Some over.ended
IsOverWith (Ok None) settled told = told ≡ Some over.ended
IsOverWith (Err (At number kind)) settled told = IsRead kind → told ≡ Some over.broken_off
IsOverWith (Err Memory) settled told = ⊤

-- What a call of `next` did to the lines of a reader that tells, fails and keeps its history so.
pub record IsNext {R : Type 0} (told : R → Option Told) (failed : R → Bool)
    (gave : R → ℕ → List ℕ → Type 0) (old : Lines R)
    (result : Result (Option Line) FileFault) (new : Lines R) : Type 0 where
  -- Some reads gave bytes. Of these, and whatever may be left in the reader, this is the next
  -- answer.
  pub answers : Through (reader_change told failed gave (reader_of old) (reader_of new))
      (λ before after. Answers (to_come (gives before) old) result (to_come (gives after) new))
  -- A line takes some of the bytes that may still be taken.
  pub progresses : Progresses result (bytes_left old) (bytes_left new)
  -- The end or a fault is settled once for all, and the reader is not asked after it.
  pub asks_no_more : AsksNoMore result old new
  -- A read failed exactly where that is answered, and was not answered before.
  pub fails : failed (reader_of new) ≡ failed_in (is_settled old) (failed (reader_of old)) result
  -- At the end the reader has ended, and at a failed read it has broken off, whether it told its
  -- bytes or not.
  pub over : is_settled old ≡ false → IsOverWith result (is_settled new) (told (reader_of new))
