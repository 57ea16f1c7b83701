-- What looking for the next line does.
use Rattle.std.specs.Prelude.{◌≡◌, ℕ, ◌+◌, ◌/◌, ◌<◌, ◌≤◌, Bool, true, false, List, ◌++◌, All}
use Rattle.std.specs.Prelude.{length, take, drop, Option, Some, None, Result, Ok, Err}
use Rattle.byte_ends.specs.Source.{Told, ended, broken_off}
use Rattle.gsi_word.specs.Words.{IsLineByte}
use Rattle.gsi_file.specs.declared.file_fault.FileKind.{FileKind}
use Rattle.gsi_file.specs.declared.search.FoundLine.{FoundLine}
use Rattle.gsi_file.specs.FileAnswers.{FileAnswers, answers_within, line_before}
use Rattle.gsi_file.specs.ToCome.{IsRead, only}

-- The answers of what is in hand and what the source gives, of which so many bytes may be taken.
abbrev pub answers_in : ℕ → List ℕ → Told → FileAnswers
answers_in room hand told = answers_within room (hand ++ told.bytes) told.fails

-- A line that was found stands at the front of what is in hand. It takes two bytes of those that
-- may be taken, or all. Where it is not the last, a byte of those in hand ends it. Where its bytes
-- are said to be printable, they are.
pub record IsFound (room : ℕ) (hand : List ℕ) (f : FoundLine) : Type 0 where
  pub line : f.line_length ≤ f.used
  pub used : f.used ≤ length hand
  pub ended : f.last ≡ false → f.line_length < f.used
  pub takes : (f.room + 1) / 2 < (room + 1) / 2
  pub printable : f.printable ≡ true → All IsLineByte (take f.line_length hand)

-- The line found at the front of what is in hand is the first to come, and where it is the last the
-- end comes after it.
abbrev pub FindsLine : Told → Told → ℕ → List ℕ → List ℕ → ℕ → ℕ → ℕ → Bool → Type 0
FindsLine before after room hand hand' line used room' true =
    answers_in room hand before ≡ line_before (take line hand') (only None)
FindsLine before after room hand hand' line used room' false =
    answers_in room hand before
    ≡ line_before (take line hand') (answers_in room' (drop used hand') after)

-- A line was found, or the end, or a fault of the file.
abbrev pub Finds : Told → Told → ℕ → List ℕ → List ℕ → Result (Option FoundLine) FileKind → Type 0
Finds before after room hand hand' (Ok (Some f)) =
    FindsLine before after room hand hand' f.line_length f.used f.room f.last
Finds before after room hand hand' (Ok None) = answers_in room hand before ≡ only None
Finds before after room hand hand' (Err kind) = answers_in room hand before ≡ only (Some kind)

-- Where the source has ended or a read has failed, it tells so, whether it told its bytes or not.
abbrev pub IsOverAfter : Result (Option FoundLine) FileKind → Option Told → Type 0
IsOverAfter (Ok (Some f)) told = f.last ≡ true → told ≡ Some ended
IsOverAfter (Ok None) told = told ≡ Some ended
IsOverAfter (Err kind) told = IsRead kind → told ≡ Some broken_off
