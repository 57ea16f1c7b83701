-- What a file answers, call by call: its numbered lines, and then the end or a fault (profile).
use Rattle.std.specs.Prelude.{◌≡◌, ℕ, zero, suc, ◌-◌, ◌<◌, ◌≤◌, Bool, true, false, not, ◌&&◌}
use Rattle.std.specs.Prelude.{nat_le, nat_lt, List, ◌∷◌, length, take, Option, Some, None}
use Rattle.std.specs.Prelude.{if◌then◌else◌}
use Rattle.std.specs.List.{list_all}
use Rattle.std.specs.Option.{option_map}
use Rattle.byte_ends.specs.Source.{Told}
use Rattle.gsi_file.specs.declared.file_fault.FileKind.{FileKind}
use Rattle.gsi_file.specs.declared.file_fault.FileKind.TheVariants.{Read, FileTooLong, LineTooLong}
use Rattle.gsi_file.specs.declared.bounds.TheConstants.{LONGEST_LINE, LONGEST_FILE}
use Rattle.gsi_file.specs.Parts.{parts, numbered_lines, ended_lines}

-- Lines, and then at every call the end, where `last` is None, or this fault.
pub record FileAnswers : Type 0 where
  pub lines : List (List ℕ)
  pub last : Option FileKind

-- A line, and then these answers.
abbrev pub line_before : List ℕ → FileAnswers → FileAnswers
line_before line a = record { lines = line ∷ a.lines; last = a.last }

-- Whether these bytes break no limit: there are at most `most` of them, in parts of at most 1,024.
abbrev pub is_within : ℕ → List ℕ → Bool
is_within most bytes =
    nat_le (length bytes) most && list_all (λ part. nat_le (length part) LONGEST_LINE) (parts bytes)

-- Byte x, from 1, is the first that breaks a limit: with it the bytes break one, and fewer break
-- none.
pub record IsFirstBreak (most : ℕ) (bytes : List ℕ) (x : ℕ) : Type 0 where
  pub inside : x ≤ length bytes
  pub breaks : is_within most (take x bytes) ≡ false
  pub before : (n : ℕ) → n < x → is_within most (take n bytes) ≡ true

-- The least number, at most `last`, that passes a test.
abbrev pub least : (ℕ → Bool) → ℕ → Option ℕ
least p zero = if p 0 then Some 0 else None
least p (suc last) = if p 0 then Some 0 else option_map (λ n. suc n) (least (λ n. p (suc n)) last)

-- The first byte, from 1, that breaks a limit.
abbrev pub first_break : ℕ → List ℕ → Option ℕ
first_break most bytes = least (λ n. not (is_within most (take n bytes))) (length bytes)

-- Where byte x is the first that breaks a limit: the lines that ended before it, and then the
-- fault; at one byte the file's limit comes first.
abbrev pub answers_before : ℕ → List ℕ → ℕ → FileAnswers
answers_before most bytes x = record {
  lines = ended_lines (take (x - 1) bytes);
  last = Some (if nat_lt most x then FileTooLong else LineTooLong);
}

-- Where no byte does: of a source that ends all lines, and of one that fails those that had ended.
abbrev pub answers_of_all : List ℕ → Bool → FileAnswers
answers_of_all bytes fails =
    if fails then record { lines = ended_lines bytes; last = Some Read }
    else record { lines = numbered_lines bytes; last = None }

-- By the first byte that breaks a limit.
abbrev pub answers_by : ℕ → List ℕ → Bool → Option ℕ → FileAnswers
answers_by most bytes fails (Some x) = answers_before most bytes x
answers_by most bytes fails None = answers_of_all bytes fails

-- The answers of bytes of which there may be at most `most`, and that then end or fail.
unfoldable pub answers_within : ℕ → List ℕ → Bool → FileAnswers
answers_within most bytes fails = answers_by most bytes fails (first_break most bytes)

-- The answers of a source, however its reads are cut.
abbrev pub file_answers : Told → FileAnswers
file_answers told = answers_within LONGEST_FILE told.bytes told.fails
