-- Which part of a line of a field file is meant (GSI manual: where words stand).
use Rattle.std.specs.Prelude.{◌≡◌, ℕ, ◌+◌, ◌-◌, ◌*◌, ◌/◌, ◌%◌, ◌<◌, ◌≤◌, ◌==◌, ◌||◌, List, Option}
use Rattle.std.specs.Prelude.{Some, None, drop, if◌then◌else◌, length, nat_le, nat_lt, slice_index}
use Rattle.std.specs.List.{position}
use Rattle.std.specs.Option.{option_map}
use Rattle.gsi_word.specs.Blocks.{is_starred, width_of}
use Rattle.gsi_word.specs.Bytes.{blank, zero_digit}
use Rattle.refusal_places.specs.Lines.{bytes_of}
use Rattle.refusal_places.specs.Meant.{meant_in}
use Rattle.refusal_places.specs.Numbers.{before}
use Rattle.refusal_places.specs.declared.meant.Meant.{Meant}
use Rattle.refusal_places.specs.declared.meant.Meant.TheVariants.{Byte, Word, Index}
use Rattle.refusal_places.specs.declared.named.Named.{Named}
use Rattle.refusal_places.specs.declared.named.Named.TheVariants.{Block}
use Rattle.refusal_places.specs.declared.span.Span.{Span}

-- The byte of this number of a line, the first of which has number 1.
abbrev pub byte_at : List ℕ → ℕ → Option Span
byte_at line number =
    if number == 0 || nat_lt (length line) number then None
    else Some (record { first = number - 1; end = number })

-- Where the first word of a line begins: after the `*` of GSI-16.
abbrev pub first_word : List ℕ → ℕ
first_word line = if is_starred line then 1 else 0

-- How many bytes each word of a line has: its index, its information, its sign and its content.
abbrev pub word_size : List ℕ → ℕ
word_size line = 7 + width_of line

-- Where the word of this number begins: after those before it, each with a blank.
abbrev pub word_begin : List ℕ → ℕ → ℕ
word_begin line number = first_word line + (word_size line + 1) * (number - 1)

-- How many bytes of a text stand before its first blank.
abbrev pub unbroken : List ℕ → ℕ
unbroken text = length (before (position (λ b. b == blank) text) text)

-- The same, if a byte stands there.
abbrev pub begin_at : List ℕ → ℕ → Option ℕ
begin_at line number =
    if number == 0 || nat_le (length line) (word_begin line number) then None
    else Some (word_begin line number)

-- The byte at a place, and all after it up to a blank.
abbrev pub run_from : List ℕ → ℕ → Span
run_from line first =
    record { first = first; end = first + 1 + unbroken (drop (first + 1) line) }

-- What stands where the word of this number would begin.
abbrev pub word_at : List ℕ → ℕ → Option Span
word_at line number = option_map (run_from line) (begin_at line number)

-- The word of this number stands whole in the line, and has this index.
pub record HasIndex (line : List ℕ) (index number : ℕ) : Type 0 where
  pub counted : 1 ≤ number
  pub whole : word_begin line number + word_size line ≤ length line
  pub tens : slice_index line (word_begin line number) ≡ zero_digit + index / 10
  pub ones : slice_index line (word_begin line number + 1) ≡ zero_digit + index % 10

-- It is the first word of this index.
pub record IsFirstOf (line : List ℕ) (index : ℕ) (span : Span) : Type 0 where
  pub number : ℕ
  pub has : HasIndex line index number
  pub first_such : (earlier : ℕ) → earlier < number → ¬ (HasIndex line index earlier)
  pub first : span.first ≡ word_begin line number
  pub end : span.end ≡ word_begin line number + word_size line

-- It is the first word of this index, or there is none.
abbrev pub IsWordOf : List ℕ → ℕ → Option Span → Type 0
IsWordOf line index (Some span) = IsFirstOf line index span
IsWordOf line index None = (number : ℕ) → ¬ (HasIndex line index number)

-- In a line this is the part that is meant, if it has one.
abbrev pub IsMeantIn : List ℕ → Meant → Option Span → Type 0
IsMeantIn line (Byte number) part = part ≡ byte_at line number
IsMeantIn line (Word number) part = part ≡ word_at line number
IsMeantIn line (Index index) part = IsWordOf line index part

-- The part of a file that is this part of what stands at `span`; without one all of that.
abbrev pub within : Span → Option Span → Span
within span (Some part) =
    record { first = span.first + part.first; end = span.first + part.end }
within span None = span

-- Of the line that stands here this part of the file is meant; all of it, where nothing is meant by
-- itself, or the line has no such part.
abbrev pub IsMeantOf : List ℕ → Span → Option Meant → Span → Type 0
IsMeantOf line span (Some meant) part =
    (in_line : Option Span) × IsMeantIn line meant in_line × (part ≡ within span in_line)
IsMeantOf line span None part = part ≡ span

-- Of the block that the line of a refusal names, where it stands in the field file, this part is
-- meant; of all else that stands in a file the whole.
abbrev pub IsMeant : List ℕ → List ℕ → Named → Option Span → Option Span → Type 0
IsMeant line field (Block number) (Some span) (Some part) =
    IsMeantOf (bytes_of field span) span (meant_in line) part
IsMeant line field named span part = part ≡ span
