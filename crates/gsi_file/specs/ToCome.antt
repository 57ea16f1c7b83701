-- What is still to come of a file's lines, and what a call answers.
use Rattle.std.specs.Prelude.{◌≡◌, ℕ, ◌+◌, ◌≤◌, List, [], ◌∷◌, ⊤, Option, Some, None, IfSome}
use Rattle.std.specs.Prelude.{Result, Ok, Err, ◌⊎◌}
use Rattle.byte_ends.specs.Source.{WhereTold}
use Rattle.gsi_word.specs.Blocks.{GsiBlock, IsBlock}
use Rattle.gsi_word.specs.BlockViews.{block_of}
use Rattle.gsi_word.specs.declared.shape.Shape.{Shape}
use Rattle.gsi_word.specs.LineFaults.{IsLineFault}
use Rattle.gsi_word.specs.declared.line_fault.LineFault.{LineFault}
use Rattle.gsi_word.specs.declared.line_fault.LineFault.TheVariants as line
use Rattle.gsi_file.specs.declared.line.Line.{Line}
use Rattle.gsi_file.specs.declared.file_fault.FileKind.{FileKind}
use Rattle.gsi_file.specs.declared.file_fault.FileKind.TheVariants.{Read, FileTooLong, LineTooLong}
use Rattle.gsi_file.specs.declared.file_fault.FileKind.TheVariants.{Byte, Word, FirstWord}
use Rattle.gsi_file.specs.declared.file_fault.FileFault.{FileFault}
use Rattle.gsi_file.specs.declared.file_fault.FileFault.TheVariants.{At, Memory}
use Rattle.gsi_file.specs.declared.bounds.TheConstants.{LONGEST_FILE}
use Rattle.gsi_file.specs.FileAnswers.{FileAnswers, line_before}

-- How many lines came, and the answers still to come, where the reader tells or they are settled.
pub record ToCome : Type 0 where
  pub number : ℕ
  pub answers : Option FileAnswers

-- A fault of a line as one of the file.
abbrev pub kind_of : LineFault → FileKind
kind_of (line.Byte at) = Byte at
kind_of (line.Word nth) = Word nth
kind_of line.FirstWord = FirstWord

-- The line, which is no block, has this fault.
abbrev pub IsFileFault : List ℕ → FileKind → Type 0
IsFileFault l Read = ⊥
IsFileFault l FileTooLong = ⊥
IsFileFault l LineTooLong = ⊥
IsFileFault l (Byte at) = IsLineFault l (line.Byte at)
IsFileFault l (Word nth) = IsLineFault l (line.Word nth)
IsFileFault l FirstWord = IsLineFault l line.FirstWord

-- It is a failed read.
abbrev pub IsRead : FileKind → Type 0
IsRead Read = ⊤
IsRead FileTooLong = ⊥
IsRead LineTooLong = ⊥
IsRead (Byte at) = ⊥
IsRead (Word nth) = ⊥
IsRead FirstWord = ⊥

-- Nothing comes but this, at every call.
abbrev pub only : Option FileKind → FileAnswers
only last = record { lines = []; last = last }

-- The first line to come is this, and the others come after it.
abbrev pub TakesLine : Option FileAnswers → Option FileAnswers → List ℕ → Type 0
TakesLine before after line = WhereTold before after (λ b a. b ≡ line_before line a)

-- A call gives the next line, which is this block, under the next number.
pub record GivesLine (t t' : ToCome) (number : ℕ) (block : GsiBlock) : Type 0 where
  pub line : List ℕ
  pub takes : TakesLine t.answers t'.answers line
  pub is_block : IsBlock line block
  pub counted : number ≡ t.number + 1
  pub limited : number ≤ LONGEST_FILE
  pub after : t'.number ≡ number

-- A call gives the end, and so does each one after it.
pub record GivesEnd (t t' : ToCome) : Type 0 where
  pub here : IfSome t.answers (λ a. a ≡ only None)
  pub after : t' ≡ record { number = t.number; answers = Some (only None) }

-- The fault of the file is next, or the next line has the fault.
abbrev pub FaultIsNext : FileAnswers → FileKind → Type 0
FaultIsNext a kind =
    (a ≡ only (Some kind))
    ⊎ ((line : List ℕ) × (rest : List (List ℕ)) × (a.lines ≡ line ∷ rest) × IsFileFault line kind)

-- A call gives a fault, at the number of the next line, and so does each one after it.
pub record GivesFault (t t' : ToCome) (number : ℕ) (kind : FileKind) : Type 0 where
  pub here : IfSome t.answers (λ a. FaultIsNext a kind)
  pub counted : number ≡ t.number + 1
  pub limited : number ≤ LONGEST_FILE
  pub after : t' ≡ record { number = t.number; answers = Some (only (Some kind)) }

-- What a call answers, by what was to come before it and is to come after it: never that there was
-- no memory.
abbrev pub Answers : ToCome → Result (Option Line) FileFault → ToCome → Type 0
Answers t (Ok (Some l)) t' = GivesLine t t' l.number (block_of l.block)
Answers t (Ok None) t' = GivesEnd t t'
Answers t (Err (At number kind)) t' = GivesFault t t' number kind
Answers t (Err Memory) t' = ⊥

-- A step has found this line, a block, or the end, or a fault, by which nothing is counted.
abbrev pub FindsBlock : ToCome → Result (Option Shape) FileKind → ToCome → List ℕ → Type 0
FindsBlock t (Ok (Some shape)) t' line =
    TakesLine t.answers t'.answers line
    × (t'.number ≡ t.number + 1) × (t'.number ≤ LONGEST_FILE)
FindsBlock t (Ok None) t' line = GivesEnd t t'
FindsBlock t (Err kind) t' line =
    IfSome t.answers (λ a. FaultIsNext a kind)
    × (t'.number ≡ t.number) × (t.number + 1 ≤ LONGEST_FILE)

-- The same, or what a call before it settled.
abbrev pub FindsNext : ToCome → Result (Option Shape) FileFault → ToCome → List ℕ → Type 0
FindsNext t (Ok found) t' line = FindsBlock t (Ok found) t' line
FindsNext t (Err (At number kind)) t' line = GivesFault t t' number kind
FindsNext t (Err Memory) t' line = ⊥
