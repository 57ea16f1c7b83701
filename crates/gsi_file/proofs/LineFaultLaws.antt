-- The fault of a line, as one of the file: one at most, and none in a block.
use Rattle.std.proofs.Common.{◌≡◌, ℕ, Bool, List, ◌⊎◌, inl, inr, refl, sym, ap, ◌∙◌}
use Rattle.gsi_word.specs.Blocks.{GsiBlock, IsBlock}
use Rattle.gsi_word.specs.LineFaults.{IsLineFault}
use Rattle.gsi_word.specs.declared.line_fault.LineFault.{LineFault}
use Rattle.gsi_word.specs.declared.line_fault.LineFault.TheVariants as line
use Rattle.gsi_file.specs.ToCome.{IsFileFault, kind_of}
use Rattle.gsi_file.specs.Failing.{failed_at}
use Rattle.gsi_file.specs.declared.file_fault.FileKind.{FileKind}
use Rattle.gsi_file.specs.declared.file_fault.FileKind.TheVariants.{Read, FileTooLong, LineTooLong}
use Rattle.gsi_file.specs.declared.file_fault.FileKind.TheVariants.{Byte, Word, FirstWord}

-- The fault of a line is one of the file, of its own kind.
pub as_file_fault : (l : List ℕ) (f : LineFault) → IsLineFault l f → IsFileFault l (kind_of f)
as_file_fault l (line.Byte at) h = h
as_file_fault l (line.Word nth) h = h
as_file_fault l line.FirstWord h = h

as_line_fault : (l : List ℕ) (kind : FileKind) → IsFileFault l kind → (f : LineFault)
    × IsLineFault l f × (kind ≡ kind_of f)
as_line_fault l Read h = absurd h
as_line_fault l FileTooLong h = absurd h
as_line_fault l LineTooLong h = absurd h
as_line_fault l (Byte at) h = (line.Byte at, h, refl)
as_line_fault l (Word nth) h = (line.Word nth, h, refl)
as_line_fault l FirstWord h = (line.FirstWord, h, refl)

-- Where a line has one fault at most, it gives one fault of the file at most.
pub one_kind : ((l : List ℕ) (a b : LineFault) → IsLineFault l a → IsLineFault l b → a ≡ b)
    → (l : List ℕ) (a b : FileKind) → IsFileFault l a → IsFileFault l b → a ≡ b
one_kind one l a b h k =
    let x = as_line_fault l a h in
    let y = as_line_fault l b k in
    x.2 ∙ ap kind_of (one l x.0 y.0 x.1 y.1) ∙ sym y.2

-- Where no block has a fault, no line that gives a fault of the file is a block.
pub no_kind : ((l : List ℕ) (b : GsiBlock) (a : LineFault) → IsBlock l b → ¬ IsLineFault l a)
    → (l : List ℕ) (a : FileKind) (b : GsiBlock) → IsFileFault l a → ¬ IsBlock l b
no_kind none l a b h k = let x = as_line_fault l a h in none l b x.0 k x.1

-- Where each line is a block or has a fault, each is a block or gives a fault of the file.
pub block_or_kind : ((l : List ℕ) → ((b : GsiBlock) × IsBlock l b)
    ⊎ ((a : LineFault) × IsLineFault l a))
    → (l : List ℕ) → ((b : GsiBlock) × IsBlock l b) ⊎ ((kind : FileKind) × IsFileFault l kind)
block_or_kind either l = elim (either l) [
  | inl block ↦ inl block
  | inr fault ↦ inr (kind_of fault.0, as_file_fault l fault.0 fault.1)
]

-- No fault of a line is a failed read.
pub unread : (old : Bool) (f : LineFault) → failed_at old (kind_of f) ≡ old
unread old (line.Byte at) = refl
unread old (line.Word nth) = refl
unread old line.FirstWord = refl
