-- What is answered where lines are to be changed: the copy, or the first change that can't be made.
use Rattle.std.specs.Prelude.{◌≡◌, ℕ, ◌-◌, ◌<◌, ◌≤◌, List, [], ◌∷◌, length, Option, Some}
use Rattle.std.specs.Prelude.{None, slice_get, ⊤, ◌⊎◌}
use Rattle.gsi_word.specs.Blocks.{width_of}
use Rattle.gsi_file.specs.Parts.{numbered_lines}
use Rattle.changed_lines.specs.declared.change.Change.{Change}
use Rattle.changed_lines.specs.declared.change.Edit.{Edit}
use Rattle.changed_lines.specs.declared.change.Edit.TheVariants.{Out, Rename}
use Rattle.changed_lines.specs.declared.fault.ChangeFault.{ChangeFault}
use Rattle.changed_lines.specs.declared.fault.ChangeFault.TheVariants.{LineOrder, NoSuchLine}
use Rattle.changed_lines.specs.declared.fault.ChangeFault.TheVariants.{NameTooLong, ZeroBefore}
use Rattle.changed_lines.specs.declared.fault.ChangeFault.TheVariants.{NoPoint, Memory}
use Rattle.changed_lines.specs.ChangedFile.{changed}
use Rattle.changed_lines.specs.Renaming.{TakesName, IsBare}

-- A line may be left out; it may get a name that its word has room for and is read back as it is,
-- where it is a measurement with it.
abbrev pub MayBe : Edit → List ℕ → Type 0
MayBe Out line = ⊤
MayBe (Rename name) line = (length name ≤ width_of line) × IsBare name × TakesName name line

-- Why a line that is there may not be changed so.
abbrev pub MayNotBe : ℕ → Edit → List ℕ → ChangeFault → Type 0
MayNotBe number (Rename name) line (NameTooLong n) = (n ≡ number) × (width_of line < length name)
MayNotBe number (Rename name) line (ZeroBefore n) =
    (n ≡ number) × (length name ≤ width_of line) × ¬ IsBare name
MayNotBe number (Rename name) line (NoPoint n) =
    (n ≡ number) × (length name ≤ width_of line) × IsBare name × ¬ TakesName name line
MayNotBe number edit line fault = ⊥

-- The line of this number, from 1.
abbrev pub line_at : List (List ℕ) → ℕ → Option (List ℕ)
line_at lines number = slice_get lines (number - 1)

-- The line is there, and may be changed so.
abbrev pub IsMadeAt : Option (List ℕ) → Edit → Type 0
IsMadeAt None edit = ⊥
IsMadeAt (Some line) edit = MayBe edit line

-- The line isn't there, or may not be changed so.
abbrev pub IsFaultAt : Option (List ℕ) → Change → ChangeFault → Type 0
IsFaultAt None c fault = fault ≡ NoSuchLine c.line
IsFaultAt (Some line) c fault = MayNotBe c.line c.edit line fault

-- All these changes can be made: each is of a line after that of the change before, the first after
-- this number, and each line is there and may be changed so.
abbrev pub AreMade : List (List ℕ) → ℕ → List Change → Type 0
AreMade lines before [] = ⊤
AreMade lines before (c ∷ cs) =
    (before < c.line) × IsMadeAt (line_at lines c.line) c.edit × AreMade lines c.line cs

-- This is the fault of the first change that can't be made.
abbrev pub IsFirstFault : List (List ℕ) → ℕ → List Change → ChangeFault → Type 0
IsFirstFault lines before [] fault = ⊥
IsFirstFault lines before (c ∷ cs) fault =
    ((c.line ≤ before) × (fault ≡ LineOrder c.line))
    ⊎ (((before < c.line) × IsFaultAt (line_at lines c.line) c fault)
    ⊎ ((before < c.line) × IsMadeAt (line_at lines c.line) c.edit
    × IsFirstFault lines c.line cs fault))

-- The fault of the changes of a file, or out of memory.
abbrev pub IsFault : List ℕ → List Change → ChangeFault → Type 0
IsFault bytes cs Memory = ⊤
IsFault bytes cs fault = IsFirstFault (numbered_lines bytes) 0 cs fault

-- A copy of a file with these changes, which can all be made: the file with these changes, and
-- nothing else.
pub record IsChanged (bytes : List ℕ) (cs : List Change) (copy : List ℕ) : Type 0 where
  pub made : AreMade (numbered_lines bytes) 0 cs
  pub is : copy ≡ changed cs bytes
