-- Changes that bytes say.
use Rattle.std.specs.Prelude.{◌≡◌, ℕ, ◌≤◌, ◌==◌, List, [], ◌∷◌, ◌++◌, length, Some}
use Rattle.std.specs.List.{slice_split, AllZip}
use Rattle.gsi_word.specs.Angles.{decimal_number}
use Rattle.adjust_kernel.specs.Names.{IsName}
use Rattle.changed_lines.specs.declared.change.Change.{Change}
use Rattle.changed_lines.specs.declared.change.Edit.{Edit}
use Rattle.changed_lines.specs.declared.change.Edit.TheVariants.{Out, Rename}

-- Digits say the number of a line: one at least and ten at most, and below 2^32.
pub record SaysLine (digits : List ℕ) (line : ℕ) : Type 0 where
  pub some : 1 ≤ length digits
  pub short : length digits ≤ 10
  pub number : decimal_number digits ≡ Some line
  pub within : line ≤ 4294967295

-- `N` says that line N is left out, `N=NAME` that its point has this name.
abbrev pub SaysEdit : List ℕ → ℕ → Edit → Type 0
SaysEdit text line Out = SaysLine text line
SaysEdit text line (Rename name) =
    (digits : List ℕ) × (text ≡ digits ++ 61 ∷ name) × SaysLine digits line × IsName name

-- The text says this change.
abbrev pub SaysChange : List ℕ → Change → Type 0
SaysChange text c = SaysEdit text c.line c.edit

-- The text says these changes, with a line feed between each two; no bytes say none.
abbrev pub SayChanges : List ℕ → List Change → Type 0
SayChanges [] cs = cs ≡ []
SayChanges (b ∷ text) cs = AllZip SaysChange (slice_split (λ x. x == 10) (b ∷ text)) cs

-- A change that the text says is added.
pub record AddsChange (old : List Change) (text : List ℕ) (new : List Change) : Type 0 where
  pub change : Change
  pub says : SaysChange text change
  pub added : new ≡ old ++ change ∷ []
