-- What the code does from line to line.
use Rattle.std.specs.Prelude.{◌≡◌, ℕ, suc, ◌<◌, ◌≤◌, List, [], ◌∷◌, ⊤, ◌⊎◌, Some}
use Rattle.changed_lines.specs.declared.change.Change.{Change}
use Rattle.changed_lines.specs.declared.change.Edit.{Edit}
use Rattle.changed_lines.specs.declared.fault.ChangeFault.{ChangeFault}
use Rattle.changed_lines.specs.declared.fault.ChangeFault.TheVariants.{LineOrder, Memory}
use Rattle.changed_lines.specs.Answers.{MayNotBe, AreMade, IsFirstFault, line_at}
use Rattle.changed_lines.specs.ChangedFile.{edit_of}

-- Out of memory, or why the line may not be changed so.
abbrev pub RefusesLine : ℕ → Edit → List ℕ → ChangeFault → Type 0
RefusesLine number edit line fault = (fault ≡ Memory) ⊎ MayNotBe number edit line fault

-- The first of these changes, where there is one, is of a line after this one.
abbrev pub Waits : ℕ → List Change → Type 0
Waits count [] = ⊤
Waits count (c ∷ cs) = count < c.line

-- Each of these changes is of a line after that of the change before, the first after this one.
abbrev pub Ascends : ℕ → List Change → Type 0
Ascends before [] = ⊤
Ascends before (c ∷ cs) = (before < c.line) × Ascends c.line cs

-- The first of these changes is of no line after this one.
abbrev pub IsOutOfOrder : ℕ → List Change → ChangeFault → Type 0
IsOutOfOrder count [] fault = ⊥
IsOutOfOrder count (c ∷ cs) fault = (c.line ≤ count) × (fault ≡ LineOrder c.line)

-- After so many lines these changes were left, and after one line more, with this text, those are.
pub record LeavesChanges (count : ℕ) (text : List ℕ) (left later : List Change) : Type 0 where
  pub waits : Waits (suc count) later
  pub ascends : Ascends (suc count) later → Ascends count left
  pub same : (m : ℕ) → suc count < m → edit_of m left ≡ edit_of m later
  pub made : (lines : List (List ℕ)) → line_at lines (suc count) ≡ Some text
      → AreMade lines (suc count) later → AreMade lines count left
  pub fault : (lines : List (List ℕ)) (fault : ChangeFault)
      → line_at lines (suc count) ≡ Some text
      → IsFirstFault lines (suc count) later fault → IsFirstFault lines count left fault

-- Out of memory, or the fault of the first of these changes after so many lines.
abbrev pub RefusesChange : ℕ → List ℕ → List Change → ChangeFault → Type 0
RefusesChange count text left fault =
    (fault ≡ Memory) ⊎ ((lines : List (List ℕ)) → line_at lines (suc count) ≡ Some text
    → IsFirstFault lines count left fault)
