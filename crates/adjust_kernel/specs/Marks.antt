-- Marks on the sets and targets of a station, kept in one list: first the sets, then the targets. A
-- place in it is a node.
use Rattle.std.specs.Prelude.{◌≡◌, ◌⊎◌, ℕ, ◌<◌, ◌+◌, ◌-◌, List, Bool, true, false, length, All}
use Rattle.std.specs.Prelude.{nat_lt, slice_index_or, if◌then◌else◌}
use Rattle.adjust_kernel.specs.declared.obs.Obs.{Obs}
use Rattle.adjust_kernel.specs.declared.marks.TheConstants.{MOST_NODES}

-- Whether a node is marked.
abbrev pub mark : List Bool → ℕ → Bool
mark marks n = slice_index_or marks n false

-- The set and the target of an observation are both marked, or neither is.
abbrev pub AreAlike : List Bool → ℕ → Obs → Type 0
AreAlike marks sets o = mark marks o.set ≡ mark marks (sets + o.target)

-- This node isn't marked, and the observation joins it to one that is.
pub record IsOpenEnd (marks : List Bool) (sets : ℕ) (o : Obs) (n : ℕ) : Type 0 where
  pub unmarked : mark marks n ≡ false
  pub inside : n < length marks
  pub joined : ((n ≡ o.set) × (mark marks (sets + o.target) ≡ true))
      ⊎ ((n ≡ sets + o.target) × (mark marks o.set ≡ true))

-- The part of a node, where sets and targets fall into two parts.
abbrev pub part_of : ℕ → (ℕ → Bool) → (ℕ → Bool) → ℕ → Bool
part_of sets part_of_set part_of_target n =
    if nat_lt n sets then part_of_set n else part_of_target (n - sets)

-- What is marked lies in the part of the first target, however the nodes fall into parts with no
-- observation between.
pub record MarksSpread (sets targets : ℕ) (obs : List Obs) (marks : List Bool) : Type 0 where
  pub first : mark marks sets ≡ true
  pub long : length marks ≡ MOST_NODES
  pub one_part : (p q : ℕ → Bool) → All (λ o. p o.set ≡ q o.target) obs
      → (n : ℕ) → mark marks n ≡ true → part_of sets p q n ≡ q 0
