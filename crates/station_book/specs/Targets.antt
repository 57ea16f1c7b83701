-- The targets of a station, as a book keeps them.
use Rattle.std.specs.Prelude.{◌≡◌, ℕ, ◌<◌, List, [], ◌∷◌, ◌++◌, length, None, Some}
use Rattle.adjust_kernel.specs.declared.bounds.TheConstants.{MOST_TARGETS}
use Rattle.station_book.specs.declared.slot.Slot.{Slot}
use Rattle.station_book.specs.declared.targets.Placed.{Placed}
use Rattle.station_book.specs.declared.targets.Placed.TheVariants.{Known, Added}
use Rattle.station_book.specs.StationState.{place_of}

-- their names, in the order of their first readings, and their readings in the last set
pub record TargetsValue : Type 0 where
  pub names : List (List ℕ)
  pub slots : List Slot

-- a target more, with its first reading
abbrev pub with_target : List ℕ → Slot → TargetsValue → TargetsValue
with_target name slot t = record {
  names = t.names ++ name ∷ [];
  slots = t.slots ++ slot ∷ [];
}

-- The target of this name stands at this place, and nothing changed.
pub record IsKnown (name : List ℕ) (old new : TargetsValue) (place : ℕ) : Type 0 where
  pub here : Some place ≡ place_of name old.names
  pub inside : place < length old.names
  pub unchanged : new ≡ old

-- There was no target of this name and room for one more, and it was added with this first slot.
pub record IsAdded (name : List ℕ) (first : Slot) (old new : TargetsValue) : Type 0 where
  pub absent : None ≡ place_of name old.names
  pub room : length old.names < MOST_TARGETS
  pub added : new ≡ with_target name first old

-- The target of this name was found at its place, or was added.
abbrev pub IsPlaced : List ℕ → Slot → TargetsValue → TargetsValue → Placed → Type 0
IsPlaced name first old new (Known place) = IsKnown name old new place
IsPlaced name first old new Added = IsAdded name first old new
