-- What a book keeps of a station that has sets.
use Rattle.std.specs.Prelude.{◌≡◌, ℕ, ◌-◌, ◌≤◌, nat_le, Bool, false, List, [], ◌∷◌, ◌++◌, length}
use Rattle.std.specs.Prelude.{Option, Some, None, All, AllPairs, ◌≢◌, position, replicate}
use Rattle.std.specs.Prelude.{slice_set}
use Rattle.std.specs.Str.{bytes_eq}
use Rattle.adjust_kernel.specs.declared.obs.Obs.{Obs}
use Rattle.adjust_kernel.specs.declared.bounds.TheConstants.{MOST_SETS, MOST_TARGETS}
use Rattle.station_book.specs.declared.fault.BookKind.{BookKind}
use Rattle.station_book.specs.declared.fault.BookKind.TheVariants as kinds
use Rattle.station_book.specs.Limits.{FaceLimits}
use Rattle.station_book.specs.declared.faces.Faces.{Faces}
use Rattle.station_book.specs.declared.angles.Reading.{Reading}
use Rattle.station_book.specs.declared.slot.Slot.{Slot}
use Rattle.station_book.specs.Faults.{when, first_of}
use Rattle.adjust_kernel.specs.Names.{IsName}
use Rattle.adjust_kernel.specs.Sheets.{IsSetNumber}
use Rattle.station_book.specs.SoFar.{AreSoFar}
use Rattle.station_book.specs.Slots.{slot_at, with_face_reading, empty_slot, slot_faults}
use Rattle.station_book.specs.Slots.{closing_faults, IsKeptSlot, obs_of, faces_of}

-- the names of its targets, their readings in its last set, the numbers of its sets, and what all
-- sets before the last gave
pub record StationState : Type 0 where
  pub targets : List (List ℕ)
  pub slots : List Slot
  pub sets : List ℕ
  pub obs : List Obs
  pub faces : List Faces

-- a station with its first set
abbrev pub begun : ℕ → StationState
begun n = record { targets = []; slots = []; sets = n ∷ []; obs = []; faces = [] }

-- what all its sets gave
abbrev pub closed : StationState → StationState
closed e = record e {
  obs = e.obs ++ obs_of
      (length e.sets - 1) e.slots;
  faces = e.faces ++ faces_of e.slots;
}

-- the station with one more set
abbrev pub with_set : ℕ → StationState → StationState
with_set n e = record {
  targets = e.targets;
  slots = replicate (length e.slots) empty_slot;
  sets = e.sets ++ n ∷ [];
  obs = e.obs ++ obs_of (length e.sets - 1) e.slots;
  faces = e.faces ++ faces_of e.slots;
}

-- whether this is the name at a place
abbrev pub is_named : List ℕ → Option (List ℕ) → Bool
is_named name None = false
is_named name (Some t) = bytes_eq t name

-- the place of the target of this name
abbrev pub place_of : List ℕ → List (List ℕ) → Option ℕ
place_of name targets = position (λ t. bytes_eq t name) targets

-- the fault of a target more, where a station has as many as it may have
abbrev pub new_target_fault : List (List ℕ) → Option BookKind
new_target_fault targets = first_of (when (nat_le MOST_TARGETS (length targets))
    kinds.TooManyTargets ∷ [])

-- the faults of a reading in the last set, of the target at this place or of a new one
abbrev pub state_faults_at : FaceLimits → StationState → Reading → Option ℕ → List (Option BookKind)
state_faults_at limits e s None = when
    (nat_le MOST_TARGETS (length e.targets)) kinds.TooManyTargets ∷ []
state_faults_at limits e s (Some i) = slot_faults limits (slot_at e.slots i) s

-- the faults of a reading in the last set
abbrev pub state_faults : FaceLimits → StationState → Reading → List (Option BookKind)
state_faults limits e s = state_faults_at limits e s (place_of s.target e.targets)

-- the station with one more reading in the last set, of the target at this place or of a new one
abbrev pub with_reading_at : Reading → StationState → Option ℕ → StationState
with_reading_at s e None = record
    e {
      targets = e.targets ++ s.target ∷ [];
      slots = e.slots ++ with_face_reading s.face s.angles
          empty_slot ∷ [];
    }
with_reading_at s e (Some i) = record
    e { slots = slice_set e.slots i (with_face_reading s.face s.angles (slot_at e.slots i)) }

-- the station with one more reading in the last set
abbrev pub with_reading : Reading → StationState → StationState
with_reading s e = with_reading_at s e (place_of s.target e.targets)

-- what always holds of the parts
pub record IsStationState (e : StationState) : Type 0 where
  pub same_length : length e.slots ≡ length e.targets
  pub paired : length e.faces ≡ length e.obs
  pub few_targets : length e.targets ≤ MOST_TARGETS
  pub some_set : 1 ≤ length e.sets
  pub few_sets : length e.sets ≤ MOST_SETS
  pub angles : All IsKeptSlot e.slots
  pub names : All IsName e.targets
  pub different : AllPairs (λ a b. a ≢ b) e.targets
  pub numbers : All IsSetNumber e.sets
  pub different_sets : AllPairs (λ a b. a ≢ b) e.sets
  pub so_far : AreSoFar (length e.sets - 1) e.slots e.obs

-- The last set may end here.
abbrev pub MayEnd : StationState → Type 0
MayEnd e = first_of (closing_faults e.slots) ≡ None
