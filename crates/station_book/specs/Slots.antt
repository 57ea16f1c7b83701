-- The readings of a set by target, as a book keeps them.
use Rattle.std.specs.Prelude.{ℕ, Bool, ◌&&◌, ◌||◌, is_some, is_none, List, [], ◌∷◌, Option, Some}
use Rattle.std.specs.Prelude.{pos, None, IfSome, filter_map, slice_index_or}
use Rattle.std.specs.List.{list_any, list_all, enumerate_from}
use Rattle.adjust_kernel.specs.declared.obs.Obs.{Obs}
use Rattle.station_book.specs.declared.face.Face.{Face}
use Rattle.station_book.specs.declared.face.Face.TheVariants.{One, Two}
use Rattle.station_book.specs.declared.fault.BookKind.{BookKind}
use Rattle.station_book.specs.declared.fault.BookKind.TheVariants as kinds
use Rattle.station_book.specs.Limits.{FaceLimits}
use Rattle.station_book.specs.declared.faces.Faces.{Faces}
use Rattle.station_book.specs.TwoFaces.{Angles, AreOnCircle}
use Rattle.station_book.specs.declared.angles.Reading.{Reading}
use Rattle.station_book.specs.declared.slot.Slot.{Slot}
use Rattle.station_book.specs.Blocks.{other_face}
use Rattle.station_book.specs.Faults.{when, first_of, has_no_two_c, has_no_two_i, is_apart}
use Rattle.station_book.specs.Pairs.{two_c, two_i, direction}

-- the reading of a face
abbrev pub face_reading : Face → Slot → Option Angles
face_reading One s = s.one
face_reading Two s = s.two

-- the slot with a reading in this face
abbrev pub with_face_reading : Face → Angles → Slot → Slot
with_face_reading One v s = record s { one = Some v }
with_face_reading Two v s = record s { two = Some v }

-- no reading in either face
abbrev pub empty_slot : Slot
empty_slot = record { one = None; two = None }

-- the faults of a reading of a target that has this slot
abbrev pub slot_faults : FaceLimits → Slot → Reading → List (Option BookKind)
slot_faults limits slot s =
    when (is_some (face_reading s.face slot)) kinds.FaceTwice
    ∷ when (is_apart (has_no_two_c limits.two_c) s.angles (face_reading (other_face s.face) slot))
    kinds.TwoC
    ∷ when (is_apart (has_no_two_i limits.two_i) s.angles (face_reading (other_face s.face) slot))
    kinds.TwoI
    ∷ []

-- the fault of two readings
abbrev pub pair_fault : FaceLimits → Angles → Angles → Option BookKind
pair_fault limits a b = first_of
    (when (has_no_two_c limits.two_c a b) kinds.TwoC ∷ when
    (has_no_two_i limits.two_i a b) kinds.TwoI ∷ [])

-- whether there is no reading in either face
abbrev pub is_unread : Slot → Bool
is_unread s = is_none s.one && is_none s.two

-- whether there is a reading in one face alone
abbrev pub is_single : Slot → Bool
is_single s = (is_some s.one && is_none s.two) || (is_none s.one && is_some s.two)

-- the faults of a set that ends
abbrev pub closing_faults : List Slot → List (Option BookKind)
closing_faults slots =
    when (list_all is_unread slots) kinds.EmptySet
    ∷ when (list_any is_single slots) kinds.OneFace
    ∷ []

-- its readings are on the circle
abbrev pub IsKeptSlot : Slot → Type 0
IsKeptSlot s = (IfSome s.one AreOnCircle) × (IfSome s.two AreOnCircle)

-- the observation of two readings
abbrev pub observation_of : ℕ → ℕ → Option Angles → Option Angles → Option Obs
observation_of set target (Some a) (Some b) = Some
    (record { set = set; target = target; value = direction a b })
observation_of set target (Some a) None = None
observation_of set target None b = None

-- the observation of the slot at this place, where it has both readings
abbrev pub obs_at : ℕ → ℕ × Slot → Option Obs
obs_at set p = observation_of set p.0 p.1.one p.1.two

-- the observations of a set, in the order of the targets
abbrev pub obs_of : ℕ → List Slot → List Obs
obs_of set slots = filter_map (obs_at set) (enumerate_from 0 slots)

-- the face differences of two readings, and the zenith angle of that in face I
abbrev pub compared : Option Angles → Option Angles → Option Faces
compared (Some a) (Some b) =
    Some (record { two_c = two_c a b; two_i = two_i a b; zenith = pos a.zenith })
compared (Some a) None = None
compared None b = None

-- the face differences of a slot, where it has both readings
abbrev pub faces_at : Slot → Option Faces
faces_at s = compared s.one s.two

-- the face differences of a set, in the order of the targets
abbrev pub faces_of : List Slot → List Faces
faces_of slots = filter_map faces_at slots

-- the slot at this place; an empty one beyond the last
abbrev pub slot_at : List Slot → ℕ → Slot
slot_at slots i = slice_index_or slots i empty_slot
