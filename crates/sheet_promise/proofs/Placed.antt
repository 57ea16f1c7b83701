-- What is promised of the rows of a sheet, by places, where each place has the blocks before it, the
-- newest first: as the definitions go by which the check is proved.
use Rattle.std.specs.Prelude.{◌≡◌, ◌≢◌, ◌⊎◌, ℕ, ℤ, IsTrue, List, [], ◌∷◌, map, All, AllPairs, Contains, Some}
use Rattle.gsi_word.specs.declared.index.TheConstants.{HORIZONTAL_DIRECTION, VERTICAL_ANGLE}
use Rattle.adjust_kernel.specs.declared.row.Row.{Row}
use Rattle.station_book.specs.declared.face.Face.{Face}
use Rattle.station_book.specs.declared.face.Face.TheVariants.{One, Two}
use Rattle.station_book.specs.Limits.{FaceLimits}
use Rattle.station_book.specs.TwoFaces.{Angles, IsTwoC, IsTwoI, IsTwoFace}
use Rattle.adjust_kernel.specs.Sheets.{SheetValue}
use Rattle.station_book.specs.Places.{History, Place, places, number_at, before, opening, station}
use Rattle.station_book.specs.Places.{is_set, is_reading, target_at}
use Rattle.station_book.specs.Faults.{name_at}
use Rattle.sheet_promise.specs.Readings.{IsOnly, HoldsAngle, IsInFace}
use Rattle.sheet_promise.specs.Promised.{HasEachOnce}

-- A set of the station that was set up at this place: it was opened there after, and before the
-- next station was set up.
pub record IsPlacedSet (h : History) (setup set : Place) : Type 0 where
  pub placed : Contains (places h) set
  pub opened : IsTrue (is_set set)
  pub of_station : station (before set) ≡ setup

-- The same of a set with this number.
pub record IsPlacedNumber (h : History) (setup : Place) (number : ℕ) (set : Place) : Type 0 where
  pub its_set : IsPlacedSet h setup set
  pub numbered : number_at set ≡ Some number

-- The station of this name was set up at this place, and a set of it was opened.
pub record IsPlacedSetUp (h : History) (name : List ℕ) (setup : Place) : Type 0 where
  pub has_name : name_at setup ≡ Some name
  pub set : Place
  pub its_set : IsPlacedSet h setup set

-- The block at a place reads these angles.
abbrev pub ReadsAngles : Place → Angles → Type 0
ReadsAngles [] read = ⊥
ReadsAngles (b ∷ past) read =
    HoldsAngle HORIZONTAL_DIRECTION b read.hz × HoldsAngle VERTICAL_ANGLE b read.zenith

-- A reading of this target, in this set and face.
pub record IsPlacedReading (h : History) (set : Place) (target : List ℕ) (face : Face) (r : Place)
    : Type 0 where
  pub placed : Contains (places h) r
  pub reading : IsTrue (is_reading r)
  pub of_set : opening (before r) ≡ set
  pub of_target : target_at r ≡ target
  pub read : Angles
  pub reads : ReadsAngles r read
  pub of_face : IsInFace face read.zenith

-- The row of a sheet is the two-face direction of its target in its set: the station has one set of
-- its number, this has one reading of the target in face I and one in face II, the two give the
-- direction, and both face differences are within their limits.
pub record IsPlacedRow (limits : FaceLimits) (h : History) (setup : Place) (row : Row)
    : Type 0 where
  pub set : Place
  pub its_set : IsOnly (IsPlacedNumber h setup row.set) set
  pub first : Place
  pub face_one : IsOnly (IsPlacedReading h set row.target One) first
  pub second : Place
  pub face_two : IsOnly (IsPlacedReading h set row.target Two) second
  pub direction : IsTwoFace limits.two_c face_one.is.read face_two.is.read row.value
  pub two_c : ℤ
  pub within_two_c : IsTwoC limits.two_c face_one.is.read face_two.is.read two_c
  pub two_i : ℤ
  pub within_two_i : IsTwoI limits.two_i face_one.is.read face_two.is.read two_i

-- The reading at a place is one of the two of a row.
pub record IsOfPlacedRow (limits : FaceLimits) (h : History) (setup : Place) (rows : List Row)
    (r : Place) : Type 0 where
  pub row : Row
  pub listed : Contains rows row
  pub its : IsPlacedRow limits h setup row
  pub is_one : (its.first ≡ r) ⊎ (its.second ≡ r)

-- The rows of a sheet are the two-face directions of the station that was set up at this place.
pub record ArePlacedRows (limits : FaceLimits) (h : History) (setup : Place) (sheet : SheetValue)
    : Type 0 where
  -- Each row is one; no set and target has two rows; and no reading in a set of the station is left
  -- out.
  pub rows : All (IsPlacedRow limits h setup) sheet.rows
  pub once : AllPairs (λ a b. a.set ≡ b.set → a.target ≢ b.target) sheet.rows
  pub whole : (r : Place) → Contains (places h) r → IsTrue (is_reading r)
      → station (before r) ≡ setup → IsOfPlacedRow limits h setup sheet.rows r
  -- The sheet states one direction for each target of the rows and one orientation for each set,
  -- and no others.
  pub targets : HasEachOnce (map (λ d. d.name) sheet.directions) (map (λ r. r.target) sheet.rows)
  pub sets : HasEachOnce (map (λ o. o.set) sheet.orientations) (map (λ r. r.set) sheet.rows)
