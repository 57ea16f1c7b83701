-- What a field file recorded, in the words of its blocks alone.
use Rattle.std.specs.Prelude.{◌≡◌, ℕ, ℤ, pos, IsTrue, List, Contains, Some, ◌⊎◌}
use Rattle.adjust_kernel.specs.Matching.{Key, observed}
use Rattle.station_book.specs.declared.face.Face.{Face}
use Rattle.station_book.specs.declared.face.Face.TheVariants.{One, Two}
use Rattle.station_book.specs.declared.faces.Faces.{Faces}
use Rattle.station_book.specs.Limits.{FaceLimits}
use Rattle.station_book.specs.TwoFaces.{IsTwoC, IsTwoI, IsTwoFace}
use Rattle.station_book.specs.Blocks.{is_of_face}
use Rattle.station_book.specs.Places.{History, Place, places, number_at, before, opening, station}
use Rattle.station_book.specs.Places.{is_set, is_reading, target_at, passes_at}
use Rattle.station_book.specs.Faults.{name_at, angles_at}
use Rattle.station_book.specs.Stations.{SurveyedStation}

-- The file has a reading at this place: of this station, named by its block with code 10, of the
-- set that was opened at `set`, of this target and face.
pub record IsReadingOf (h : History) (name : List ℕ) (set : Place) (target : List ℕ)
    (face : Face) (r : Place) : Type 0 where
  pub placed : Contains (places h) r
  pub reading : IsTrue (is_reading r)
  pub of_station : name_at (station (before r)) ≡ Some name
  pub of_set : opening (before r) ≡ set
  pub of_target : target_at r ≡ target
  pub of_face : IsTrue (passes_at (is_of_face face) r)

-- The file has a set of the station of this name.
pub record HasSet (h : History) (name : List ℕ) : Type 0 where
  pub set : Place
  pub placed : Contains (places h) set
  pub opened : IsTrue (is_set set)
  pub of_station : name_at (station (before set)) ≡ Some name

-- The file recorded this two-face direction of a target, in a set of this number, of the station of
-- this name: the set has a reading of the target in face I and one in face II, the two give the
-- direction within the limit of 2c, and their 2i is within its limit.
pub record IsRecorded (limits : FaceLimits) (h : History) (name : List ℕ) (k : Key) : Type 0 where
  pub set : Place
  pub numbered : number_at set ≡ Some k.set
  pub first : Place
  pub second : Place
  pub face_one : IsReadingOf h name set k.target One first
  pub face_two : IsReadingOf h name set k.target Two second
  pub direction : IsTwoFace limits.two_c (angles_at first) (angles_at second) k.value
  pub difference : ℤ
  pub two_i : IsTwoI limits.two_i (angles_at first) (angles_at second) difference

-- The same, with the face differences of the same two readings, each within its limit, and the
-- zenith angle of the same reading of face I.
pub record IsRecordedWith (limits : FaceLimits) (h : History) (name : List ℕ) (k : Key) (f : Faces)
    : Type 0 where
  pub recorded : IsRecorded limits h name k
  pub two_c : IsTwoC limits.two_c (angles_at recorded.first) (angles_at recorded.second) f.two_c
  pub two_i : IsTwoI limits.two_i (angles_at recorded.first) (angles_at recorded.second) f.two_i
  pub zenith : f.zenith ≡ pos (angles_at recorded.first).zenith

-- The reading at this place is listed: it is one of the two readings of which an observation is
-- listed at its station, set and target.
pub record IsListed (limits : FaceLimits) (h : History) (stations : List SurveyedStation)
    (r : Place) : Type 0 where
  pub surveyed : SurveyedStation
  pub among : Contains stations surveyed
  pub key : Key
  pub listed : Contains (observed surveyed.station) key
  pub recorded : IsRecorded limits h surveyed.station.name key
  pub is_one : (recorded.first ≡ r) ⊎ (recorded.second ≡ r)
