-- What is said of the station of a name in a field file, in the words of the file alone: its
-- observations are exactly the two-face directions of that station, and every face difference is
-- within the limits.
use Rattle.std.specs.Prelude.{◌≡◌, ◌↔◌, ℕ, List, reverse, None}
use Rattle.std.specs.List.{AllZip, Contains}
use Rattle.adjust_kernel.specs.Matching.{Key, observed}
use Rattle.gsi_file.specs.FileAnswers.{FileAnswers}
use Rattle.gsi_word.specs.Blocks.{IsBlock}
use Rattle.station_book.specs.Faults.{fault_at_end, IsWithoutFault}
use Rattle.station_book.specs.Limits.{FaceLimits}
use Rattle.station_book.specs.Places.{History}
use Rattle.station_book.specs.Recorded.{IsRecorded, IsRecordedWith}
use Rattle.station_book.specs.Stations.{SurveyedStation, AreStations}

-- Of these lines and the end after them, this is the station of this name.
pub record IsStationOfFile (limits : FaceLimits) (file : FileAnswers) (name : List ℕ)
    (its : SurveyedStation) : Type 0 where
  -- The field file was read to its end, and its numbered lines are these blocks, the newest first.
  pub blocks : History
  pub ended : file.last ≡ None
  pub lines : AllZip IsBlock file.lines (reverse blocks)
  -- No fault stands at any of them, nor at the end.
  pub faultless : IsWithoutFault limits blocks
  pub closed : fault_at_end blocks ≡ None
  -- Of the stations of these blocks it is the one that has the name.
  pub stations : List SurveyedStation
  pub surveyed : AreStations limits blocks stations
  pub listed : Contains stations its
  pub named : its.station.name ≡ name
  pub only : (other : SurveyedStation) → Contains stations other
      → other.station.name ≡ name → other ≡ its
  -- Its observations are exactly its two-face directions: those that the blocks recorded in both
  -- faces, and no others.
  pub exactly : (k : Key) → Contains (observed its.station) k ↔ IsRecorded limits blocks name k
  -- Every face difference is within the limits: beside each observation stand those of its two
  -- readings.
  pub within : AllZip (IsRecordedWith limits blocks name) (observed its.station) its.faces
