-- How many measurements with a direction a file without sets has.
use Rattle.std.specs.Prelude.{◌≡◌, ℕ, true, Option, Some, None, Result, Ok, Err, ⊤}
use Rattle.std.specs.List.{count_by, list_any}
use Rattle.gsi_file.specs.FileAnswers.{FileAnswers}
use Rattle.station_book.specs.Blocks.{has_direction, opens_set}
use Rattle.station_book.specs.Limits.{FaceLimits}
use Rattle.station_book.specs.Places.{History}
use Rattle.station_book.specs.Stations.{AreStations}
use Rattle.station_check.specs.declared.fault.Fault.{Fault}
use Rattle.station_check.specs.declared.fault.Fault.TheVariants.{Memory}
use Rattle.station_check.specs.declared.survey.Survey.{Survey}
use Rattle.station_check.specs.Outcomes.{FileComesTo}

-- So many of these blocks are measurements with a direction; they are no longer counted where a
-- block has opened a set.
abbrev pub CountsReadings : History → Option ℕ → Type 0
CountsReadings blocks (Some count) = count ≡ count_by has_direction blocks
CountsReadings blocks None = list_any opens_set blocks ≡ true

-- The file ended without a fault, these are its stations, and so many of its blocks are
-- measurements with a direction.
pub record IsCountedSurvey (limits : FaceLimits) (answers : FileAnswers) (survey : Survey)
    : Type 0 where
  pub blocks : History
  pub file : FileComesTo limits answers (Ok blocks)
  pub stations_are : AreStations limits blocks survey.stations
  pub counted : CountsReadings blocks survey.readings

-- The answer is that, or the file's first fault, or that memory ran out.
abbrev pub Counts : FaceLimits → FileAnswers → Result Survey Fault → Type 0
Counts limits answers (Ok survey) = IsCountedSurvey limits answers survey
Counts limits answers (Err Memory) = ⊤
Counts limits answers (Err fault) = FileComesTo limits answers (Err fault)
