-- The stations of a field file, and how many of its readings went unchecked.
use Rattle.std.specs.Prelude.{◌≡◌, ℕ, List, Result, Ok, Err, ⊤}
use Rattle.gsi_file.specs.FileAnswers.{FileAnswers}
use Rattle.station_book.specs.Limits.{FaceLimits}
use Rattle.station_book.specs.Places.{History}
use Rattle.station_book.specs.Stations.{SurveyedStation, AreStations}
use Rattle.station_check.specs.declared.fault.Fault.{Fault}
use Rattle.station_check.specs.declared.fault.Fault.TheVariants.{Memory}
use Rattle.station_check.specs.ListNotes.{unchecked_in}
use Rattle.station_check.specs.Outcomes.{FileComesTo}

-- The file ended without a fault, these are its stations, and so many of its readings went
-- unchecked.
pub record IsNotedSurvey (limits : FaceLimits) (answers : FileAnswers)
    (stations : List SurveyedStation) (unchecked : ℕ) : Type 0 where
  pub blocks : History
  pub file : FileComesTo limits answers (Ok blocks)
  pub stations_are : AreStations limits blocks stations
  pub unchecked_is : unchecked ≡ unchecked_in stations blocks

-- The answer is that, or the file's first fault, or that memory ran out.
abbrev pub NotesSurvey :
    FaceLimits → FileAnswers → Result (List SurveyedStation × ℕ) Fault → Type 0
NotesSurvey limits answers (Ok found) = IsNotedSurvey limits answers found.0 found.1
NotesSurvey limits answers (Err Memory) = ⊤
NotesSurvey limits answers (Err fault) = FileComesTo limits answers (Err fault)
