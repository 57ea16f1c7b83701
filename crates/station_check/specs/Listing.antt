-- What is answered and written of the list of a field file's stations.
use Rattle.std.specs.Prelude.{◌≡◌, ℕ, List, Option, Result, Ok, Err, ⊤}
use Rattle.std.specs.Io.KnownBytes.{Appends}
use Rattle.byte_ends.specs.Sink.{AppendsSome}
use Rattle.gsi_file.specs.FileAnswers.{FileAnswers}
use Rattle.station_book.specs.Limits.{FaceLimits}
use Rattle.station_book.specs.Places.{History}
use Rattle.station_book.specs.Stations.{SurveyedStation, AreStations}
use Rattle.station_check.specs.declared.fault.Fault.{Fault}
use Rattle.station_check.specs.declared.fault.Fault.TheVariants.{Write, Memory}
use Rattle.station_check.specs.ListNotes.{unchecked_in}
use Rattle.station_check.specs.ListTexts.{list_text}
use Rattle.station_check.specs.Outcomes.{FileComesTo}
use Rattle.station_check.specs.Surveys.{IsSurvey}

-- The file ended without a fault, and this is the list of its stations.
pub record IsList (limits : FaceLimits) (answers : FileAnswers) (text : List ℕ) : Type 0 where
  pub stations : List SurveyedStation
  pub survey : IsSurvey limits answers stations
  pub text_is : text ≡ list_text stations

-- The list was written whole; or, where a call of the writer failed, some of its first bytes; else
-- the file's first fault is answered, or that memory ran out.
abbrev pub WritesList : FaceLimits → FileAnswers → {A : Type 0} → Result A Fault
    → Option (List ℕ) → Option (List ℕ) → Type 0
WritesList limits answers (Ok x) old new =
    (text : List ℕ) × IsList limits answers text × Appends old new text
WritesList limits answers (Err Write) old new =
    (text : List ℕ) × IsList limits answers text × AppendsSome old new text
WritesList limits answers (Err Memory) old new = ⊤
WritesList limits answers (Err fault) old new = FileComesTo limits answers (Err fault)

-- The file ended without a fault, this is the list of its stations, and so many readings went
-- unchecked.
pub record IsListWithNote (limits : FaceLimits) (answers : FileAnswers) (text : List ℕ)
    (unchecked : ℕ) : Type 0 where
  pub blocks : History
  pub file : FileComesTo limits answers (Ok blocks)
  pub stations : List SurveyedStation
  pub stations_are : AreStations limits blocks stations
  pub text_is : text ≡ list_text stations
  pub unchecked_is : unchecked ≡ unchecked_in stations blocks

-- The same, where with the list it is answered how many readings went unchecked.
abbrev pub WritesListWithNote : FaceLimits → FileAnswers → Result ℕ Fault
    → Option (List ℕ) → Option (List ℕ) → Type 0
WritesListWithNote limits answers (Ok unchecked) old new =
    (text : List ℕ) × IsListWithNote limits answers text unchecked × Appends old new text
WritesListWithNote limits answers (Err fault) old new =
    WritesList limits answers {A = ℕ} (Err fault) old new
