-- What is answered and written of the sheet of means of a station.
use Rattle.std.specs.Prelude.{◌≡◌, ℕ, false, List, Option, Some, None, Result, Ok, Err, ⊤}
use Rattle.std.specs.Io.KnownBytes.{Appends}
use Rattle.byte_ends.specs.Sink.{AppendsSome}
use Rattle.gsi_file.specs.FileAnswers.{FileAnswers}
use Rattle.adjust_kernel.specs.Sheets.{SheetValue}
use Rattle.adjust_kernel.specs.declared.accepted.Accepted.{Accepted}
use Rattle.sheet_format.specs.Texts.{sheet_text}
use Rattle.sheet_means.specs.Complete.{IsComplete}
use Rattle.sheet_means.specs.Means.{IsMeansSheet}
use Rattle.sheet_means.specs.declared.fault.MeansFault.TheVariants as means
use Rattle.station_book.specs.Limits.{FaceLimits}
use Rattle.station_book.specs.Stations.{SurveyedStation, station_named}
use Rattle.station_check.specs.declared.fault.Fault.{Fault}
use Rattle.station_check.specs.declared.fault.Fault.TheVariants.{NoStation, Means, Write, Memory}
use Rattle.station_check.specs.Outcomes.{FileComesTo}
use Rattle.station_check.specs.Surveys.{IsSurvey}
use Rattle.station_check.specs.Verdicts.{IsWholeVerdict}

-- The file ended without a fault, and this is its station of this name.
pub record HasStation (limits : FaceLimits) (answers : FileAnswers) (name : List ℕ)
    (its : SurveyedStation) : Type 0 where
  pub stations : List SurveyedStation
  pub survey : IsSurvey limits answers stations
  pub named : station_named name stations ≡ Some its

-- The file ended without a fault, and has no station of this name.
pub record HasNoStation (limits : FaceLimits) (answers : FileAnswers) (name : List ℕ)
    : Type 0 where
  pub stations : List SurveyedStation
  pub survey : IsSurvey limits answers stations
  pub none : station_named name stations ≡ None

-- Some target of the station was not observed in some set.
pub record HasIncomplete (limits : FaceLimits) (answers : FileAnswers) (name : List ℕ)
    : Type 0 where
  pub its : SurveyedStation
  pub has : HasStation limits answers name its
  pub gap : IsComplete its.station → ⊥

-- This is the text of the sheet of means of the station of this name, all of whose sets are
-- complete; and the whole verdict on the same file with that text is that it is accepted, where no
-- residual limit is stated.
pub record IsMeansText (limits : FaceLimits) (answers : FileAnswers) (name : List ℕ)
    (text : List ℕ) : Type 0 where
  pub its : SurveyedStation
  pub has : HasStation limits answers name its
  pub complete : IsComplete its.station
  pub sheet : SheetValue
  pub means : IsMeansSheet its.station sheet
  pub text_is : text ≡ sheet_text sheet
  pub acceptance : Accepted
  pub accepted : IsWholeVerdict limits None answers
      (record { bytes = text; fails = false }) (Ok acceptance)

-- The sheet of means was written whole; or, where a call of the writer failed, some of its first
-- bytes; or there is no station of this name, or a set of it is incomplete; else the file's first
-- fault is answered, or that memory ran out.
abbrev pub WritesMeans : FaceLimits → FileAnswers → List ℕ → {A : Type 0} → Result A Fault
    → Option (List ℕ) → Option (List ℕ) → Type 0
WritesMeans limits answers name (Ok x) old new =
    (text : List ℕ) × IsMeansText limits answers name text × Appends old new text
WritesMeans limits answers name (Err Write) old new =
    (text : List ℕ) × IsMeansText limits answers name text × AppendsSome old new text
WritesMeans limits answers name (Err NoStation) old new = HasNoStation limits answers name
WritesMeans limits answers name (Err (Means means.Incomplete)) old new =
    HasIncomplete limits answers name
WritesMeans limits answers name (Err Memory) old new = ⊤
WritesMeans limits answers name (Err fault) old new = FileComesTo limits answers (Err fault)
