-- What is answered of one station of a field file and of a table of directions, whatever is asked,
-- and how their readers are left.
use Rattle.std.specs.Prelude.{◌≡◌, ℕ, List, Result, Ok, Err}
use Rattle.byte_ends.specs.Came.{Leaves}
use Rattle.byte_ends.specs.Input.{Ended, input_within}
use Rattle.byte_ends.specs.Source.{Told, ReaderChange, MayGive, HasGiven, given_then}
use Rattle.direction_table.specs.declared.reading.TheConstants.{LONGEST_TABLE}
use Rattle.exact_adjustment.specs.LeastOf.{HasResidualsWithin}
use Rattle.gsi_file.specs.FileAnswers.{FileAnswers, file_answers}
use Rattle.station_book.specs.Stations.{SurveyedStation}
use Rattle.station_book.specs.declared.result_limits.ResultLimits.{ResultLimits}
use Rattle.station_check.specs.StationOfFile.{IsStationOfFile}
use Rattle.station_compare.specs.Answers.{field_file_left, table_left}
use Rattle.station_compare.specs.declared.fault.CompareFault.{CompareFault}
use Rattle.table_answers.specs.Refusing.{HasNoAnswer}

-- Of these lines of a field file, and of these bytes of a table and how they end, this is the answer
-- for the station of this name.
pub record StatesBeside {V : Type 0} (Says : SurveyedStation → List ℕ → V → Type 0)
    (limits : ResultLimits) (file : FileAnswers) (stated : Told) (name : List ℕ) (value : V)
    : Type 0 where
  -- The station of this name: its observations are exactly its two-face directions, and every face
  -- difference is within the limits.
  pub its : SurveyedStation
  pub station : IsStationOfFile limits.faces file name its
  -- The table was read to its end.
  pub bytes : List ℕ
  pub whole : input_within LONGEST_TABLE stated ≡ Ended bytes
  -- No residual is above the limit of residuals, whichever choice is least.
  pub held : HasResidualsWithin its.station limits.residual
  -- What is said of both.
  pub said : Says its bytes value

-- What is answered: this, or why there is no answer.
abbrev pub TellsBeside : {V : Type 0} → (SurveyedStation → List ℕ → V → Type 0)
    → (SurveyedStation → List ℕ → CompareFault → Type 0) → ResultLimits → FileAnswers → Told
    → List ℕ → Result V CompareFault → Type 0
TellsBeside Says Refuses limits file stated name (Ok value) =
    StatesBeside Says limits file stated name value
TellsBeside Says Refuses limits file stated name (Err fault) =
    HasNoAnswer Refuses limits file stated name fault

-- A field file and a table were read for an answer: of what both readers gave this is so, and they
-- are left as the answer says.
pub record ReadsBoth {A : Type 0} (gsi table : ReaderChange) (r : Result A CompareFault)
    (So : FileAnswers → Told → Type 0) : Type 0 where
  -- The field file's reader gave these bytes, and the table's reader these.
  pub gsi_bytes : List ℕ
  pub gsi_reads : HasGiven gsi gsi_bytes
  pub table_bytes : List ℕ
  pub table_reads : HasGiven table table_bytes
  -- Of these bytes, and whatever may be left in the readers after them, this is so.
  pub so : (gsi_left table_left : Told) → MayGive gsi.told' gsi_left
      → MayGive table.told' table_left
      → So (file_answers (given_then gsi_bytes gsi_left)) (given_then table_bytes table_left)
  -- A failed read is never passed over; the table's reader is not asked where the field file has a
  -- fault or no such station; and where there is an answer both readers have ended, so that nothing
  -- is left of them and the bytes that they gave are all.
  pub gsi_reader : Leaves field_file_left r gsi
  pub table_reader : Leaves table_left r table
