-- What is told of a table beside an answer.
use Rattle.std.specs.Prelude.{◌≡◌, ℕ, List, ◌++◌, Option}
use Rattle.adjust_kernel.specs.Stations.{StationValue}
use Rattle.direction_table.specs.TableNotes.{table_note}
use Rattle.direction_table.specs.declared.form.TableForm.{TableForm}
use Rattle.direction_table.specs.declared.unit.AngleUnit.{AngleUnit}
use Rattle.station_book.specs.Stations.{SurveyedStation}
use Rattle.table_answers.specs.OtherUnits.{IsOtherUnit, unit_note}

-- The note of a table: by which pair of its columns it was read, and what was passed over; and the
-- unit in which it agrees, where it is apart as it is read.
pub record IsNote (form : TableForm) (station : StationValue) (bytes note : List ℕ) : Type 0 where
  pub other : Option AngleUnit
  pub names : IsOtherUnit form station bytes other
  pub text_is : note ≡ table_note form station.targets bytes ++ unit_note other

-- This is said of a station and the bytes of a table, and the note is that of the table.
abbrev pub Noting : {V : Type 0} → (SurveyedStation → List ℕ → V → Type 0) → TableForm
    → SurveyedStation → List ℕ → V × List ℕ → Type 0
Noting Says form = λ its bytes noted.
    Says its bytes noted.0 × IsNote form its.station bytes noted.1
