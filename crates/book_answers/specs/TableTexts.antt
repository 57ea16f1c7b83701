-- What is answered of stations and of a table of all, before it is said of the file.
use Rattle.std.specs.Prelude.{◌≡◌, ◌⊎◌, ℕ, List, Option, Some, None, Result, Ok, Err}
use Rattle.book_answers.specs.OfStations.{IsFirstAt, IsOneText}
use Rattle.book_answers.specs.Notes.{AreNotes, IsPartNote}
use Rattle.book_answers.specs.PartTexts.{RefusesPart, SaysPart}
use Rattle.book_answers.specs.Refusals.{of_no_one}
use Rattle.book_answers.specs.Tables.{arrangement_of}
use Rattle.book_answers.specs.declared.answering.NotedText.{NotedText}
use Rattle.book_answers.specs.declared.part.PartAsked.{PartAsked}
use Rattle.book_answers.specs.declared.refusal.StationRefusal.{StationRefusal}
use Rattle.byte_ends.specs.Input.{BrokeOff, Ended, Input, RanPast}
use Rattle.direction_table.specs.declared.fault.RowKind.TheVariants.{Unknown}
use Rattle.direction_table.specs.declared.fault.TableFault.TheVariants.{Row, TooLong}
use Rattle.station_book.specs.Stations.{SurveyedStation}
use Rattle.station_book.specs.declared.result_limits.ResultLimits.{ResultLimits}
use Rattle.station_compare.specs.HintTexts.{stations_hint}
use Rattle.station_compare.specs.declared.fault.CompareFault.{CompareFault}
use Rattle.station_compare.specs.declared.fault.CompareFault.TheVariants.{Memory, Table, TableRead}
use Rattle.station_tables.specs.Lines.{lines_of}
use Rattle.station_tables.specs.Strays.{first_stray}

-- the refusal of a table whose line of this number is of no one station
abbrev pub stray_refusal : List SurveyedStation → ℕ → ℕ → StationRefusal
stray_refusal stations unchecked number = record {
  refusal = record {
    fault = Table (Row number Unknown);
    hint = stations_hint stations unchecked;
  };
  station = None;
}

-- Why there is no text of lines: one is of no one station, or else a station is refused.
abbrev pub IsWhyOfLines : PartAsked → ResultLimits → List SurveyedStation → ℕ → List (List ℕ)
    → Option ℕ → StationRefusal → Type 0
IsWhyOfLines asked limits stations unchecked lines (Some number) refused =
    refused ≡ stray_refusal stations unchecked number
IsWhyOfLines asked limits stations unchecked lines None refused =
    IsFirstAt (λ its. SaysPart asked limits its lines) (λ its. RefusesPart asked limits its lines)
    limits.residual stations refused

-- What is answered of the bytes of a table.
abbrev pub IsOfBytes : PartAsked → ResultLimits → List SurveyedStation → ℕ → List ℕ
    → Result NotedText StationRefusal → Type 0
IsOfBytes asked limits stations unchecked table (Ok told) =
    (first_stray stations (lines_of table) ≡ None)
    × IsOneText (λ its. SaysPart asked limits its (lines_of table)) limits.residual
    (arrangement_of asked.text) stations told.text.items
    × AreNotes (IsPartNote asked.form (lines_of table)) stations told.notes.items
IsOfBytes asked limits stations unchecked table (Err refused) =
    (refused ≡ of_no_one Memory)
    ⊎ IsWhyOfLines asked limits stations unchecked (lines_of table)
    (first_stray stations (lines_of table)) refused

-- This fault, or that memory ran out.
abbrev pub IsNoOnes : CompareFault → Result NotedText StationRefusal → Type 0
IsNoOnes fault r = (r ≡ Err (of_no_one fault)) ⊎ (r ≡ Err (of_no_one Memory))

-- What is answered of what comes of the table's reader.
abbrev pub IsOfInput : PartAsked → ResultLimits → List SurveyedStation → ℕ → Input
    → Result NotedText StationRefusal → Type 0
IsOfInput asked limits stations unchecked (Ended table) r =
    IsOfBytes asked limits stations unchecked table r
IsOfInput asked limits stations unchecked (BrokeOff bytes) r = IsNoOnes TableRead r
IsOfInput asked limits stations unchecked RanPast r = IsNoOnes (Table TooLong) r
