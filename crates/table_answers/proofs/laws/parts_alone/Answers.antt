use Rattle.std.proofs.Common.{ℕ, List, refl}
use Rattle.byte_ends.specs.Source.{Told}
use Rattle.gsi_file.specs.FileAnswers.{FileAnswers}
use Rattle.station_book.specs.Stations.{SurveyedStation}
use Rattle.station_book.specs.declared.result_limits.ResultLimits.{ResultLimits}
use Rattle.table_answers.specs.Answers.{StatesBeside}
use Rattle.table_answers.specs.ColumnRows.{table_columns}
use Rattle.table_answers.specs.Wholes.{IsWhole, WholeValue, beyond_in}
use Rattle.table_report.specs.Stating.{ReportAsked}
use Rattle.table_answers.proofs.laws.parts_alone.Goals as goal

-- What else is said of the same station and bytes is answered too, where it is asked for.
answered : {V : Type 0} {Says : SurveyedStation → List ℕ → V → Type 0} (asked : ReportAsked)
    (limits : ResultLimits) (file : FileAnswers) (stated : Told) (name : List ℕ)
    (whole : WholeValue) → (s : StatesBeside (IsWhole asked limits) limits file stated name whole)
    → (value : V) → Says s.its s.bytes value → StatesBeside Says limits file stated name value
answered asked limits file stated name whole s value said = record {
  its = s.its;
  station = s.station;
  bytes = s.bytes;
  whole = s.whole;
  held = s.held;
  said = said;
}

pub returns : goal.returns
returns c = λ asked limits file stated name whole s.
    let parts = s.said in
    let columns = table_columns asked.form s.its.station.targets s.bytes in
    record {
      states_comparison = answered asked limits file stated name whole s whole.compared
          parts.compares;
      columns = columns;
      states_columns = answered asked limits file stated name whole s columns refl;
      differences = parts.differences;
      states_differences = answered asked limits file stated name whole s parts.differences
          parts.are_differences;
      report = parts.report;
      states_report = answered asked limits file stated name whole s
          (record { text = parts.report; beyond = beyond_in whole.compared }) parts.is_report;
      text_is = parts.text_is;
    }
