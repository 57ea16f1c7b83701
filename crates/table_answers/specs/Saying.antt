-- What each answer says of a station and the bytes of a table.
use Rattle.std.specs.Prelude.{ℕ, List}
use Rattle.direction_table.specs.declared.form.TableForm.{TableForm}
use Rattle.station_book.specs.Stations.{SurveyedStation}
use Rattle.station_book.specs.declared.result_limits.ResultLimits.{ResultLimits}
use Rattle.station_differences.specs.Stating.{IsDifferencesText}
use Rattle.station_differences.specs.declared.line_form.LineForm.{LineForm}
use Rattle.table_report.specs.Stating.{IsReportOfTable, ReportAsked, ReportValue}

-- The differences of the table, which is read in one form, with lines that are written in another.
abbrev pub SaysDifferences : TableForm → LineForm → SurveyedStation → List ℕ → List ℕ → Type 0
SaysDifferences form written = λ its bytes text.
    IsDifferencesText form written its.station bytes text

-- The report with the table, as it is asked for and with these limits.
abbrev pub SaysTableReport : ReportAsked → ResultLimits → SurveyedStation → List ℕ → ReportValue
    → Type 0
SaysTableReport asked limits = λ its bytes report. IsReportOfTable asked limits its bytes report
