-- What is asked and answered, without where it lies in memory.
use Rattle.station_report.specs.NoteTexts.{head_of}
use Rattle.table_report.specs.Stating.{ReportAsked, ReportValue, beyond_of}
use Rattle.table_report.specs.declared.asked.Asked.{Asked}
use Rattle.table_report.specs.declared.beside.Beside.{Beside}
use Rattle.table_report.specs.declared.beside.TableReport.{TableReport}

-- what is asked
abbrev pub asked_of : Asked → ReportAsked
asked_of asked = record {
  head = head_of asked.head;
  table_path = asked.table_path.now;
  form = asked.form;
  within = asked.within;
}

-- the report
abbrev pub value_of : TableReport → ReportValue
value_of report = record { text = report.text.items; beyond = report.beyond }

-- the report of a station beside stated directions
abbrev pub report_of : Beside → ReportValue
report_of beside = record { text = beside.report.items; beyond = beyond_of beside.how_far }
