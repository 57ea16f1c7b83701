-- What a caller asks of a report with a table.
use Rattle.std.specs.Prelude.{ℕ, List, Option}
use Rattle.direction_table.specs.declared.form.TableForm.{TableForm}
use Rattle.station_report.specs.NoteTexts.{unnoted}
use Rattle.table_report.specs.Stating.{ReportAsked}

-- a report that names both files by these paths, of a table in this form, with this limit, where
-- one is stated
abbrev pub asked_with : List ℕ → List ℕ → TableForm → Option ℕ → ReportAsked
asked_with path table_path form within =
    record { head = unnoted path; table_path = table_path; form = form; within = within }
