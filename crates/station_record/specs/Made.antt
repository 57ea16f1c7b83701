-- An answer of which another text is made.
use Rattle.std.specs.Prelude.{◌≡◌, ℕ, List, Result, Ok, Err}
use Rattle.station_compare.specs.Refusals.{unhinted}
use Rattle.station_compare.specs.declared.fault.CompareFault.TheVariants.{Memory}
use Rattle.station_compare.specs.declared.refusal.Refusal.{Refusal}
use Rattle.station_record.specs.Recorded.{recorded_both_text}
use Rattle.table_report.specs.Stating.{ReportAsked}
use Rattle.table_report.specs.declared.beside.TableReport.{TableReport}

-- What is made of the text; or that there was no memory for it; and a refusal stays.
abbrev pub IsMadeOf : {T : Type 0} → (T → List ℕ) → (List ℕ → List ℕ) → Result T Refusal
    → Result T Refusal → Type 0
IsMadeOf items make (Ok own) (Ok whole) = items whole ≡ make (items own)
IsMadeOf items make (Ok own) (Err refusal) = refusal ≡ unhinted Memory
IsMadeOf items make (Err refusal) r = r ≡ Err refusal

-- What is made of a report with a table: its text with two digests; and its verdict stays.
abbrev pub IsRecordedTable : ReportAsked → List ℕ → List ℕ → TableReport → TableReport → Type 0
IsRecordedTable asked gsi table own whole =
    (whole.text.items ≡ recorded_both_text asked gsi table own.text.items)
    × (whole.beyond ≡ own.beyond)
