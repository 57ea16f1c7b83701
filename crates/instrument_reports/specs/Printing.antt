-- A report as it is printed.
use Rattle.std.specs.Prelude.{◌≡◌, ℕ, List, Result, Ok, Err, if◌then◌else◌}
use Rattle.report_notes.specs.Notes.{NotesValue}
use Rattle.report_pages.specs.Pages.{paged}
use Rattle.report_phrases.specs.Phrases.{said}
use Rattle.report_phrases.specs.declared.phrase.Phrase.TheVariants.{Station}
use Rattle.station_compare.specs.Refusals.{unhinted}
use Rattle.station_compare.specs.declared.fault.CompareFault.TheVariants.{Memory}
use Rattle.station_compare.specs.declared.refusal.Refusal.{Refusal}
use Rattle.table_answers.specs.declared.noted.Noted.{Noted}
use Rattle.table_report.specs.declared.beside.TableReport.{TableReport}

-- The text of a report that is told to note this, as it is printed: in pages, each further one of
-- which repeats the lines down to that of the station, where it is told to be divided; else as it
-- is.
abbrev pub as_printed : NotesValue → List ℕ → List ℕ
as_printed notes text =
    if notes.pages then paged (said notes.language Station) text else text

-- A report with a table and its note, whose text alone has become another, so that this is so of
-- both; or that there was no memory for it; and a refusal stays.
abbrev pub IsNotedOf : (List ℕ → List ℕ → Type 0) → Result (Noted TableReport) Refusal
    → Result (Noted TableReport) Refusal → Type 0
IsNotedOf IsText (Ok own) (Ok whole) =
    IsText own.answer.text.items whole.answer.text.items
    × (whole.answer.beyond ≡ own.answer.beyond) × (whole.note.items ≡ own.note.items)
IsNotedOf IsText (Ok own) (Err refusal) = refusal ≡ unhinted Memory
IsNotedOf IsText (Err refusal) r = r ≡ Err refusal

-- The same of a text that is made of its own.
abbrev pub IsNotedMade : (List ℕ → List ℕ) → Result (Noted TableReport) Refusal
    → Result (Noted TableReport) Refusal → Type 0
IsNotedMade make own r = IsNotedOf (λ text whole. whole ≡ make text) own r
