-- A report with a table that was printed as it is told to be.
use Rattle.std.proofs.Common.{◌≡◌, ◌∙◌, ℕ, List, [], Option, Result, Ok, Err, refl, subst}
use Rattle.std.specs.Prelude.{MatchResult}
use Rattle.byte_ends.specs.Sink.{WriterChange}
use Rattle.byte_ends.specs.Source.{ReaderChange}
use Rattle.instrument_reports.proofs.Kept.{both_retold}
use Rattle.instrument_reports.specs.Answers.{SaysTableReportOf}
use Rattle.instrument_reports.specs.Printing.{IsNotedMade, as_printed}
use Rattle.instrument_reports.specs.Runs.{IsTableReportRun}
use Rattle.station_book.specs.declared.result_limits.ResultLimits.{ResultLimits}
use Rattle.station_compare.specs.Hints.{IsHinted}
use Rattle.station_compare.specs.Refusals.{by_fault, unhinted}
use Rattle.station_compare.specs.declared.fault.CompareFault.TheVariants.{Memory}
use Rattle.station_compare.specs.declared.how_far.HowFar.{HowFar}
use Rattle.station_compare.specs.declared.refusal.Refusal.{Refusal}
use Rattle.table_answers.specs.Answers.{ReadsBoth, StatesBeside}
use Rattle.table_answers.specs.Noting.{Noting}
use Rattle.table_answers.specs.Printing.{PrintsReport, PrintsVerdict}
use Rattle.table_answers.specs.Refusing.{HasNoAnswer, RefusesComparison}
use Rattle.table_answers.specs.Runs.{PrintsBeside}
use Rattle.table_answers.specs.declared.noted.Noted.{Noted}
use Rattle.table_report.specs.Stating.{ReportAsked}
use Rattle.table_report.specs.Values.{value_of}
use Rattle.table_report.specs.declared.beside.TableReport.{TableReport}

-- A run that printed a report as it is told to be, or its refusal.
pub table_printed : {A : Type 0} (asked : ReportAsked) (limits : ResultLimits)
    (gsi table : ReaderChange) (name : List ℕ) (answer all : Result (Noted TableReport) Refusal)
    → (a : ReadsBoth gsi table (by_fault answer) (λ file stated. MatchResult (by_fault answer)
    (λ noted. StatesBeside (Noting (SaysTableReportOf file asked limits) asked.form) limits file
    stated name (value_of noted.answer, noted.note.items))
    (HasNoAnswer (RefusesComparison asked.form limits) limits file stated name)
    × IsHinted limits file name answer))
    → IsNotedMade (as_printed asked.head.notes) answer all
    → (r : Result A Refusal) (note : List ℕ) (out : WriterChange)
    → PrintsBeside (λ (n : Noted TableReport). PrintsReport (value_of n.answer)) all r out
    → MatchResult all (λ n. note ≡ n.note.items) (λ _. note ≡ [])
    → IsTableReportRun asked limits gsi table name r note out
table_printed asked limits gsi table name (Ok own) (Ok whole) a made r note out p noted = record {
  answer = Ok (value_of own.answer, own.note.items);
  tells = both_retold a (λ left stated may so. so) (λ l. l) (λ l. l);
  printed = (
    subst (λ (t : List ℕ). PrintsVerdict t own.answer.beyond (by_fault r) out) made.0
        (subst (λ (b : Option HowFar). PrintsVerdict whole.answer.text.items b (by_fault r) out)
        made.1 p.0),
    p.1,
  );
  noted = noted ∙ made.2;
}
table_printed asked limits gsi table name (Ok own) (Err refusal) a made r note out p noted = record {
  answer = Err (unhinted Memory);
  tells = both_retold a (λ left stated may so. (tt, refl)) (λ l. l.unfailed) (λ l. l.unfailed);
  printed = rw made at p;
  noted = noted;
}
table_printed asked limits gsi table name (Err refusal) all a made r note out p noted = record {
  answer = Err refusal;
  tells = both_retold a (λ left stated may so. so) (λ l. l) (λ l. l);
  printed = rw made at p;
  noted = rw made at noted;
}
