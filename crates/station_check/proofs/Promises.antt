-- From what a field file and a sheet come to, to the promise of a check.
use Rattle.std.proofs.Common.{◌≡◌, ℕ, List, Option, Ok, Err, refl, ◌⊎◌, inl, inr}
use Rattle.std.specs.Prelude.{Result, IfErr}
use Rattle.byte_ends.specs.Source.{Told}
use Rattle.byte_ends.specs.Input.{input_within}
use Rattle.gsi_file.specs.FileAnswers.{FileAnswers, file_answers}
use Rattle.adjust_kernel.specs.declared.accepted.Accepted.{Accepted}
use Rattle.sheet_format.specs.declared.reading.TheConstants.{LONGEST_SHEET}
use Rattle.station_book.specs.Limits.{FaceLimits, AreLimits}
use Rattle.station_book.specs.Stations.{SurveyedStation}
use Rattle.station_check.specs.declared.fault.Fault.{Fault}
use Rattle.station_check.specs.declared.fault.Fault.TheVariants.{Gsi, Book, SheetRead, Sheet}
use Rattle.station_check.specs.declared.fault.Fault.TheVariants.{NoStation, Means, Kernel, Write}
use Rattle.station_check.specs.declared.fault.Fault.TheVariants.{Memory}
use Rattle.station_check.specs.Answerable.{IsOfFile, IsOfSheet}
use Rattle.station_check.specs.KernelVerdicts.{IsChecked}
use Rattle.station_check.specs.Promise.{KeepsPromise}
use Rattle.station_check.specs.Surveys.{Surveys, IsSurvey}
use Rattle.station_check.specs.Verdicts.{IsSheetVerdict, AnswersVerdict}
use Rattle.station_check.proofs.Acceptance.{accepted_so}
use Rattle.station_check.proofs.OneVerdict.{only_verdict}
use Rattle.station_check.proofs.Refusals.{refused_so, told_of_file, none_first, first}

-- The whole verdict on a sheet that was checked by a file's stations.
verdict_of : (limits : FaceLimits) (limit : Option ℕ) (file : FileAnswers) (stated : Told)
    (stations : List SurveyedStation) (r : Result Accepted Fault) → IsSurvey limits file stations
    → IsChecked stations limit stated r → AnswersVerdict limits limit file stated r
verdict_of limits limit file stated stations r s c = by_checked c.verdict where
  by_checked : (r ≡ Err Memory)
      ⊎ IsSheetVerdict stations limit (input_within LONGEST_SHEET stated) r
      → AnswersVerdict limits limit file stated r
  by_checked (inl e) = inl e
  by_checked (inr h) =
      inr (record { came = Ok s.blocks; comes = s.file; verdict = (stations, s.stations_are, h) })

-- The promise, where the field file has stations.
pub promise_by_sheet : (limits : FaceLimits) → AreLimits limits
    → (limit : Option ℕ) (gsi stated : Told) (stations : List SurveyedStation)
    (r : Result Accepted Fault) → IsSurvey limits (file_answers gsi) stations → IfErr r IsOfSheet
    → IsChecked stations limit stated r
    → KeepsPromise limits limit gsi stated r
promise_by_sheet limits small limit gsi stated stations r s o c =
    let file = file_answers gsi in
    let verdict = verdict_of limits limit file stated stations r s c in
    record {
      accepted = accepted_so limits small limit gsi stated stations r s c.judged;
      refused = refused_so limits limit file stated stations r s o c.judged c.verdict;
      verdict = verdict;
      no_other = only_verdict limits limit file stated r small verdict;
      file_first = none_first limits file stations r s;
    }

-- The whole verdict, where the field file has a fault.
file_verdict : (limits : FaceLimits) (limit : Option ℕ) (file : FileAnswers) (stated : Told)
    (fault : Fault) → Surveys limits file (Err fault)
    → AnswersVerdict limits limit file stated (Err fault)
file_verdict limits limit file stated Memory h = inl refl
file_verdict limits limit file stated (Gsi fault) h =
    inr (record { came = Err (Gsi fault); comes = h; verdict = refl })
file_verdict limits limit file stated (Book fault) h =
    inr (record { came = Err (Book fault); comes = h; verdict = refl })
file_verdict limits limit file stated SheetRead h =
    inr (record { came = Err SheetRead; comes = h; verdict = refl })
file_verdict limits limit file stated (Sheet fault) h =
    inr (record { came = Err (Sheet fault); comes = h; verdict = refl })
file_verdict limits limit file stated NoStation h =
    inr (record { came = Err NoStation; comes = h; verdict = refl })
file_verdict limits limit file stated (Means fault) h =
    inr (record { came = Err (Means fault); comes = h; verdict = refl })
file_verdict limits limit file stated (Kernel fault) h =
    inr (record { came = Err (Kernel fault); comes = h; verdict = refl })
file_verdict limits limit file stated Write h =
    inr (record { came = Err Write; comes = h; verdict = refl })

-- The promise, where the field file has a fault.
pub promise_by_file : (limits : FaceLimits) → AreLimits limits
    → (limit : Option ℕ) (gsi stated : Told) (fault : Fault) → IsOfFile fault
    → Surveys limits (file_answers gsi) (Err fault)
    → KeepsPromise limits limit gsi stated (Err fault)
promise_by_file limits small limit gsi stated fault o h =
    let file = file_answers gsi in
    let verdict = file_verdict limits limit file stated fault h in
    record {
      accepted = tt;
      refused = told_of_file limits limit file stated fault o h;
      verdict = verdict;
      no_other = only_verdict limits limit file stated (Err fault) small verdict;
      file_first = first limits file fault h;
    }
