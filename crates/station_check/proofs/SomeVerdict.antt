-- Each input has a verdict.
use Rattle.std.proofs.Common.{◌≡◌, ℕ, ◌≤◌, List, [], length, Option, Some, None, Result, Ok, Err}
use Rattle.std.proofs.Common.{refl, ◌⊎◌, inl, inr}
use Rattle.byte_ends.specs.Source.{Told}
use Rattle.byte_ends.specs.Input.{Input, input_within, Ended, BrokeOff, RanPast}
use Rattle.gsi_file.specs.FileAnswers.{FileAnswers}
use Rattle.adjust_kernel.specs.Sheets.{SheetValue}
use Rattle.adjust_kernel.specs.declared.accepted.Accepted.{Accepted}
use Rattle.sheet_format.specs.Rows.{IsSheetText}
use Rattle.sheet_format.specs.Faults.{IsSheetFault}
use Rattle.sheet_format.specs.declared.fault.SheetFault.{SheetFault}
use Rattle.sheet_format.specs.declared.fault.SheetFault.TheVariants as sheet
use Rattle.sheet_format.specs.declared.reading.TheConstants.{LONGEST_SHEET}
use Rattle.sheet_format.proofs.LawLemmas as sheets_of
use Rattle.adjust_kernel.proofs.LawLemmas as kernel
use Rattle.station_book.proofs.LawLemmas as book
use Rattle.station_book.specs.Limits.{FaceLimits, AreLimits}
use Rattle.station_book.specs.Places.{History}
use Rattle.station_book.specs.Stations.{SurveyedStation, station_named}
use Rattle.station_check.specs.declared.fault.Fault.{Fault}
use Rattle.station_check.specs.declared.fault.Fault.TheVariants.{SheetRead, Sheet, NoStation}
use Rattle.station_check.specs.Outcomes.{FileComesTo}
use Rattle.station_check.specs.Verdicts.{IsStationVerdict, IsSheetVerdict, IsFileVerdict}
use Rattle.station_check.specs.Verdicts.{IsWholeVerdict, by_kernel}
use Rattle.station_check.proofs.Acceptance.{came_well}
use Rattle.station_check.proofs.OneVerdict.{some_end}

-- Bytes are a sheet, or have a fault as one.
abbrev IsSheetOrFault : List ℕ → Type 0
IsSheetOrFault bytes =
    ((sheet : SheetValue) × IsSheetText bytes sheet)
    ⊎ ((fault : SheetFault) × IsSheetFault bytes fault)

-- Each station that is found by a name has an observation.
abbrev AreObserved : List SurveyedStation → Type 0
AreObserved stations =
    (name : List ℕ) (s : SurveyedStation) → station_named name stations ≡ Some s
    → 1 ≤ length s.station.obs

by_station : (its : Option SurveyedStation) (sheet : SheetValue) (limit : Option ℕ)
    → ((s : SurveyedStation) → its ≡ Some s → 1 ≤ length s.station.obs)
    → (r : Result Accepted Fault) × IsStationVerdict its sheet limit r
by_station None sheet limit observed = (Err NoStation, refl)
by_station (Some s) sheet limit observed =
    let verdict = kernel.some_verdict s.station sheet limit (observed s refl) in
    (by_kernel verdict.0, (verdict.0, verdict.1, refl))

by_bytes : (stations : List SurveyedStation) (limit : Option ℕ) (bytes : List ℕ)
    → AreObserved stations → IsSheetOrFault bytes
    → (r : Result Accepted Fault) × IsSheetVerdict stations limit (Ended bytes) r
by_bytes stations limit bytes observed (inl stated) =
    let verdict =
    by_station (station_named stated.0.name stations) stated.0 limit (observed stated.0.name) in
    (verdict.0, inr (record { sheet = stated.0; text = stated.1; verdict = verdict.1 }))
by_bytes stations limit bytes observed (inr refused) =
    (Err (Sheet refused.0), inl (record { fault = refused.0; stands = refused.1; answer = refl }))

by_sheet : (stations : List SurveyedStation) (limit : Option ℕ) (input : Input)
    → AreObserved stations → (r : Result Accepted Fault) × IsSheetVerdict stations limit input r
by_sheet stations limit (BrokeOff bytes) observed = (Err SheetRead, refl)
by_sheet stations limit RanPast observed = (Err (Sheet sheet.TooLong), refl)
by_sheet stations limit (Ended bytes) observed =
    by_bytes stations limit bytes observed (sheets_of.some_answer bytes)

by_file : (limits : FaceLimits) → AreLimits limits
    → (limit : Option ℕ) (file : FileAnswers) (told : Told) (came : Result History Fault)
    → FileComesTo limits file came
    → (r : Result Accepted Fault) × IsFileVerdict limits limit came told r
by_file limits small limit file told (Err fault) h = (Err fault, refl)
by_file limits small limit file told (Ok blocks) h =
    let well = came_well limits [] file.lines file.last blocks tt h in
    let survey = book.some_survey limits blocks small well.faultless in
    let verdict = by_sheet survey.0 limit (input_within LONGEST_SHEET told) (λ name s e.
    book.some_observation limits blocks survey.0 s
    (record { blocks = well.faultless; ending = well.closed }) survey.1
    ((book.its_station limits blocks survey.0 name s well.faultless survey.1).0 e).0) in
    (verdict.0, (survey.0, survey.1, verdict.1))

-- What came of two readers has a verdict.
pub some_verdict : (limits : FaceLimits) (limit : Option ℕ) (file : FileAnswers) (told : Told)
    → AreLimits limits → (r : Result Accepted Fault) × IsWholeVerdict limits limit file told r
some_verdict limits limit file told small =
    let came = some_end limits [] file.lines file.last in
    let verdict = by_file limits small limit file told came.0 came.1 in
    (verdict.0, record { came = came.0; comes = came.1; verdict = verdict.1 })
