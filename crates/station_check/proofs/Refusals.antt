-- From what a field file and a sheet come to, to what a refusal says.
use Rattle.std.proofs.Common.{◌≡◌, ℕ, List, [], Option, Some, None, Result, Ok, Err, refl, sym}
use Rattle.std.proofs.Common.{subst, ◌∙◌, ◌⊎◌, inl, inr}
use Rattle.std.specs.Prelude.{IfErr}
use Rattle.byte_ends.specs.Source.{Told}
use Rattle.byte_ends.specs.Input.{Input, input_within, Ended, BrokeOff, RanPast}
use Rattle.gsi_file.specs.FileAnswers.{FileAnswers}
use Rattle.gsi_file.specs.declared.file_fault.FileFault.TheVariants as file
use Rattle.station_book.specs.declared.fault.BookFault.TheVariants as book
use Rattle.adjust_kernel.specs.Sheets.{SheetValue}
use Rattle.adjust_kernel.specs.Verdict.{IsVerdict}
use Rattle.adjust_kernel.specs.declared.accepted.Accepted.{Accepted}
use Rattle.adjust_kernel.specs.declared.kernel_fault.KernelFault.{KernelFault}
use Rattle.adjust_kernel.specs.declared.kernel_fault.KernelFault.TheVariants as kernel
use Rattle.sheet_format.specs.Rows.{IsSheetText}
use Rattle.sheet_format.specs.Faults.{IsSheetFault}
use Rattle.sheet_format.specs.declared.fault.SheetFault.{SheetFault}
use Rattle.sheet_format.specs.declared.reading.TheConstants.{LONGEST_SHEET}
use Rattle.station_book.specs.Limits.{FaceLimits}
use Rattle.station_book.specs.Stations.{SurveyedStation, station_named}
use Rattle.station_check.specs.declared.fault.Fault.{Fault}
use Rattle.station_check.specs.declared.fault.Fault.TheVariants.{Gsi, Book, SheetRead, Sheet}
use Rattle.station_check.specs.declared.fault.Fault.TheVariants.{NoStation, Means, Kernel, Write}
use Rattle.station_check.specs.declared.fault.Fault.TheVariants.{Memory}
use Rattle.station_check.specs.Surveys.{IsSurvey, Surveys}
use Rattle.station_check.specs.Verdicts.{IsStationVerdict, IsSheetVerdict, by_kernel}
use Rattle.station_check.specs.KernelVerdicts.{IsJudgedSheet, IfKernels}
use Rattle.station_check.specs.Answerable.{IsOfFile, IsOfSheet, IsOfCheck}
use Rattle.station_check.specs.Outcomes.{FileComesTo}
use Rattle.station_check.specs.Refused.{IsFaultOfInput, IsFileFirst, IsRefusedByName}
use Rattle.station_check.specs.Refused.{IsRefusedByKernel, TellsOfRefusal}
use Rattle.station_book.proofs.LawLemmas.{its_station}
use Rattle.station_check.proofs.Acceptance.{came_well}
use Rattle.station_check.proofs.FirstFaultLaws.{is_first}
use Rattle.station_check.proofs.Named.{has_name}
use Rattle.station_check.proofs.OneVerdict.{one_outcome}

-- A refusal by the kernel's verdict is the kernel's.
by_kernel_alone : (fault : Fault) (v : Result Accepted KernelFault) → Err fault ≡ by_kernel v
    → (k : KernelFault) × (fault ≡ Kernel k)
by_kernel_alone fault (Ok a) e = cc
by_kernel_alone fault (Err k) e = (k, cc)

-- A refusal by the station is that there is none, or the kernel's.
by_station_alone : (its : Option SurveyedStation) (sheet : SheetValue) (limit : Option ℕ)
    (fault : Fault) → IsStationVerdict its sheet limit (Err fault)
    → ((its ≡ None) × (fault ≡ NoStation)) ⊎ ((k : KernelFault) × (fault ≡ Kernel k))
by_station_alone None sheet limit fault h = inl (refl, cc)
by_station_alone (Some its) sheet limit fault h = inr (by_kernel_alone fault h.0 h.2)

-- The verdict by a sheet is no failed read, and no fault of the sheet's bytes.
no_read : (its : Option SurveyedStation) (sheet : SheetValue) (limit : Option ℕ)
    → ((its ≡ None) × (SheetRead ≡ NoStation)) ⊎ ((k : KernelFault) × (SheetRead ≡ Kernel k)) → ⊥
no_read its sheet limit (inl h) = let e = h.1 in cc
no_read its sheet limit (inr h) = let e = h.1 in cc

no_text : (its : Option SurveyedStation) (sheet : SheetValue) (limit : Option ℕ)
    (fault : SheetFault)
    → ((its ≡ None) × (Sheet fault ≡ NoStation)) ⊎ ((k : KernelFault) × (Sheet fault ≡ Kernel k))
    → ⊥
no_text its sheet limit fault (inl h) = let e = h.1 in cc
no_text its sheet limit fault (inr h) = let e = h.1 in cc

-- Where a read failed, the sheet's reader broke off.
read_says : (stations : List SurveyedStation) (limit : Option ℕ) (input : Input)
    → IsSheetVerdict stations limit input (Err SheetRead)
    → (bytes : List ℕ) × (input ≡ BrokeOff bytes)
read_says stations limit (BrokeOff bytes) h = (bytes, refl)
read_says stations limit RanPast h = cc
read_says stations limit (Ended bytes) (inl h) = let e = h.answer in cc
read_says stations limit (Ended bytes) (inr h) =
    absurd (no_read (station_named h.sheet.name stations) h.sheet limit
    (by_station_alone (station_named h.sheet.name stations) h.sheet limit SheetRead h.verdict))

-- A fault of the sheet's bytes is theirs.
text_says : (stations : List SurveyedStation) (limit : Option ℕ) (input : Input)
    (fault : SheetFault)
    → IsSheetVerdict stations limit input (Err (Sheet fault)) → IsFaultOfInput input fault
text_says stations limit (BrokeOff bytes) fault h = cc
text_says stations limit RanPast fault h = cc
text_says stations limit (Ended bytes) fault (inl h) =
    let e = h.answer in
    let same : h.fault ≡ fault = cc in
    subst (λ (f : SheetFault). IsSheetFault bytes f) same h.stands
text_says stations limit (Ended bytes) fault (inr h) =
    absurd (no_text (station_named h.sheet.name stations) h.sheet limit fault
    (by_station_alone (station_named h.sheet.name stations) h.sheet limit (Sheet fault) h.verdict))

-- No station was found by the name of the sheet of these bytes.
record FindsNone (stations : List SurveyedStation) (input : Input) : Type 0 where
  pub bytes : List ℕ
  pub whole : input ≡ Ended bytes
  pub sheet : SheetValue
  pub states : IsSheetText bytes sheet
  pub none : station_named sheet.name stations ≡ None

none_found : (its : Option SurveyedStation)
    → ((its ≡ None) × (NoStation ≡ NoStation)) ⊎ ((k : KernelFault) × (NoStation ≡ Kernel k))
    → its ≡ None
none_found its (inl h) = h.0
none_found its (inr h) = let e = h.1 in cc

name_says : (stations : List SurveyedStation) (limit : Option ℕ) (input : Input)
    → IsSheetVerdict stations limit input (Err NoStation) → FindsNone stations input
name_says stations limit (BrokeOff bytes) h = cc
name_says stations limit RanPast h = cc
name_says stations limit (Ended bytes) (inl h) = let e = h.answer in cc
name_says stations limit (Ended bytes) (inr h) = record {
  bytes = bytes;
  whole = refl;
  sheet = h.sheet;
  states = h.text;
  none = none_found (station_named h.sheet.name stations)
      (by_station_alone (station_named h.sheet.name stations) h.sheet limit NoStation h.verdict);
}

-- A sheet of a name that no station has is refused so.
unnamed : (limits : FaceLimits) (file : FileAnswers) (told : Told) (stations : List SurveyedStation)
    → IsSurvey limits file stations → FindsNone stations (input_within LONGEST_SHEET told)
    → IsRefusedByName limits file told
unnamed limits file told stations survey found =
    let blocks = survey.blocks in
    let well = came_well limits [] file.lines file.last blocks tt survey.file in
    record {
      stations = stations;
      survey = survey;
      sheet = found.sheet;
      states = record { bytes = found.bytes; whole = found.whole; states = found.states };
      absent = λ other among same.
          let e : Some other ≡ None =
          sym ((its_station limits blocks stations found.sheet.name other well.faultless
          survey.stations_are).1 (among, same)) ∙ found.none in cc;
    }

-- A sheet that was judged badly is refused so.
judged_badly : (limits : FaceLimits) (limit : Option ℕ) (file : FileAnswers) (told : Told)
    (stations : List SurveyedStation) (fault : KernelFault) → IsSurvey limits file stations
    → IsJudgedSheet stations limit told (Err fault) → IsRefusedByKernel limits limit file told fault
judged_badly limits limit file told stations fault survey judged = record {
  stations = stations;
  survey = survey;
  sheet = judged.sheet;
  states = judged.states;
  its = judged.judged.its;
  named = judged.judged.named;
  first = judged.judged.verdict;
  squares = judged.judged.squares;
}

-- What a refusal from the sheet on says.
pub refusal : (limits : FaceLimits) (limit : Option ℕ) (file : FileAnswers) (told : Told)
    (stations : List SurveyedStation) (fault : Fault) → IsSurvey limits file stations
    → IsOfSheet fault
    → IfKernels (IsJudgedSheet stations limit told) (Err fault)
    → IsSheetVerdict stations limit (input_within LONGEST_SHEET told) (Err fault)
    → TellsOfRefusal limits limit file told fault
refusal limits limit file told stations (Gsi fault) s o j h = absurd o
refusal limits limit file told stations (Book fault) s o j h = absurd o
refusal limits limit file told stations SheetRead s o j h =
    record {
      stations = stations;
      survey = s;
      broke_off =
          read_says stations limit (input_within LONGEST_SHEET told) h;
    }
refusal limits limit file told stations (Sheet fault) s o j h =
    record {
      stations = stations;
      survey = s;
      first =
          text_says stations limit (input_within LONGEST_SHEET told) fault h;
    }
refusal limits limit file told stations NoStation s o j h =
    unnamed limits file told stations s
    (name_says stations limit (input_within LONGEST_SHEET told) h)
refusal limits limit file told stations (Means fault) s o j h = absurd o
refusal limits limit file told stations (Kernel fault) s o j h =
    judged_badly limits limit file told stations fault s j
refusal limits limit file told stations Write s o j h = absurd o
refusal limits limit file told stations Memory s o j h = tt

-- The answer by a sheet is its verdict, or that there was no memory.
abbrev pub AnswersSheet : List SurveyedStation → Option ℕ → Told → Result Accepted Fault → Type 0
AnswersSheet stations limit told r =
    (r ≡ Err Memory) ⊎ IsSheetVerdict stations limit (input_within LONGEST_SHEET told) r

by_answer : (limits : FaceLimits) (limit : Option ℕ) (file : FileAnswers) (told : Told)
    (stations : List SurveyedStation) (fault : Fault) → IsSurvey limits file stations
    → IsOfSheet fault
    → IfKernels (IsJudgedSheet stations limit told) (Err fault)
    → (◌≡◌ {A = Result Accepted Fault} (Err fault) (Err Memory))
    ⊎ IsSheetVerdict stations limit (input_within LONGEST_SHEET told) (Err fault)
    → TellsOfRefusal limits limit file told fault
by_answer limits limit file told stations fault s o j (inl e) =
    let same : Memory ≡ fault = cc in
    subst (λ (f : Fault). TellsOfRefusal limits limit file told f) same tt
by_answer limits limit file told stations fault s o j (inr h) =
    refusal limits limit file told stations fault s o j h

-- A refusal of a sheet says so.
pub refused_so : (limits : FaceLimits) (limit : Option ℕ) (file : FileAnswers) (told : Told)
    (stations : List SurveyedStation) (r : Result Accepted Fault) → IsSurvey limits file stations
    → IfErr r IsOfSheet → IfKernels (IsJudgedSheet stations limit told) r
    → AnswersSheet stations limit told r → IfErr r (TellsOfRefusal limits limit file told)
refused_so limits limit file told stations (Ok a) s o j h = tt
refused_so limits limit file told stations (Err fault) s o j h =
    by_answer limits limit file told stations fault s o j h

-- A fault of the field file is told.
pub told_of_file : (limits : FaceLimits) (limit : Option ℕ) (file : FileAnswers) (told : Told)
    (fault : Fault) → IsOfFile fault → Surveys limits file (Err fault)
    → TellsOfRefusal limits limit file told fault
told_of_file limits limit file told (Gsi fault) o h = is_first limits file (Gsi fault) h
told_of_file limits limit file told (Book fault) o h = is_first limits file (Book fault) h
told_of_file limits limit file told SheetRead o h = absurd o
told_of_file limits limit file told (Sheet fault) o h = absurd o
told_of_file limits limit file told NoStation o h = absurd o
told_of_file limits limit file told (Means fault) o h = absurd o
told_of_file limits limit file told (Kernel fault) o h = absurd o
told_of_file limits limit file told Write o h = absurd o
told_of_file limits limit file told Memory o h = tt

-- A file that ended without a fault comes to none.
pub none_first : (limits : FaceLimits) (file : FileAnswers) (stations : List SurveyedStation)
    (r : Result Accepted Fault) → IsSurvey limits file stations → IsFileFirst limits file r
none_first limits file stations r s =
    λ fault h. let e : Ok s.blocks
    ≡ Err fault = one_outcome limits file (Ok s.blocks) (Err fault) s.file h in cc

-- The fault that is answered is the one that the file comes to.
its_first : (limits : FaceLimits) (file : FileAnswers) (fault : Fault)
    → FileComesTo limits file (Err fault) → IsFileFirst limits file (Err fault)
its_first limits file fault k =
    λ other h. let e : Err fault
    ≡ Err other = one_outcome limits file (Err fault) (Err other) k h in inr cc

-- A survey answers the fault that the file comes to, or out of memory.
pub first : (limits : FaceLimits) (file : FileAnswers) (fault : Fault)
    → Surveys limits file (Err fault) → IsFileFirst limits file (Err fault)
first limits file (Gsi fault) h = its_first limits file (Gsi fault) h
first limits file (Book fault) h = its_first limits file (Book fault) h
first limits file SheetRead h = its_first limits file SheetRead h
first limits file (Sheet fault) h = its_first limits file (Sheet fault) h
first limits file NoStation h = its_first limits file NoStation h
first limits file (Means fault) h = its_first limits file (Means fault) h
first limits file (Kernel fault) h = its_first limits file (Kernel fault) h
first limits file Write h = its_first limits file Write h
first limits file Memory h = λ other k. inl refl

-- The kernel's fault by the station of the sheet's name is never that the sheet is of another.
pub of_its_station : (stations : List SurveyedStation) (its : SurveyedStation) (sheet : SheetValue)
    (limit : Option ℕ) (fault : KernelFault) → station_named sheet.name stations ≡ Some its
    → IsVerdict its.station sheet limit (Err fault) → IsOfSheet (Kernel fault)
of_its_station stations its sheet limit kernel.Name e v =
    absurd (v.0 (sym (has_name sheet.name stations its e)))
of_its_station stations its sheet limit (kernel.TargetRow n) e v = tt
of_its_station stations its sheet limit (kernel.SetRow n) e v = tt
of_its_station stations its sheet limit (kernel.ObsRow n) e v = tt
of_its_station stations its sheet limit kernel.Datum e v = tt
of_its_station stations its sheet limit (kernel.TargetSum n) e v = tt
of_its_station stations its sheet limit (kernel.SetSum n) e v = tt
of_its_station stations its sheet limit kernel.NotConnected e v = tt
of_its_station stations its sheet limit (kernel.Residual n) e v = tt

-- What comes from the sheet on may be answered by a check.
pub of_check : (r : Result Accepted Fault) → IfErr r IsOfSheet → IfErr r IsOfCheck
of_check (Ok a) o = tt
of_check (Err (Gsi fault)) o = absurd o
of_check (Err (Book fault)) o = absurd o
of_check (Err SheetRead) o = o
of_check (Err (Sheet fault)) o = o
of_check (Err NoStation) o = o
of_check (Err (Means fault)) o = o
of_check (Err (Kernel fault)) o = o
of_check (Err Write) o = o
of_check (Err Memory) o = o

-- A fault of the field file may be answered by a check.
pub file_of_check : (fault : Fault) → IsOfFile fault → IsOfCheck fault
file_of_check (Gsi (file.At number what)) o = tt
file_of_check (Gsi file.Memory) o = absurd o
file_of_check (Book (book.At number what)) o = tt
file_of_check (Book book.Memory) o = absurd o
file_of_check SheetRead o = absurd o
file_of_check (Sheet fault) o = absurd o
file_of_check NoStation o = absurd o
file_of_check (Means fault) o = absurd o
file_of_check (Kernel fault) o = absurd o
file_of_check Write o = absurd o
file_of_check Memory o = tt
