-- The comparison of a table with its station, as an answer, and what its own calls promise.
use Rattle.std.specs.Prelude.{◌≡◌, ◌≤◌, ◌<◌, ℕ, List, length, Option, Result, Ok, Err}
use Rattle.adjust_kernel.specs.Stations.{StationValue}
use Rattle.byte_ends.specs.Sink.{WriterChange}
use Rattle.byte_ends.specs.Source.{ReaderChange}
use Rattle.direction_table.specs.declared.form.TableForm.{TableForm}
use Rattle.station_book.specs.Stations.{SurveyedStation}
use Rattle.station_book.specs.declared.result_limits.ResultLimits.{ResultLimits}
use Rattle.station_check.specs.RunEndings.{PrintsAnswer}
use Rattle.station_compare.specs.AgreementTexts.{agreement_line}
use Rattle.station_compare.specs.Answers.{Compares}
use Rattle.station_compare.specs.Comparing.{ByTable}
use Rattle.station_compare.specs.Refusals.{by_fault}
use Rattle.station_compare.specs.declared.agreement.Agreement.{Agreement}
use Rattle.station_compare.specs.declared.fault.CompareFault.{CompareFault}
use Rattle.station_compare.specs.declared.fault.CompareFault.TheVariants as fault
use Rattle.station_compare.specs.declared.how_far.HowFar.{HowFar}
use Rattle.station_compare.specs.declared.refusal.Refusal.{Refusal}
use Rattle.station_results.specs.Greatest.{IsGreatestSize}
use Rattle.table_answers.specs.Answers.{ReadsBoth}
use Rattle.table_answers.specs.Refusing.{RefusesComparison}
use Rattle.table_answers.specs.Runs.{IsTableRun}
use Rattle.table_answers.specs.declared.compared.Compared.{Compared}
use Rattle.table_answers.specs.declared.noted.Noted.{Noted}
use Rattle.table_answers.specs.declared.compared.Compared.TheVariants as compared

-- the verdict on a table that was compared
abbrev pub verdict : Compared → Result Agreement CompareFault
verdict (compared.Agrees agreement) = Ok agreement
verdict (compared.Apart how_far) = Err (fault.Apart how_far)

-- the verdict of an answer
abbrev pub verdict_of : Result (Noted Compared) Refusal → Result Agreement CompareFault
verdict_of (Ok noted) = verdict noted.answer
verdict_of (Err refusal) = Err refusal.fault

-- It agrees, or it is apart, by how far it is apart from a station.
abbrev pub IsComparedBy : StationValue → HowFar → Compared → Type 0
IsComparedBy station how_far (compared.Agrees a) =
    (a.how_far ≡ how_far) × (how_far.apart ≤ how_far.limit) × IsGreatestSize station a.greatest
    × (a.name ≡ station.name) × (a.sets ≡ length station.sets)
    × (a.targets ≡ length station.targets)
IsComparedBy station how_far (compared.Apart h) = (h ≡ how_far) × (how_far.limit < how_far.apart)

-- The verdict is what the comparison answers of the bytes, with this limit, if one is stated.
abbrev pub SaysComparison : TableForm → Option ℕ → ResultLimits → SurveyedStation → List ℕ
    → Compared → Type 0
SaysComparison form within limits = λ its bytes table.
    ByTable form its.station limits.residual within bytes (verdict table)

-- The line of an agreement is printed; where the table is apart nothing, and that is answered.
abbrev pub PrintsComparison : {A : Type 0} → Compared → Result A CompareFault → WriterChange → Type 0
PrintsComparison table r out = PrintsAnswer agreement_line fault.Write (verdict table) r out

-- The answer on what two readers gave, whatever they are, and how both are left.
abbrev pub IsComparison : TableForm → ResultLimits → Option ℕ → ReaderChange → ReaderChange → List ℕ
    → Result Agreement CompareFault → Type 0
IsComparison form limits within gsi table name r =
    ReadsBoth gsi table r (λ file stated. Compares form limits file stated name within r)

-- The verdict of an answer and its note.
abbrev pub noted_verdict : Result (Compared × List ℕ) CompareFault → Result Agreement CompareFault
noted_verdict (Ok noted) = verdict noted.0
noted_verdict (Err why) = Err why

-- A run of the comparison: what a run of an answer is, and of its verdict all that is promised.
pub record IsCompareRun {A : Type 0} (form : TableForm) (limits : ResultLimits) (within : Option ℕ)
    (gsi table : ReaderChange) (name : List ℕ) (r : Result A Refusal) (note : List ℕ)
    (out : WriterChange) : Type 0 where
  pub run : IsTableRun (SaysComparison form within limits) (RefusesComparison form limits)
      PrintsComparison form limits gsi table name r note out
  pub compares : IsComparison form limits within gsi table name (noted_verdict (by_fault run.answer))
