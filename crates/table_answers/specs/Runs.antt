-- What the answer of a run says, and what `out` got.
use Rattle.std.specs.Prelude.{◌≡◌, ℕ, List, [], Result, Ok, Err, IfErr}
use Rattle.byte_ends.specs.Sink.{WriterChange}
use Rattle.byte_ends.specs.Source.{ReaderChange}
use Rattle.direction_table.specs.declared.form.TableForm.{TableForm}
use Rattle.station_book.specs.Stations.{SurveyedStation}
use Rattle.station_book.specs.declared.result_limits.ResultLimits.{ResultLimits}
use Rattle.station_compare.specs.Hints.{IsHinted}
use Rattle.station_compare.specs.Refusals.{by_fault}
use Rattle.station_compare.specs.declared.fault.CompareFault.{CompareFault}
use Rattle.station_compare.specs.declared.refusal.Refusal.{Refusal}
use Rattle.table_answers.specs.Answers.{ReadsBoth, TellsBeside}
use Rattle.table_answers.specs.Noting.{Noting}
use Rattle.table_answers.specs.Telling.{note_of}

-- What was printed, and then answered: the same fault, and no hint.
abbrev pub IsOfPrinting : {A : Type 0} → Result A CompareFault → Result A Refusal → Type 0
IsOfPrinting printed r = (by_fault r ≡ printed) × IfErr r (λ refusal. refusal.hint ≡ [])

-- What is made of `out`: what the answer makes of it, and a refusal that comes of that has no hint;
-- at a refusal before nothing is asked of it, and the refusal is answered.
abbrev pub PrintsBeside : {V A : Type 0} → (V → Result A CompareFault → WriterChange → Type 0)
    → Result V Refusal → Result A Refusal → WriterChange → Type 0
PrintsBeside Prints (Ok value) r out =
    Prints value (by_fault r) out × IfErr r (λ refusal. refusal.hint ≡ [])
PrintsBeside Prints (Err refusal) r out = (r ≡ Err refusal) × out.is_unasked

-- A run: all that it promises of its answer, with the hint of a refusal, how it was printed, and the
-- note of the table.
pub record IsTableRun {V A : Type 0} (Says : SurveyedStation → List ℕ → V → Type 0)
    (Refuses : SurveyedStation → List ℕ → CompareFault → Type 0)
    (Prints : V → Result A CompareFault → WriterChange → Type 0) (form : TableForm)
    (limits : ResultLimits) (gsi table : ReaderChange) (name : List ℕ) (r : Result A Refusal)
    (note : List ℕ) (out : WriterChange) : Type 0 where
  pub answer : Result (V × List ℕ) Refusal
  pub tells : ReadsBoth gsi table (by_fault answer) (λ file stated.
      TellsBeside (Noting Says form) Refuses limits file stated name (by_fault answer)
      × IsHinted limits file name answer)
  pub printed : PrintsBeside (λ noted. Prints noted.0) answer r out
  pub noted : note ≡ note_of answer
