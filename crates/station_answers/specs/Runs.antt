-- What the answer of a run says, and what `out` got.
use Rattle.std.specs.Prelude.{ℕ, List, Result}
use Rattle.byte_ends.specs.Sink.{WriterChange}
use Rattle.byte_ends.specs.Source.{ReaderChange}
use Rattle.station_answers.specs.Answers.{TellsOf}
use Rattle.station_book.specs.Stations.{SurveyedStation}
use Rattle.station_book.specs.declared.result_limits.ResultLimits.{ResultLimits}
use Rattle.station_check.specs.RunEndings.{PrintsAnswer}
use Rattle.station_compare.specs.Hints.{IsHinted}
use Rattle.station_compare.specs.Refusals.{by_fault, unhinted}
use Rattle.station_compare.specs.Runs.{ReadsFieldFile}
use Rattle.station_compare.specs.declared.fault.CompareFault.TheVariants.{Write}
use Rattle.station_compare.specs.declared.refusal.Refusal.{Refusal}

-- A run: all that it promises of its answer, with the hint of a refusal, and how the text was
-- written.
pub record IsAnswerRun {A : Type 0} (Says : SurveyedStation → List ℕ → Type 0)
    (limits : ResultLimits) (gsi : ReaderChange) (name : List ℕ) (r : Result A Refusal)
    (out : WriterChange) : Type 0 where
  pub answer : Result (List ℕ) Refusal
  pub tells : ReadsFieldFile gsi (by_fault answer) (λ file.
      TellsOf Says limits file name (by_fault answer) × IsHinted limits file name answer)
  pub printed : PrintsAnswer (λ text. text) (unhinted Write) answer r out
