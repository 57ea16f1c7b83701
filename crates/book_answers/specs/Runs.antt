-- What the answer of a run says, and what `out` got.
use Rattle.std.specs.Prelude.{ℕ, List, Result}
use Rattle.book_answers.specs.Answers.{TellsOfAll}
use Rattle.book_answers.specs.Refusals.{fault_of, of_no_one}
use Rattle.book_answers.specs.declared.arrangement.Arrangement.{Arrangement}
use Rattle.book_answers.specs.declared.refusal.StationRefusal.{StationRefusal}
use Rattle.byte_ends.specs.Sink.{WriterChange}
use Rattle.byte_ends.specs.Source.{ReaderChange}
use Rattle.station_book.specs.Stations.{SurveyedStation}
use Rattle.station_book.specs.declared.result_limits.ResultLimits.{ResultLimits}
use Rattle.station_check.specs.RunEndings.{PrintsAnswer}
use Rattle.station_compare.specs.Runs.{ReadsFieldFile}
use Rattle.station_compare.specs.declared.fault.CompareFault.TheVariants.{Write}

-- A run: all that it promises of its answer, and how the text was written.
pub record IsRunOfAll {A : Type 0} (Says : SurveyedStation → List ℕ → Type 0)
    (limits : ResultLimits) (arrangement : Arrangement) (gsi : ReaderChange)
    (r : Result A StationRefusal) (out : WriterChange) : Type 0 where
  pub answer : Result (List ℕ) StationRefusal
  pub tells : ReadsFieldFile gsi (fault_of answer)
      (λ file. TellsOfAll Says limits arrangement file answer)
  pub printed : PrintsAnswer (λ text. text) (of_no_one Write) answer r out
