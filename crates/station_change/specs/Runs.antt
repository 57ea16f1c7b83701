-- What the answer of a run says, and what `out` got.
use Rattle.std.specs.Prelude.{ℕ, List, Result}
use Rattle.byte_ends.specs.Sink.{WriterChange}
use Rattle.byte_ends.specs.Source.{ReaderChange}
use Rattle.changed_lines.specs.declared.change.Change.{Change}
use Rattle.station_check.specs.RunEndings.{PrintsAnswer}
use Rattle.station_change.specs.Answers.{IsChangeAnswer}
use Rattle.station_change.specs.declared.fault.PrintFault.{PrintFault}
use Rattle.station_change.specs.declared.fault.PrintFault.TheVariants.{Write}

-- A run that changes lines: all that is promised of the copy, and how it was printed; at a refusal
-- nothing is asked of `out`.
pub record IsChangeRun (cs : List Change) (gsi : ReaderChange)
    (r : Result (List ℕ) PrintFault) (out : WriterChange) : Type 0 where
  pub answer : Result (List ℕ) PrintFault
  pub answers : IsChangeAnswer cs gsi answer
  pub printed : PrintsAnswer (λ copy. copy) Write answer r out
