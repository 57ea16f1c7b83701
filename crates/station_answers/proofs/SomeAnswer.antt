-- Each input has an answer that is not that memory ran out, where it does not rest on an
-- adjustment.
use Rattle.std.proofs.Common.{◌⊎◌, inl, inr, ℕ, List, [], Result, Err}
use Rattle.exact_adjustment.specs.declared.fault.AdjustFault.TheVariants as adjust
use Rattle.gsi_file.specs.FileAnswers.{FileAnswers}
use Rattle.station_answers.specs.Answers.{IsHeldTogether, TellsOf}
use Rattle.station_book.specs.Limits.{AreLimits}
use Rattle.station_book.specs.Stations.{SurveyedStation}
use Rattle.station_book.specs.declared.result_limits.ResultLimits.{ResultLimits}
use Rattle.station_check.specs.Outcomes.{FileComesTo}
use Rattle.station_check.specs.StationOfFile.{IsStationOfFile}
use Rattle.station_check.specs.declared.fault.Fault.{Fault}
use Rattle.station_check.specs.declared.fault.Fault.TheVariants.{NoStation}
use Rattle.station_compare.proofs.SomeAnswer.{never_no_station, of_file, tied_or_not}
use Rattle.station_compare.specs.OneAnswer.{IsNoMemory}
use Rattle.station_compare.specs.declared.fault.CompareFault.{CompareFault}
use Rattle.station_compare.specs.declared.fault.CompareFault.TheVariants.{File, Adjust}

module _ (Says : SurveyedStation → List ℕ → Type 0) (limits : ResultLimits)
    (small : AreLimits limits.faces) (lines : FileAnswers) (name : List ℕ) where
  abbrev AnAnswer : Type 0
  AnAnswer =
      ((r : Result (List ℕ) CompareFault) × TellsOf Says limits lines name r × IsNoMemory r)
      ⊎ IsHeldTogether limits lines name

  by_fault : (fault : Fault) → FileComesTo limits.faces lines (Err fault) → AnAnswer
  by_fault NoStation h = absurd (never_no_station limits.faces [] lines.lines lines.last h)
  by_fault fault h = inl (Err (File fault), h, tt)

  by_station : (its : SurveyedStation) → IsStationOfFile limits.faces lines name its → AnAnswer
  by_station its of = elim (tied_or_not its.station) [
    | inl tied ↦ inr (record { its = its; station = of; tied = tied })
    | inr loose ↦ inl (
      Err (Adjust adjust.NotConnected),
      record { its = its; station = of; none = loose },
      tt,
    )
  ]

  pub some_answer : AnAnswer
  some_answer = of_file limits.faces small lines name AnAnswer by_fault
      (λ h. inl (Err (File NoStation), h, tt)) by_station
