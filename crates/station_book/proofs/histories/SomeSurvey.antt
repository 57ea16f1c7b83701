-- A file without fault has its stations: those that a book keeps that takes its blocks one by one.
use Rattle.std.proofs.Common.{List, [], ◌∷◌, refl, ◌∙◌}
use Rattle.std.specs.Prelude.{Ok, ℕ}
use Rattle.station_book.specs.declared.stage.Stage.TheVariants.{Outside}
use Rattle.station_book.specs.Limits.{FaceLimits, AreLimits}
use Rattle.station_book.specs.Places.{History}
use Rattle.station_book.specs.Faults.{IsWithoutFault}
use Rattle.station_book.specs.Stations.{SurveyedStation, AreStations}
use Rattle.station_book.specs.StationStates.{none_so_far, surveys_of}
use Rattle.station_book.specs.State.{State, after}
use Rattle.station_book.specs.StandsFor.{StandsFor}
use Rattle.station_book.proofs.histories.TakenBlocks.{at_own}
use Rattle.station_book.proofs.histories.FileEnd.{same_stations}
use Rattle.station_book.proofs.faults.BlockFaults.{same_fault, take_taken}
use Rattle.station_book.proofs.histories.Answers.{are_stations, empty_state}

-- what a book keeps that has taken these blocks
abbrev kept_of : FaceLimits → History → State
kept_of limits [] = record { limits = limits; taken = 0; stage = Outside; stations = none_so_far }
kept_of limits (b ∷ past) = after b (kept_of limits past)

state_of : (limits : FaceLimits) (h : History) → IsWithoutFault limits h
    → StandsFor limits (kept_of limits h) h
state_of limits [] w = empty_state limits
state_of limits (b ∷ past) w =
    let k = kept_of limits past in
    let s : StandsFor limits k past = state_of limits past w.1 in
    take_taken {X = ℕ} {E = ℕ} k (after b k) b (Ok 0)
    (same_fault limits k b past s ∙ w.0) refl limits past s

-- Blocks without a fault have their stations: those of the book that took them.
pub some_survey : (limits : FaceLimits) (h : History) → AreLimits limits → IsWithoutFault limits h
    → (stations : List SurveyedStation) × AreStations limits h stations
some_survey limits h valid w =
    let k = kept_of limits h in (
      surveys_of k.stations,
      are_stations limits h (surveys_of k.stations) w
          (same_stations k h (at_own limits k h (state_of limits h w))),
    )
