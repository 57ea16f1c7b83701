-- Parts of an adjustment beside a list of observations.
use Rattle.std.specs.Prelude.{List, map, ℤ, pos}
use Rattle.adjust_kernel.specs.Pairs.{turned_by}
use Rattle.adjust_kernel.specs.TurnedObservations.{TurnedObservation}
use Rattle.adjust_kernel.specs.Turns.{with_turns}
use Rattle.adjust_kernel.specs.declared.obs.Obs.{Obs}

-- Observations with these full turns.
abbrev pub turned : List Obs → List ℤ → List TurnedObservation
turned obs turns = with_turns (map (λ o. turned_by o (pos 0)) obs) turns
