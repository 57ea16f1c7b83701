-- A complete station is connected: each set and each target shares an observation with the first of
-- the other kind.
use Rattle.std.proofs.Common.{◌≡◌, ⊎_elim, ℕ, ◌+◌, ◌*◌, ◌<◌, Bool, true, false, List, ap, sym, ◌∙◌}
use Rattle.adjust_kernel.specs.TurnedObservations.{TurnedObservation}
use Rattle.adjust_kernel.specs.Connected.{IsConnected, IsDivided, HasMember}
use Rattle.sheet_means.proofs.GridLaws.{AreGrid, any_observation, inside}

module _ (sets targets : ℕ) (observations : List TurnedObservation)
    (grid : AreGrid sets targets observations)
    (some_sets : 0 < sets) (some_targets : 0 < targets) where
  together : (d : IsDivided sets targets observations) (s t : ℕ) → s < sets → t < targets
      → d.part_of_set s ≡ d.part_of_target t
  together d s t h k =
      let p = grid.at_place s t h k in
      sym (ap d.part_of_set p.0) ∙ d.none_between (s * targets + t) any_observation
      (inside sets targets observations grid s t h k) ∙ ap d.part_of_target p.1

  one_part : (d : IsDivided sets targets observations) (part : Bool)
      → HasMember sets targets d.part_of_set d.part_of_target part → part ≡ d.part_of_target 0
  one_part d part m = ⊎_elim
      (λ n. sym n.2 ∙ together d n.0 0 n.1 some_targets)
      (λ n. sym n.2 ∙ sym (together d 0 n.0 some_sets n.1) ∙ together d 0 0 some_sets some_targets)
      m

  -- Such observations hold all sets and targets together.
  pub complete_is_connected : IsConnected sets targets observations
  complete_is_connected d = let e : true ≡ false = one_part d true d.first_part
      ∙ sym (one_part d false d.second_part) in cc
