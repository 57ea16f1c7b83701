-- Every least-squares choice is an exact adjustment but for turns and a rotation.
use Rattle.std.proofs.Common.{◌≡◌, List, ℤ, length, pos, ap, ◌∙◌}
use Rattle.adjust_kernel.specs.declared.bounds.TheConstants.{LARGEST_RESIDUAL_LIMIT}
use Rattle.adjust_kernel.specs.Residuals.{Choice}
use Rattle.adjust_kernel.specs.Stations.{StationValue, IsStation}
use Rattle.exact_adjustment.proofs.ExactLaws.{same_but_turned}
use Rattle.exact_adjustment.proofs.SideLaws.{get_or-pos}
use Rattle.exact_adjustment.specs.LeastOf.{AreTied, IsLeastOf}
use Rattle.exact_adjustment.specs.Adjustments.{AdjustmentValue, IsAdjustment, choice_by}
use Rattle.exact_adjustment.specs.Exact.{IsExact, KeepsLimit}
use Rattle.directions_apart.proofs.ApartLaws.{AreTurned}

pub are_turned : (station : StationValue) (a : AdjustmentValue) → IsStation station
    → AreTied station → IsExact station a → KeepsLimit station a LARGEST_RESIDUAL_LIMIT
    → (c : Choice) (turns : List ℤ) → IsLeastOf station c turns
    → AreTurned (length station.targets) (choice_by a) c
are_turned station a is_station tied exact limited c turns least =
    let same = same_but_turned station a is_station tied exact limited c turns least in
    record {
      turns = same.turned.of_target;
      rotation = same.rotation;
      directions = same.directions;
    }

-- The first direction of an adjustment is 0.
pub first_is_0 : (a : AdjustmentValue) → IsAdjustment a → (choice_by a).direction 0 ≡ pos 0
first_is_0 a rules = get_or-pos a.directions 0 ∙ ap pos rules.datum
