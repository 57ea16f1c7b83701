-- Every least choice has the residuals of an exact adjustment, but for the denominators: so it keeps
-- the limits that the adjustment keeps, and no others.
use Rattle.std.proofs.Common.{◌≡◌, ℕ, ◌*◌, ◌<◌, List, length, get_or, ℤ, pos, ◌+ℤ◌, arith, ap, sym}
use Rattle.std.proofs.Common.{◌∙◌}
use Rattle.std.proofs.Math.IntN.{◌*ℤ◌, ◌-ℤ◌}
use Rattle.std.proofs.lemmas.List.{get_or-map}
use Rattle.adjust_kernel.specs.declared.bounds.TheConstants.{LARGEST_RESIDUAL_LIMIT}
use Rattle.adjust_kernel.specs.Residuals.{Choice, residual}
use Rattle.adjust_kernel.specs.Stations.{StationValue, IsStation}
use Rattle.adjust_kernel.specs.TurnedObservations.{TurnedObservation}
use Rattle.adjust_kernel.specs.Turns.{IsLimited}
use Rattle.adjust_kernel.specs.Within.{IsWithin}
use Rattle.exact_adjustment.specs.Adjustments.{AdjustmentValue, choice_by}
use Rattle.exact_adjustment.specs.Exact.{IsExact, IsSameButTurned, KeepsLimit, observed_by}
use Rattle.exact_adjustment.specs.LeastOf.{AreTied, HasResidualsWithin, IsLeastOf, observed_with}
use Rattle.exact_adjustment.proofs.ExactLaws.{count, is_least, same_but_turned}
use Rattle.exact_adjustment.proofs.FarLaws.{same_limit}
use Rattle.exact_adjustment.proofs.NearTurns.{TurnedBy}
use Rattle.exact_adjustment.proofs.ObservedLaws.{nothing_seen, of_all, of_each, seen_at, turned_at}
use Rattle.exact_adjustment.proofs.SameLaws.{rotated_residual}

module _ (station : StationValue) (a : AdjustmentValue) (is_station : IsStation station)
    (tied : AreTied station) (exact : IsExact station a)
    (limited : KeepsLimit station a LARGEST_RESIDUAL_LIMIT) where
  module _ (c : Choice) (turns : List ℤ) (least : IsLeastOf station c turns) where
    same : IsSameButTurned station a c turns
    same = same_but_turned station a is_station tied exact limited c turns least

    abbrev with_whole : TurnedObservation → ℤ
    with_whole r = r.turn +ℤ same.turned.of_target r.target -ℤ same.turned.of_set r.set

    turned : TurnedBy station a.turns turns
    turned = record {
      of_target = same.turned.of_target;
      of_set = same.turned.of_set;
      each = λ n h.
          ap (λ (ks : List ℤ). get_or ks n (pos 0)) same.turned.turns_are
          ∙ get_or-map with_whole (observed_by station a) n nothing_seen (pos 0)
          (omega (arith, h, count station a is_station tied exact))
          ∙ ap with_whole (seen_at station a.turns exact.each n nothing_seen h);
    }

    -- But for the denominators.
    least_residual : (n : ℕ) → n < length station.obs
        → pos c.denominator *ℤ residual (choice_by a) (turned_at station a.turns n)
        ≡ pos a.denominator *ℤ residual c (turned_at station turns n)
    unfolding turned
    least_residual = rotated_residual station a is_station c turns turned same.rotation
        (record { directions = same.directions; orientations = same.orientations })

    kept_by_least : (limit : ℕ) → KeepsLimit station a limit
        → IsLimited limit c (observed_with station turns)
    kept_by_least limit kept = of_all station turns least.each
        (λ r. IsWithin (pos (limit * c.denominator)) (residual c r))
        (λ n h. same_limit c.denominator a.denominator limit _ _ exact.rules.positive
        (sym (least_residual n h))
        (of_each station a.turns exact.each
        (λ r. IsWithin (pos (limit * a.denominator)) (residual (choice_by a) r)) kept n h))

  -- What the adjustment keeps is kept by every least choice.
  pub held : (limit : ℕ) → KeepsLimit station a limit → HasResidualsWithin station limit
  held limit kept = λ c turns least. kept_by_least c turns least limit kept

  -- And the other way: it is one of them.
  pub kept : (limit : ℕ) → HasResidualsWithin station limit → KeepsLimit station a limit
  kept limit h = h (choice_by a) a.turns (is_least station a is_station tied exact limited)
