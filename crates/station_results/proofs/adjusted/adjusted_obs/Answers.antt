use Rattle.std.proofs.Common.{◌≡◌, ◌∙◌, pos, arith, ap, refl, sym, subst, FitsSigned, w8, w32, to_z}
use Rattle.std.proofs.Common.{of_z}
use Rattle.std.proofs.Math.IntN.{◌-ℤ◌}
use Rattle.std.proofs.lemmas.Int.{ints, to_z-of_z}
use Rattle.adjust_kernel.specs.Pairs.{turned_by}
use Rattle.exact_adjustment.specs.Adjustments.{choice_by}
use Rattle.station_results.specs.Residuals.{IsRoundedResidual}
use Rattle.station_results.proofs.ResidualLaws.{way_of}
use Rattle.station_results.proofs.adjusted.adjusted_obs.Goals as goal

pub returns-clause-row : goal.returns-clause-row
returns-clause-row c =
    let n = c.lifted_residual-residual.result in
    let bound = c.lifted_residual-residual.ensures.bound in
    let low = c.requires.turn.low in
    let high = c.requires.turn.high in
    let turn_fits : FitsSigned w8 c.args.turn = omega (arith, ints, low, high) in
    let rounded = rw (to_z-of_z w8 c.args.turn turn_fits)
    at c.lifted_residual-residual.ensures.rounded in
    let cast : to_z w32 n ≡ pos n = search (arith, bound) in
    let fits : FitsSigned w32 (to_z w32 n -ℤ pos 10_000) = omega (arith, ints, cast, bound) in
    let units : to_z w32 (of_z w32 (to_z w32 n -ℤ pos 10_000)) ≡ pos n -ℤ pos 10_000 =
    to_z-of_z w32 (to_z w32 n -ℤ pos 10_000) fits ∙ ap (λ z. z -ℤ pos 10_000) cast in
    record {
      value = refl;
      residual = subst (λ z. IsRoundedResidual (choice_by c.args.adjustment.now)
          (turned_by c.args.obs c.args.turn) z) (sym units) rounded;
      adds_up = way_of c.args.obs.value (pos n -ℤ pos 10_000)
          (to_z w32 (of_z w32 (to_z w32 n -ℤ pos 10_000))) c.adjusted_direction.result (sym units)
          c.adjusted_direction.ensures;
    }
