use Rattle.std.proofs.Common.{◌<◌, ◌*◌, ◌∙◌, ℕ, ℤ, pos, sym, subst, arith, length, FitsSigned}
use mir.Syntax.{w128}
use Rattle.std.specs.Prelude.{◌↔◌, IsTrue}
use Rattle.std.specs.Int.RustNames.{unsigned_abs}
use Rattle.std.proofs.lemmas.Int.{ints, to_z-of_z}
use Rattle.std.proofs.lemmas.List.{get_or-map}
use Rattle.adjust_kernel.specs.TurnedObservations.{TurnedObservation}
use Rattle.adjust_kernel.specs.Residuals.{residual}
use Rattle.adjust_kernel.specs.Pairs.{choice_stated_by, turned_by_rows}
use Rattle.adjust_kernel.proofs.ObservationLaws.{length-turned_by_rows}
use Rattle.adjust_kernel.proofs.residual_limit.is_row_above.Goals as goal

pub returns : goal.returns
returns c =
    let none : TurnedObservation = record { set = 0; target = 0; value = 0; turn = pos 0 } in
    let observations = turned_by_rows c.args.obs.now c.args.sheet.now.rows in
    let inside : c.args.row < length observations = let k =
    length-turned_by_rows c.args.obs.now c.args.sheet.now.rows c.requires.paired.same_length in
    omega (arith, c.requires.row) in
    let fits : FitsSigned w128 c.row_residual.result = omega (arith, ints) in
    let is_residual = to_z-of_z w128 c.row_residual.result fits
    ∙ c.row_residual.ensures.value none
    ∙ sym (get_or-map (residual (choice_stated_by c.args.sheet.now)) observations c.args.row none
    (pos 0) inside) in
    subst (λ (p : ℕ × ℤ). IsTrue c.is_above.result ↔ (c.args.limit * p.0 < unsigned_abs p.1))
    (λ i. (c.denominator.ensures.value i, is_residual i)) c.is_above.ensures
