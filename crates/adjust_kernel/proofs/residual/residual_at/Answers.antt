use Rattle.std.proofs.Common.{pos, ◌+ℤ◌, arith, ◌∙◌, ◌≡◌, ap, FitsSigned}
use mir.Syntax.{w8, w64}
use mir.Val.{to_z, of_z}
use Rattle.std.proofs.Math.IntN.{◌*ℤ◌}
use Rattle.std.proofs.lemmas.Int.{ints, to_z-of_z}
use Rattle.adjust_kernel.specs.declared.bounds.TheConstants.{TURN}
use Rattle.adjust_kernel.specs.Residuals.{unrolled}
use Rattle.adjust_kernel.specs.Pairs.{turned_by}
use Rattle.adjust_kernel.proofs.residual.residual_at.Goals as goal

pub returns-clause-value : goal.returns-clause-value
returns-clause-value c =
    let low = c.requires.turn.low in
    let high = c.requires.turn.high in
    let turn_fits : FitsSigned w8 c.args.row.now.turn = omega (arith, ints, low, high) in
    let value : c.unrolled.result ≡ unrolled (turned_by c.args.obs.now c.args.row.now.turn) =
    c.unrolled.ensures ∙ ap (λ k. pos c.args.obs.now.value +ℤ pos TURN *ℤ k)
    (to_z-of_z w8 c.args.row.now.turn turn_fits) in
    let fits : FitsSigned w64 c.unrolled.result = record { sfits = c.unrolled.type_inv } in
    let observation : c.scaled-observation.result ≡ pos c.args.sheet.now.denominator *ℤ unrolled
    (turned_by c.args.obs.now c.args.row.now.turn) =
    c.scaled-observation.ensures.value
    ∙ ap (λ n. pos n *ℤ to_z w64 (of_z w64 c.unrolled.result)) c.denominator.ensures.value
    ∙ ap (λ z. pos c.args.sheet.now.denominator *ℤ z) (to_z-of_z w64 c.unrolled.result fits
    ∙ value) in
    omega (arith, ints)

pub returns-clause-bound : goal.returns-clause-bound
returns-clause-bound c = record { low = omega (arith, ints); high = omega (arith, ints) }
