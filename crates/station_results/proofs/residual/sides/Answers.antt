use Rattle.std.proofs.Common.{◌≡◌, ◌+◌, ◌*◌, ◌∙◌, get_or, sym, ap, arith, pos, FitsSigned}
use Rattle.std.proofs.Math.IntN.{◌*ℤ◌, ◌+ℤ◌}
use Rattle.std.proofs.lemmas.Int.{ints, to_z-of_z}
use mir.Syntax.{w8}
use Rattle.adjust_kernel.specs.declared.bounds.TheConstants.{TURN}
use Rattle.station_results.specs.declared.residual.TheConstants.{LIFT}
use Rattle.exact_adjustment.proofs.SideLaws.{one_step, residual_is, same_inside}
use Rattle.station_results.proofs.residual.sides.Goals as goal

pub returns-clause-residual : goal.returns-clause-residual
returns-clause-residual c =
    let a = c.args.adjustment.now in
    let o = c.args.obs.now in
    let low = c.requires.turn.low in
    let high = c.requires.turn.high in
    let fits : FitsSigned w8 c.args.turn = omega (arith, ints, low, high) in
    let direction : c.index-directions-obs.result ≡ get_or a.directions o.target 0 =
    c.index-directions-obs.is ∙ rw c.directions.ensures.value
    (same_inside a.directions o.target _ 0 c.requires.obs.target) in
    let orientation : c.index-orientations-obs.result ≡ get_or a.orientations o.set 0 =
    c.index-orientations-obs.is ∙ rw c.orientations.ensures.value
    (same_inside a.orientations o.set _ 0 c.requires.obs.set) in
    let first : c.add_product.new.self ≡ get_or a.directions o.target 0 + a.denominator * LIFT =
    rw (← direction, ← c.denominator-denominator.ensures.value)
    (omega (arith, c.add_product.ensures, c.times-first.ensures)) in
    let second : c.add_product-2.new.self
    ≡ get_or a.orientations o.set 0 + a.denominator * c.lifted.result =
    rw (← orientation, ← c.denominator-denominator.ensures.value)
    (omega (arith, c.add_product-2.ensures, c.times-second.ensures)) in
    one_step _ _ a.denominator o.value c.lifted.result LIFT c.add_product.new.self
    c.add_product-2.new.self c.args.turn first second (c.lifted.ensures.value
    ∙ ap (λ z. (pos o.value +ℤ pos TURN *ℤ z) +ℤ pos LIFT) (to_z-of_z w8 c.args.turn fits))
    ∙ sym (residual_is a o c.args.turn)
