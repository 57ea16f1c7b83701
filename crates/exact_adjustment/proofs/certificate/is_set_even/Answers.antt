use Rattle.std.proofs.Common.{pos, arith, eqb, eq-eqb, FitsSigned, get_or, rules}
use Rattle.std.proofs.lemmas.Bool.{ne_eqb}
use Rattle.std.proofs.lemmas.Int.{ints, to_z-of_z}
use mir.Syntax.{w8}
use Rattle.adjust_kernel.specs.Residuals.{residual}
use Rattle.adjust_kernel.specs.TurnedObservations.{TurnedObservation}
use Rattle.exact_adjustment.specs.Adjustments.{choice_in}
use Rattle.exact_adjustment.proofs.SideLaws.{even_is, sum_more}
use Rattle.exact_adjustment.proofs.certificate.is_set_even.Goals as goal
use Rattle.exact_adjustment.proofs.certificate.is_set_even.Goals.{then-one-set, else-one-set}

pub loop-place-preserved : goal.loop-place-preserved
loop-place-preserved c =
    let l = c.loop-place in
    let e = sum_more (λ (r : TurnedObservation). eqb r.set c.args.set)
    (residual (choice_in c.args.denominator.now c.args.directions.now c.args.orientations.now))
    c.args.obs.now c.args.turns.now l.place (record { set = 0; target = 0; value = 0 }) (pos 0)
    c.requires.each c.loop-place-test.true in
    let fits : FitsSigned w8 (get_or c.args.turns.now l.place (pos 0)) = search rules in
    elim c.if-one-set.branch [
      | then-one-set w ↦
          let f = rw (eq-eqb _ _ w.if-one-set.true) at e in
          let g = simp to_z-of_z at w.add_residual.ensures.sum in
          omega (arith, ints, f, g)
      | else-one-set w ↦
          let f = rw (ne_eqb _ _ w.if-one-set.false) at e in
          omega (arith, ints, f)
    ]

pub returns : goal.returns
returns c =
    let l = c.loop-place in
    let e = even_is (λ (r : TurnedObservation). eqb r.set c.args.set)
    (residual (choice_in c.args.denominator.now c.args.directions.now c.args.orientations.now))
    c.args.obs.now c.args.turns.now l.place l.left l.right c.requires.each
    c.loop-place-test.false l.invariant.sum in
    (λ t. e.0 (c.is_same.ensures.0 t), λ z. c.is_same.ensures.1 (e.1 z))
