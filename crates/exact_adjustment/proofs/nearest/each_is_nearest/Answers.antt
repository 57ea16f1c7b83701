use Rattle.std.proofs.Common.{◌<◌, length, pos, refl, ap, arith, below_more, subst, sym, FitsSigned}
use Rattle.std.proofs.Common.{rules, get_or}
use Rattle.std.proofs.lemmas.Int.{ints, to_z-of_z}
use mir.Syntax.{w8, w128}
use Rattle.adjust_kernel.specs.Residuals.{choice_of, residual}
use Rattle.exact_adjustment.specs.Nearest.{IsNearest}
use Rattle.exact_adjustment.proofs.ObservedLaws.{of_all, of_each, turned_at}
use Rattle.exact_adjustment.proofs.nearest.each_is_nearest.Goals as goal

pub loop-place-preserved : goal.loop-place-preserved
loop-place-preserved c =
    let l = c.loop-place in
    let ks = c.args.turns.now in
    let inside : l.place < length c.args.station.now.obs =
    omega (arith, ap length c.obs-obs.ensures.value, c.loop-place-test.true) in
    let turn = c.requires.turns l.place (pos 0) (omega (arith, inside, c.requires.each)) in
    let fits : FitsSigned w8 (get_or ks l.place (pos 0)) = omega (arith, ints) in
    let large : FitsSigned w128 c.disagreement.result = search rules in
    let is = simp to_z-of_z at (rw c.obs-obs.ensures.value at c.disagreement.ensures) in
    let near = simp to_z-of_z at (c.if-not-is_nearest.ensures.0 refl) in
    below_more (λ n. IsNearest (residual (choice_of 1 c.args.directions.now c.args.orientations.now)
    (turned_at c.args.station.now ks n))) l.place l.invariant (subst IsNearest is near)

pub returns-then-not-is_nearest : goal.returns-then-not-is_nearest
returns-then-not-is_nearest c =
    let l = c.loop-place in
    let ks = c.args.turns.now in
    let inside : l.place < length c.args.station.now.obs =
    omega (arith, ap length c.obs-obs.ensures.value, c.loop-place-test.true) in
    let turn = c.requires.turns l.place (pos 0) (omega (arith, inside, c.requires.each)) in
    let fits : FitsSigned w8 (get_or ks l.place (pos 0)) = omega (arith, ints) in
    let large : FitsSigned w128 c.disagreement.result = search rules in
    let is = simp to_z-of_z at (rw c.obs-obs.ensures.value at c.disagreement.ensures) in
    let near = simp to_z-of_z at c.if-not-is_nearest.ensures in (
      λ e. absurd cc,
      λ all. near.1 (subst IsNearest (sym is) (of_each c.args.station.now ks c.requires.each
          (λ r. IsNearest
          (residual (choice_of 1 c.args.directions.now c.args.orientations.now) r)) all l.place
          inside)),
    )

pub returns : goal.returns
returns c = (
  λ e. of_all c.args.station.now c.args.turns.now c.requires.each
      (λ r. IsNearest (residual (choice_of 1 c.args.directions.now c.args.orientations.now) r))
      (λ n h. c.loop-place.invariant n
      (omega (arith, h, ap length c.obs-obs.ensures.value, c.loop-place-test.false))),
  λ all. refl,
)
