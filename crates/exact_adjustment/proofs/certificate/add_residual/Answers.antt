use Rattle.std.proofs.Common.{◌∙◌, FitsSigned, rules, get_or}
use Rattle.std.proofs.lemmas.Int.{to_z-of_z}
use mir.Syntax.{w8}
use Rattle.exact_adjustment.specs.declared.certificate.TheConstants.{LIFT}
use Rattle.exact_adjustment.proofs.SideLaws.{get_or-pos, same_inside, sides_step}
use Rattle.exact_adjustment.proofs.certificate.add_residual.Goals as goal

pub returns-clause-sum : goal.returns-clause-sum
returns-clause-sum c =
    let o = c.args.obs.now in
    let fits : FitsSigned w8 c.args.turn = search rules in
    let direction = c.index-directions-obs.is
    ∙ same_inside c.args.directions.now o.target _ 0 c.requires.obs.target in
    let orientation = c.index-orientations-obs.is
    ∙ same_inside c.args.orientations.now o.set _ 0 c.requires.obs.set in
    rw (get_or-pos c.args.directions.now o.target, get_or-pos c.args.orientations.now o.set)
    (sides_step c.args.left.now c.args.right.now (get_or c.args.directions.now o.target 0)
    (get_or c.args.orientations.now o.set 0) c.args.denominator.now o.value c.lifted.result LIFT
    c.add_sides.new.left c.add_sides.new.right c.args.turn
    (rw (← direction) c.add_sides.ensures.left) (rw (← orientation) c.add_sides.ensures.right)
    (simp to_z-of_z at c.lifted.ensures.value))
