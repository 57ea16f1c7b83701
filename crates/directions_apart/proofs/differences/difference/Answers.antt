use Rattle.std.proofs.Common.{pos, FitsSigned, get_or, rules}
use Rattle.std.proofs.lemmas.Int.{to_z-of_z}
use mir.Syntax.{w64}
use Rattle.directions_apart.specs.Apart.{stated_by}
use Rattle.exact_adjustment.specs.Adjustments.{choice_by}
use Rattle.directions_apart.proofs.ArcLaws.{difference_is}
use Rattle.directions_apart.proofs.differences.difference.Goals as goal

pub returns : goal.returns
returns c =
    let a = choice_by c.args.adjustment.now in
    let fits : FitsSigned w64 (get_or c.args.stated.now c.args.target (pos 0)) = search rules in
    difference_is a.denominator c.direction.result c.on_circle.result c.way_round.result
    (a.direction c.args.target) (stated_by c.args.stated.now c.args.target)
    c.direction.ensures.value (simp to_z-of_z at c.on_circle.ensures)
    (rw (c.circle.ensures.value, c.times.ensures, c.denominator.ensures.value)
    at c.way_round.ensures)
