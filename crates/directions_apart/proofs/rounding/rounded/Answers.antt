use Rattle.std.proofs.Common.{◌*◌, pos}
use Rattle.std.proofs.Math.IntN.{◌*ℤ◌}
use Rattle.exact_adjustment.specs.Adjustments.{choice_by}
use Rattle.directions_apart.proofs.ArcLaws.{on_circle_is}
use Rattle.directions_apart.proofs.RoundingLaws.{rounded_is}
use Rattle.directions_apart.proofs.rounding.rounded.Goals as goal

pub returns : goal.returns
returns c =
    let a = choice_by c.args.adjustment.now in
    let t = c.args.target in
    let x = c.direction.result in
    let steps = rw c.denominator.ensures.value at c.nearest_steps-steps.ensures in
    rw c.from.ensures (rounded_is a t c.args.step c.nearest_steps-steps.result x c.requires.some
    c.requires.circle (on_circle_is (a.denominator * 400_000_000_000) (pos 5_000 *ℤ a.direction t)
    x c.direction.ensures.bound c.direction.ensures.value) steps.low steps.high)
