use Rattle.std.proofs.Common.{◌≡◌, ◌≤◌, arith, length}
use Rattle.std.specs.Prelude.{max}
use Rattle.directions_apart.specs.Apart.{circle_of, difference, stated_by}
use Rattle.directions_apart.specs.Arcs.{IsExtent}
use Rattle.exact_adjustment.specs.Adjustments.{choice_by}
use Rattle.directions_apart.proofs.ArcLaws.{next_extent, way_between}
use Rattle.directions_apart.proofs.arc.extent_from.Goals as goal

pub loop-target-preserved : goal.loop-target-preserved
loop-target-preserved c =
    let a = choice_by c.args.adjustment.now in
    let angle = difference a (stated_by c.args.stated.now) in
    let way = c.way_round-way.result in
    let widest = c.loop-target.widest in
    let larger : c.if-is_below.widest ≡ max widest way =
    grind (arith, c.is_below-in-loop-target.ensures) in
    rw larger (next_extent (circle_of a) angle c.loop-target.target c.args.start widest way
    c.loop-target.invariant (way_between (circle_of a) (angle c.args.start)
    (angle c.loop-target.target) c.difference-from.result c.difference.result way
    c.difference-from.ensures c.difference.ensures
    (rw c.circle-circle.ensures.value at c.way_round-way.ensures)))

pub returns-then-not-is_below : goal.returns-then-not-is_below
returns-then-not-is_below c =
    let a = choice_by c.args.adjustment.now in
    let angle = difference a (stated_by c.args.stated.now) in
    let bound = c.args.bound.now in
    let way = c.way_round-way.result in
    let wide : bound ≤ way = grind (arith, c.is_below.ensures, c.if-not-is_below.true) in
    let here = way_between (circle_of a) (angle c.args.start) (angle c.loop-target.target)
    c.difference-from.result c.difference.result way c.difference-from.ensures
    c.difference.ensures (rw c.circle-circle.ensures.value at c.way_round-way.ensures) in
    record {
      exact = λ less. absurd (omega (arith, less, wide));
      wide = λ h width all.
          let held = all c.loop-target.target c.loop-target-test.true way here in
          omega (arith, held, wide);
    }

pub returns : goal.returns
returns c =
    let a = choice_by c.args.adjustment.now in
    let angle = difference a (stated_by c.args.stated.now) in
    let widest = c.loop-target.widest in
    let all : c.loop-target.target ≡ length c.args.stated.now =
    omega (arith, c.loop-target-test.false, c.loop-target.auto.target-end) in
    let extent : IsExtent (circle_of a) angle (length c.args.stated.now) c.args.start widest =
    rw all at c.loop-target.invariant in
    record {
      exact = λ less. extent;
      wide = λ h width held. let least = extent.narrowest width held in omega (arith, least, h);
    }
