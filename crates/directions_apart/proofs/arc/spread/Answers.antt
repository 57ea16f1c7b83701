use Rattle.std.proofs.Common.{◌≡◌, ◌≤◌, ◌<◌, ◌+◌, arith, length, subst, sym}
use Rattle.std.specs.Prelude.{min}
use Rattle.directions_apart.specs.Apart.{circle_of, difference, stated_by}
use Rattle.directions_apart.proofs.SpreadLaws.{IsNarrowest, all_starts, next_start, no_start}
use Rattle.directions_apart.proofs.SpreadLaws.{wide_start}
use Rattle.exact_adjustment.specs.Adjustments.{choice_by}
use Rattle.directions_apart.proofs.arc.spread.Goals as goal
use Rattle.directions_apart.proofs.arc.spread.Goals.{then-is_below, else-is_below}

pub loop-start-init : goal.loop-start-init
loop-start-init c =
    let a = choice_by c.args.adjustment.now in
    rw c.circle-narrowest.ensures.value (no_start (circle_of a)
    (difference a (stated_by c.args.stated.now)) (length c.args.stated.now))

pub loop-start-preserved : goal.loop-start-preserved
loop-start-preserved c =
    let circle = circle_of (choice_by c.args.adjustment.now) in
    let angle = difference (choice_by c.args.adjustment.now) (stated_by c.args.stated.now) in
    let count = length c.args.stated.now in
    let some : 1 ≤ circle = omega (arith, c.circle-narrowest.ensures.valid.positive) in
    let start = c.loop-start.start in
    let narrowest = c.loop-start.narrowest in
    let extent = c.extent_from-extent.result in
    elim c.if-is_below.branch [
      | then-is_below w ↦
          let less : extent < narrowest = c.is_below.ensures.0 w.if-is_below.true in
          let least : min narrowest extent ≡ c.if-is_below.narrowest =
          omega (arith, less, w.narrowest-is) in
          subst (IsNarrowest circle angle count (start + 1)) least
          (next_start circle angle count start narrowest extent some c.loop-start.invariant
          (c.extent_from-extent.ensures.exact less))
      | else-is_below w ↦
          let other : ¬ (extent < narrowest) =
          λ h. (let e = c.is_below.ensures.1 h in let f = w.if-is_below.false in cc) in
          subst (IsNarrowest circle angle count (start + 1)) (sym w.narrowest-is)
          (wide_start circle angle count start narrowest some c.loop-start.invariant
          (c.extent_from-extent.ensures.wide (omega (arith, other))))
    ]

pub returns-clause-spread : goal.returns-clause-spread
returns-clause-spread c =
    let a = choice_by c.args.adjustment.now in
    let count = length c.args.stated.now in
    let some : 1 ≤ count = omega (arith, c.circle-narrowest.ensures.valid.some, c.requires) in
    let all : c.loop-start.start ≡ count =
    omega (arith, c.loop-start-test.false, c.loop-start.auto.start-end) in
    all_starts (circle_of a) (difference a (stated_by c.args.stated.now)) count
    c.loop-start.narrowest some (rw all at c.loop-start.invariant)
