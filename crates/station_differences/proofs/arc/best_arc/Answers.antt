use Rattle.std.proofs.Common.{◌≡◌, ℕ, ◌+◌, ◌<◌, ◌≤◌, length, arith, sym, subst}
use Rattle.station_differences.specs.Angles.{angle_of}
use Rattle.station_differences.proofs.FirstArcs.{IsFirstSoFar, best_so_far, narrower, no_narrower}
use Rattle.station_differences.proofs.FirstArcs.{none_so_far}
use Rattle.station_differences.proofs.arc.best_arc.Goals as goal
use Rattle.station_differences.proofs.arc.best_arc.Goals.{then-is_below, else-is_below}

pub loop-place-init : goal.loop-place-init
loop-place-init c =
    let circle = c.args.circle.now in
    let angles = c.args.angles.now in
    let whole : circle ≡ c.times-spread.result = omega (arith, c.times-spread.ensures) in
    subst (λ (n : ℕ). IsFirstSoFar circle (angle_of angles) (length angles) 0 0 n) whole
    (none_so_far circle (angle_of angles) (length angles))

pub loop-place-preserved : goal.loop-place-preserved
loop-place-preserved c =
    let circle = c.args.circle.now in
    let angle = angle_of c.args.angles.now in
    let count = length c.args.angles.now in
    let l = c.loop-place in
    let extent = c.extent_from-extent.result in
    let inside = c.requires.angles l.place 0 c.loop-place-test.true in
    let some : 1 ≤ circle = omega (arith, inside) in
    elim c.if-is_below.branch [
      | then-is_below w ↦
          let less : extent < l.spread = c.is_below.ensures.0 w.if-is_below.true in
          subst (λ (n : ℕ). IsFirstSoFar circle angle count (l.place + 1) n c.if-is_below.spread)
          (sym w.start-is)
          (subst (λ (n : ℕ). IsFirstSoFar circle angle count (l.place + 1) l.place n)
          (sym w.spread-is)
          (narrower circle angle count l.place l.start l.spread extent some less l.invariant
          (c.extent_from-extent.ensures.exact less)))
      | else-is_below w ↦
          let other : ¬ (extent < l.spread) =
          λ h. (let e = c.is_below.ensures.1 h in let f = w.if-is_below.false in cc) in
          subst (λ (n : ℕ). IsFirstSoFar circle angle count (l.place + 1) n c.if-is_below.spread)
          (sym w.start-is)
          (subst (λ (n : ℕ). IsFirstSoFar circle angle count (l.place + 1) l.start n)
          (sym w.spread-is)
          (no_narrower circle angle count l.place l.start l.spread some l.invariant
          (c.extent_from-extent.ensures.wide (omega (arith, other)))))
    ]

pub returns-clause-best : goal.returns-clause-best
returns-clause-best c =
    let circle = c.args.circle.now in
    let angles = c.args.angles.now in
    let l = c.loop-place in
    let all : l.place ≡ length angles =
    omega (arith, c.loop-place-test.false, l.auto.place-end) in
    best_so_far circle (angle_of angles) (length angles) l.start l.spread c.requires.some
    (subst (λ (n : ℕ). IsFirstSoFar circle (angle_of angles) (length angles) n l.start l.spread)
    all l.invariant)

pub returns-clause-bound : goal.returns-clause-bound
returns-clause-bound c =
    let some = c.requires.some in
    c.loop-place.invariant.narrowest.below (omega (arith, some, c.loop-place-test.false))
