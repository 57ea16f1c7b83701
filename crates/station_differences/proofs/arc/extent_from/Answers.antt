use Rattle.std.proofs.Common.{◌≡◌, ℕ, ◌+◌, ◌<◌, ◌≤◌, length, pos, arith, sym, subst}
use Rattle.std.specs.Prelude.{max}
use Rattle.directions_apart.specs.Arcs.{IsExtent, IsWayRound}
use Rattle.directions_apart.proofs.ArcLaws.{next_extent}
use Rattle.station_differences.specs.Angles.{angle_of}
use Rattle.station_differences.proofs.DifferenceLaws.{between_places}
use Rattle.station_differences.proofs.arc.extent_from.Goals as goal
use Rattle.station_differences.proofs.arc.extent_from.Goals.{then-is_below, else-is_below}

pub loop-place-preserved : goal.loop-place-preserved
loop-place-preserved c =
    let circle = c.args.circle.now in
    let angles = c.args.angles.now in
    let place = c.loop-place.place in
    let widest = c.loop-place.widest in
    let copy : c.times.result ≡ c.index-angles-place.result = omega (arith, c.times.ensures) in
    let way = between_places circle angles c.args.start place c.index-angles-start.result
    c.index-angles-place.result c.way_round-way.result c.requires.start c.loop-place-test.true
    c.index-angles-start.is c.index-angles-place.is
    (subst (λ (n : ℕ). IsWayRound circle (pos c.index-angles-start.result) (pos n)
    c.way_round-way.result) copy c.way_round-way.ensures) in
    let larger : c.if-is_below.widest ≡ max widest c.way_round-way.result =
    elim c.if-is_below.branch [
      | then-is_below w ↦
          let below : widest < c.way_round-way.result =
          c.is_below-in-loop-place.ensures.0 w.if-is_below.true in
          omega (arith, w.widest-is, below)
      | else-is_below w ↦
          let other : ¬ (widest < c.way_round-way.result) =
          λ l. (let e = c.is_below-in-loop-place.ensures.1 l in let f = w.if-is_below.false in cc)
          in
          omega (arith, w.widest-is, other)
    ] in
    subst (IsExtent circle (angle_of angles) (place + 1) c.args.start) (sym larger)
    (next_extent circle (angle_of angles) place c.args.start widest c.way_round-way.result
    c.loop-place.invariant way)

pub returns : goal.returns
returns c =
    let all : c.loop-place.place ≡ length c.args.angles.now =
    omega (arith, c.loop-place-test.false, c.loop-place.auto.place-end) in
    let extent = subst (λ (n : ℕ). IsExtent c.args.circle.now (angle_of c.args.angles.now) n
    c.args.start c.loop-place.widest) all c.loop-place.invariant in
    record {
      exact = λ less. extent;
      wide = λ h width held. let least = extent.narrowest width held in omega (arith, least, h);
    }

pub returns-then-not-is_below : goal.returns-then-not-is_below
returns-then-not-is_below c =
    let circle = c.args.circle.now in
    let angles = c.args.angles.now in
    let place = c.loop-place.place in
    let bound = c.args.bound.now in
    let onward = c.way_round-way.result in
    let copy : c.times.result ≡ c.index-angles-place.result = omega (arith, c.times.ensures) in
    let way = between_places circle angles c.args.start place c.index-angles-start.result
    c.index-angles-place.result onward c.requires.start c.loop-place-test.true
    c.index-angles-start.is c.index-angles-place.is
    (subst (λ (n : ℕ). IsWayRound circle (pos c.index-angles-start.result) (pos n) onward) copy
    c.way_round-way.ensures) in
    let wide : bound ≤ onward = grind (arith, c.is_below.ensures, c.if-not-is_below.true) in
    record {
      exact = λ less. absurd (omega (arith, less, wide));
      wide = λ h width all.
          let held = all place c.loop-place-test.true onward way in omega (arith, held, wide);
    }
