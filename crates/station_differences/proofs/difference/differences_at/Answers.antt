use Rattle.std.proofs.Common.{◌≡◌, ℕ, ◌+◌, ◌*◌, ◌<◌, ◌∙◌, List, length, get_or, ℤ, pos, arith, ap}
use Rattle.std.proofs.Common.{sym, subst, FitsSigned, to_z, of_z}
use Rattle.std.proofs.lemmas.Int.{to_z-of_z}
use Rattle.std.proofs.lemmas.List.{length_push}
use mir.Syntax.{w32}
use Rattle.directions_apart.specs.Apart.{circle_of, stated_by}
use Rattle.exact_adjustment.specs.Adjustments.{choice_by}
use Rattle.station_differences.specs.Angles.{AreAngles, angle_of}
use Rattle.station_differences.specs.BestArcs.{IsBestArc}
use Rattle.station_differences.specs.Differences.{IsFromMiddle}
use Rattle.station_differences.specs.StatedTargets.{choice_at}
use Rattle.station_differences.proofs.DifferenceLaws.{by_angles}
use Rattle.station_differences.proofs.RowLaws.{one_more}
use Rattle.station_differences.proofs.difference.differences_at.Goals as goal

pub loop-place-preserved : goal.loop-place-preserved
loop-place-preserved c =
    let d = c.denominator-denominator.result.now in
    let circle = c.times-circle.result in
    let angles = c.in_ok-angles.angles.items in
    let start = c.best_arc-arc.result.start in
    let spread = c.best_arc-arc.result.spread in
    let l = c.loop-place in
    let made = l.differences.items in
    let answered = c.difference_at.result in
    let fits : FitsSigned w32 answered = record { sfits = c.difference_at.type_inv } in
    let found = to_z w32 (of_z w32 answered) in
    let items = c.in_ok-push.ensures.items in
    let middle : IsFromMiddle d circle (angle_of angles) start spread (length made) found =
    subst (λ (n : ℕ). IsFromMiddle d circle (angle_of angles) start spread n found)
    (sym l.invariant.count)
    (subst (λ z. IsFromMiddle d circle (angle_of angles) start spread l.place z)
    (sym (to_z-of_z w32 answered fits))
    (subst (λ (xs : List ℕ). IsFromMiddle d circle (angle_of xs) start spread l.place answered)
    c.deref-in-loop-place.ensures.value c.difference_at.ensures)) in
    record {
      count = ap length items ∙ length_push made found ∙ ap (λ (n : ℕ). n + 1) l.invariant.count;
      each = subst (λ (ds : List ℤ). (t : ℕ) → t < length ds
          → IsFromMiddle d circle (angle_of angles) start spread t (get_or ds t (pos 0)))
          (sym items)
          (one_more (λ (t : ℕ) (z : ℤ). IsFromMiddle d circle (angle_of angles) start spread t z)
          made found (pos 0) l.invariant.each middle);
    }

pub returns : goal.returns
returns c =
    let a = c.args.adjustment.now in
    let places = c.args.places.now in
    let choice = choice_at places (choice_by a) in
    let l = c.loop-place in
    let angles = c.in_ok-angles.angles.items in
    let start = c.best_arc-arc.result.start in
    let spread = c.best_arc-arc.result.spread in
    let stated = λ (i : ℕ). stated_by c.args.stated.now (get_or places i 0) in
    let denominator : c.denominator-denominator.result.now ≡ a.denominator =
    c.denominator-denominator.ensures.value in
    let circle : c.times-circle.result ≡ circle_of choice =
    c.times-circle.ensures ∙ ap (λ (d : ℕ). d * 32_400_000_000_000) denominator in
    let are : AreAngles choice stated (length places) angles = c.in_ok-angles.ensures in
    let best : IsBestArc (circle_of choice) (angle_of angles) (length places) start spread =
    subst (λ (n : ℕ). IsBestArc (circle_of choice) (angle_of angles) n start spread) are.count
    (subst (λ (xs : List ℕ). IsBestArc (circle_of choice) (angle_of xs) (length xs) start spread)
    c.deref.ensures.value
    (subst (λ (k : ℕ). IsBestArc k (angle_of c.deref.result.now) (length c.deref.result.now) start
    spread) circle c.best_arc-arc.ensures.best)) in
    let all : l.place ≡ length places =
    omega (arith, c.loop-place-test.false, l.auto.place-end) in
    let count = l.invariant.count in
    by_angles choice stated (length places) start spread angles l.differences.items
    c.denominator-denominator.ensures.valid.positive are best (count ∙ all)
    (λ t h. subst (λ (d : ℕ). IsFromMiddle d (circle_of choice) (angle_of angles) start spread t
    (get_or l.differences.items t (pos 0))) denominator
    (subst (λ (k : ℕ). IsFromMiddle c.denominator-denominator.result.now k (angle_of angles) start
    spread t (get_or l.differences.items t (pos 0))) circle
    (l.invariant.each t (omega (arith, h, count, all)))))
