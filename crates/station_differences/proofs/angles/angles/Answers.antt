use Rattle.std.proofs.Common.{◌≡◌, ℕ, ◌+◌, ◌<◌, ◌∙◌, List, length, get_or, pos, arith, ap}
use Rattle.std.proofs.Common.{sym, subst}
use Rattle.std.proofs.lemmas.List.{length_push}
use Rattle.directions_apart.specs.Apart.{circle_of, difference, stated_by}
use Rattle.directions_apart.specs.Arcs.{IsWayRound}
use Rattle.exact_adjustment.specs.Adjustments.{choice_by}
use Rattle.station_differences.proofs.RowLaws.{one_more}
use Rattle.station_differences.proofs.angles.angles.Goals as goal

pub loop-place-preserved : goal.loop-place-preserved
loop-place-preserved c =
    let choice = choice_by c.args.adjustment.now in
    let stated = stated_by c.args.stated.now in
    let places = c.args.places.now in
    let l = c.loop-place in
    let made = l.angles.items in
    let items = c.in_ok-push.ensures.items in
    let last = subst (λ (n : ℕ). IsWayRound (circle_of choice) (pos 0)
    (difference choice stated (get_or places n 0)) c.difference.result) (sym l.invariant.count)
    c.difference.ensures in
    record {
      count = ap length items ∙ length_push made c.difference.result
          ∙ ap (λ (n : ℕ). n + 1) l.invariant.count;
      each = subst (λ (ds : List ℕ). (i : ℕ) → i < length ds
          → IsWayRound (circle_of choice) (pos 0) (difference choice stated (get_or places i 0))
          (get_or ds i 0)) (sym items)
          (one_more (λ (i d : ℕ). IsWayRound (circle_of choice) (pos 0)
          (difference choice stated (get_or places i 0)) d) made c.difference.result 0
          l.invariant.each last);
    }

pub returns : goal.returns
returns c =
    let l = c.loop-place in
    let count = l.invariant.count in
    let all : l.place-index ≡ length c.args.places.now =
    omega (arith, c.loop-place-test.false, l.auto.place-index-end) in
    record {
      count = count ∙ all;
      each = λ t h. l.invariant.each t (omega (arith, h, count, all));
    }
