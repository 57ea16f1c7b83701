use Rattle.std.proofs.Common.{◌≡◌, ◌∙◌, ◌+◌, ◌*◌, ◌<◌, ◌≤◌, length, take, get_or, pos, ◌+ℤ◌}
use Rattle.std.proofs.Common.{ap, arith, refl, sym, take_all, ℕ, ℤ, List}
use Rattle.std.proofs.Math.IntN.{◌*ℤ◌, ◌-ℤ◌}
use Rattle.std.proofs.Math.Nat.{mul-le-mul}
use Rattle.std.proofs.lemmas.Int.{ints}
use Rattle.adjust_kernel.specs.Pairs.{turned_by}
use Rattle.adjust_kernel.specs.Residuals.{residual, unrolled}
use Rattle.adjust_kernel.specs.Stations.{IsStation, StationValue}
use Rattle.adjust_kernel.specs.Sums.{int_sum_by}
use Rattle.exact_adjustment.proofs.SideLaws.{length-turned}
use Rattle.exact_adjustment.specs.Adjustments.{AdjustmentValue, choice_by}
use Rattle.exact_adjustment.specs.Exact.{IsExact, observed_by}
use Rattle.station_report.proofs.SquareLaws.{lifted_step, near, not_below, one_more, products}
use Rattle.station_report.proofs.SquareLaws.{squares_are, squares_within}
use Rattle.station_results.proofs.ReadLaws.{any_obs, any_turned, limited_there, there}
use Rattle.station_results.proofs.ReadLaws.{turn_kept, turned_there}
use Rattle.station_report.proofs.squares.squares_by.Goals as goal

pub lifted_factor-factor-requires-clause-limited :
    goal.lifted_factor-factor-requires-clause-limited
lifted_factor-factor-requires-clause-limited c =
    limited_there c.args.station.now c.args.adjustment.now c.requires.exact c.loop-place.place
    (omega (arith, ap length c.obs-obs.ensures.value, c.loop-place-test.true)) 2_000
    c.requires.limited _ _ c.obs-obs.ensures.value c.turns-turns.ensures.value

pub lifted_residual-requires-clause-limited : goal.lifted_residual-requires-clause-limited
lifted_residual-requires-clause-limited c =
    limited_there c.args.station.now c.args.adjustment.now c.requires.exact c.loop-place.place
    (omega (arith, ap length c.obs-obs.ensures.value, c.loop-place-test.true)) 2_000
    c.requires.limited _ _ c.obs-obs.ensures.value c.turns-turns.ensures.value

pub loop-place-preserved : goal.loop-place-preserved
loop-place-preserved c =
    let station = c.args.station.now in
    let a = c.args.adjustment.now in
    let l = c.loop-place in
    let ds = c.args.directions.now in
    let os = c.args.orientations.now in
    let exact = c.requires.exact in
    let count = ap length c.obs-obs.ensures.value in
    let inside : l.place < length station.obs = omega (arith, count, c.loop-place-test.true) in
    let one = get_or station.obs l.place any_obs in
    let k = get_or a.turns l.place (pos 0) in
    let kept = turn_kept station a exact l.place inside in
    let w = c.lifted_residual.result in
    let m = c.lifted_factor-factor.result in
    let lifted : pos w ≡ residual (choice_by a) (turned_by one k) +ℤ pos (2_000 * a.denominator) =
    rw (c.obs-obs.ensures.value, c.turns-turns.ensures.value, kept)
    at c.lifted_residual.ensures.value in
    let factor : pos m ≡ (pos (get_or ds one.target 0) -ℤ pos (get_or os one.set 0)
    -ℤ unrolled (turned_by one k)) +ℤ pos 2_000 =
    rw (c.obs-obs.ensures.value, c.turns-turns.ensures.value, kept)
    at c.lifted_factor-factor.ensures.value in
    let near_is : pos m ≡ near ds os (turned_by one k) = omega (arith, ints, factor) in
    let is = turned_there station a exact l.place inside in
    let step = lifted_step l.sum l.factors a.denominator w m c.add_product.new.self (l.factors + m)
    (int_sum_by (λ r. residual (choice_by a) r *ℤ near ds os r)
    (take l.place (observed_by station a)))
    (residual (choice_by a) (turned_by one k)) (near ds os (turned_by one k)) c.add_product.ensures
    refl lifted near_is l.invariant.sum in
    let more = one_more (λ r. residual (choice_by a) r *ℤ near ds os r) (observed_by station a)
    l.place any_turned (there station a exact l.place inside) in
    let product : w * m ≤ (a.denominator * 4_000) * 4_000 =
    mul-le-mul c.lifted_residual.ensures.bound c.lifted_factor-factor.ensures.bound in
    record {
      sum = step
          ∙ ap (λ r. int_sum_by (λ r. residual (choice_by a) r *ℤ near ds os r)
          (take l.place (observed_by station a)) +ℤ residual (choice_by a) r *ℤ near ds os r)
          (sym is) ∙ sym more;
      sum_in = omega (arith, c.add_product.ensures, product, l.invariant.sum_in);
      factors_in = omega (arith, l.invariant.factors_in, c.lifted_factor-factor.ensures.bound);
    }

-- All products added, once the last place is passed.
all_added : (station : StationValue) (valid : IsStation station) (a : AdjustmentValue)
    (exact : IsExact station a) (ds os : List ℕ) (place : ℕ) (sum : ℤ) → length station.obs ≤ place
    → sum ≡ int_sum_by (λ r. residual (choice_by a) r *ℤ near ds os r)
    (take place (observed_by station a))
    → sum ≡ products station valid a exact ds os
all_added station valid a exact ds os place sum passed e =
    e ∙ ap (int_sum_by (λ r. residual (choice_by a) r *ℤ near ds os r))
    (take_all place (observed_by station a)
    (omega (arith, passed, length-turned station.obs a.turns exact.each)))

pub subtract-requires : goal.subtract-requires
subtract-requires c =
    let a = c.args.adjustment.now in
    let l = c.loop-place in
    let sum = all_added c.args.station.now c.obs-obs.ensures.valid a c.requires.exact
    c.args.directions.now c.args.orientations.now l.place _
    (omega (arith, ap length c.obs-obs.ensures.value, c.loop-place-test.false)) l.invariant.sum in
    let some = not_below c.args.station.now c.obs-obs.ensures.valid a c.requires.exact
    c.args.directions.now c.args.orientations.now in
    let off : c.times.result ≡ a.denominator * (2_000 * l.factors) =
    rw (← c.denominator-denominator.ensures.value) (omega (arith, c.times.ensures)) in
    omega (arith, ints, sum, some, off)

-- What is left of the sum, once what lifted it is taken off.
left_over : (c : goal.After-subtract) → pos c.subtract.new.self
    ≡ products c.args.station.now c.obs-obs.ensures.valid c.args.adjustment.now
    c.requires.exact c.args.directions.now c.args.orientations.now
left_over c =
    let a = c.args.adjustment.now in
    let l = c.loop-place in
    let off : c.subtract.new.self + a.denominator * (2_000 * l.factors) ≡ l.sum =
    rw (← c.denominator-denominator.ensures.value)
    (omega (arith, c.subtract.ensures, c.times.ensures)) in
    let sum = all_added c.args.station.now c.obs-obs.ensures.valid a c.requires.exact
    c.args.directions.now c.args.orientations.now l.place _
    (omega (arith, ap length c.obs-obs.ensures.value, c.loop-place-test.false)) l.invariant.sum in
    omega (arith, ints, sum, off)

pub returns-clause-squares : goal.returns-clause-squares
returns-clause-squares c =
    squares_are c.args.station.now c.obs-obs.ensures.valid c.args.adjustment.now
    c.requires.exact c.args.directions.now c.args.orientations.now c.subtract.new.self
    (left_over c)

pub returns-clause-bound : goal.returns-clause-bound
returns-clause-bound c =
    squares_within c.args.station.now c.obs-obs.ensures.valid c.args.adjustment.now
    c.requires.exact c.args.directions.now c.args.orientations.now c.requires.limited
    c.subtract.new.self (left_over c)
