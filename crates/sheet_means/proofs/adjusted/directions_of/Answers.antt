use Rattle.std.proofs.Common.{◌≡◌, ◌+◌, ◌<◌, ℕ, List, length, pos, FitsSigned, to_z, arith, ap, sym}
use Rattle.std.proofs.Common.{subst, ◌∙◌}
use Rattle.std.specs.Int.{w64}
use Rattle.std.proofs.lemmas.Int.{ints, to_z-of_z}
use Rattle.std.proofs.Math.IntN.{◌*ℤ◌, ◌-ℤ◌}
use Rattle.adjust_kernel.specs.declared.bounds.TheConstants.{MOST_SETS}
use Rattle.adjust_kernel.specs.declared.row.Direction.{Direction}
use Rattle.adjust_kernel.specs.Pairs.{turned_by_rows}
use Rattle.adjust_kernel.specs.Within.{IsWithin}
use Rattle.sheet_means.specs.declared.totals.TheConstants.{LARGEST_UNROLLED}
use Rattle.sheet_means.specs.Parts.{AreEach, IsMeansDirection}
use Rattle.sheet_means.specs.Totals.{target_total}
use Rattle.sheet_means.proofs.EachLaws.{each_more}
use Rattle.sheet_means.proofs.GridLaws.{sum_below, whole_less}
use Rattle.sheet_means.proofs.MeansRowLaws.{grid}
use Rattle.sheet_means.proofs.SumLoops.{sum_more}
use Rattle.sheet_means.proofs.adjusted.directions_of.Goals as goal

-- The difference of this target's total and the first's.
difference_is : (c : goal.In_ok-push) → c.subtract-difference.result
    ≡ target_total (turned_by_rows c.args.station.now.obs c.args.rows.now) c.loop-target.target
    -ℤ target_total (turned_by_rows c.args.station.now.obs c.args.rows.now) 0
difference_is c =
    let total : FitsSigned w64 c.target_total.result = record { sfits = c.target_total.type_inv } in
    let first : FitsSigned w64 c.target_total-first.result =
    record { sfits = c.target_total-first.type_inv } in
    c.subtract-difference.ensures.value
    ∙ (λ i. (to_z-of_z w64 c.target_total.result total
    ∙ c.target_total.ensures.value) i -ℤ (to_z-of_z w64 c.target_total-first.result first
    ∙ c.target_total-first.ensures.value) i)

pub overflow_add-rest : goal.overflow_add-rest
overflow_add-rest c =
    let few = c.targets-targets.ensures.valid.targets.few in
    let below : c.loop-target.target < length c.args.station.now.targets = let all =
    ap length c.targets-targets.ensures.value in omega (arith, all, c.loop-target-test.true) in
    let low = c.loop-target.invariant.sum.bound.low in
    let high = c.loop-target.invariant.sum.bound.high in
    let next_low = c.subtract-difference.ensures.bound.low in
    let next_high = c.subtract-difference.ensures.bound.high in
    let fits : FitsSigned w64 c.subtract-difference.result =
    record { sfits = c.subtract-difference.type_inv } in
    let same = to_z-of_z w64 c.subtract-difference.result fits in
    omega (arith, ints, few, below, low, high, next_low, next_high, same)

pub loop-target-preserved : goal.loop-target-preserved
loop-target-preserved c =
    let station = c.args.station.now in
    let observations = turned_by_rows station.obs c.args.rows.now in
    let P = IsMeansDirection station observations in
    let f = λ (t : ℕ). target_total observations t -ℤ target_total observations 0 in
    let most = LARGEST_UNROLLED *ℤ pos 2 *ℤ pos MOST_SETS in
    let t = c.loop-target.target in
    let few = c.targets-targets.ensures.valid.targets.few in
    let below : t < length station.targets = let all = ap length c.targets-targets.ensures.value in
    omega (arith, all, c.loop-target-test.true) in
    let fits : FitsSigned w64 c.subtract-difference.result =
    record { sfits = c.subtract-difference.type_inv } in
    let same = to_z-of_z w64 c.subtract-difference.result fits in
    let difference = difference_is c in
    let more = sum_more f most t (to_z w64 c.loop-target.rest-bits) c.loop-target.invariant.sum
    (subst (IsWithin most) difference c.subtract-difference.ensures.bound) in
    let direction : P t c.direction_of.result = record {
      name = c.direction_of.ensures.name;
      value = c.direction_of.ensures.value ∙ (λ i. pos (length station.targets) *ℤ (same
          ∙ difference) i);
      bound = c.direction_of.ensures.bound;
    } in
    record {
      each = subst (AreEach P (t + 1)) (sym {A = List Direction} c.in_ok-push.ensures.items)
          (each_more P t c.loop-target.directions.items c.direction_of.result
          c.loop-target.invariant.each direction);
      sum = record {
        total_is = omega (arith, ints, few, below, same, difference, more.total_is);
        bound = omega (arith, ints, few, below, same, difference, more.bound);
      };
    }

pub returns-clause-rest : goal.returns-clause-rest
returns-clause-rest c =
    let station = c.args.station.now in
    let observations = turned_by_rows station.obs c.args.rows.now in
    let all = ap length c.targets-targets.ensures.value in
    let first = target_total observations 0 in
    let n : c.loop-target.target ≡ length station.targets = omega (arith, all) in
    c.loop-target.invariant.sum.total_is
    ∙ ap (λ (k : ℕ). sum_below k (λ t. target_total observations t -ℤ first)) n
    ∙ whole_less (length station.sets) (length station.targets) observations
    (grid station c.targets-targets.ensures.valid c.requires.complete c.args.rows.now
    c.requires.rows) first

pub returns-clause-bound : goal.returns-clause-bound
returns-clause-bound c =
    let all = ap length c.targets-targets.ensures.value in
    let few = c.targets-targets.ensures.valid.targets.few in
    let low = c.loop-target.invariant.sum.bound.low in
    let high = c.loop-target.invariant.sum.bound.high in
    record {
      low = omega (arith, ints, all, few, low, high);
      high = omega (arith, ints, all, few, low, high);
    }
