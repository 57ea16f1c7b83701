use Rattle.std.proofs.Common.{◌≡◌, ◌<◌, length, ℕ, to_z, FitsSigned, arith, ap, subst, sym, ◌∙◌}
use Rattle.std.specs.Int.{w64}
use Rattle.std.proofs.lemmas.Int.{ints, to_z-of_z}
use Rattle.adjust_kernel.specs.Pairs.{turned_by_rows}
use Rattle.adjust_kernel.specs.Residuals.{unrolled}
use Rattle.adjust_kernel.specs.Within.{IsWithin}
use Rattle.sheet_means.specs.declared.totals.TheConstants.{LARGEST_UNROLLED}
use Rattle.sheet_means.specs.Totals.{observation_at}
use Rattle.sheet_means.proofs.GridLaws.{sum_below, sum_of_set}
use Rattle.sheet_means.proofs.MeansRowLaws.{grid}
use Rattle.sheet_means.proofs.SumLoops.{sum_more}
use Rattle.sheet_means.proofs.totals.set_total.Goals as goal

pub overflow_add-total : goal.overflow_add-total
overflow_add-total c =
    let end = c.targets-target-end.ensures in
    let few = end.valid.targets.few in
    let below : c.loop-target.target < length c.args.station.now.targets = let all =
    ap length end.value in omega (arith, all, c.loop-target-test.true) in
    let so_far = c.loop-target.invariant.bound in
    let low = so_far.low in
    let high = so_far.high in
    let next = c.observation_at-total.ensures.bound in
    let next_low = next.low in
    let next_high = next.high in
    let fits : FitsSigned w64 c.observation_at-total.result =
    record { sfits = c.observation_at-total.type_inv } in
    let same = to_z-of_z w64 c.observation_at-total.result fits in
    omega (arith, ints, few, below, low, high, next_low, next_high, same)

pub loop-target-preserved : goal.loop-target-preserved
loop-target-preserved c =
    let f = λ (k : ℕ). unrolled
    (observation_at (turned_by_rows c.args.station.now.obs c.args.rows.now)
    (length c.args.station.now.targets) c.args.set k) in
    let next = c.observation_at-total.ensures in
    let more = sum_more f LARGEST_UNROLLED c.loop-target.target
    (to_z w64 c.loop-target.total-bits) c.loop-target.invariant
    (subst (IsWithin LARGEST_UNROLLED) next.value next.bound) in
    let end = c.targets-target-end.ensures in
    let few = end.valid.targets.few in
    let below : c.loop-target.target < length c.args.station.now.targets = let all =
    ap length end.value in omega (arith, all, c.loop-target-test.true) in
    record {
      total_is = omega (arith, ints, few, below, more.total_is);
      bound = omega (arith, ints, few, below, more.bound);
    }

pub returns-clause-value : goal.returns-clause-value
returns-clause-value c =
    let station = c.args.station.now in
    let end = c.targets-target-end.ensures in
    let all = ap length end.value in
    let f = λ (k : ℕ). unrolled
    (observation_at (turned_by_rows c.args.station.now.obs c.args.rows.now)
    (length c.args.station.now.targets) c.args.set k) in
    let n : c.loop-target.target ≡ length station.targets = omega (arith, all) in
    c.loop-target.invariant.total_is
    ∙ ap (λ (k : ℕ). sum_below k f) n
    ∙ sym (sum_of_set (length station.sets) (length station.targets)
    (turned_by_rows station.obs c.args.rows.now)
    (grid station end.valid c.requires.complete c.args.rows.now c.requires.rows) unrolled
    c.args.set c.requires.set)
