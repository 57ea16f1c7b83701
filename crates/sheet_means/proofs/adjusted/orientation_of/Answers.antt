use Rattle.std.proofs.Common.{◌≡◌, ℕ, List, length, get_or, pos, FitsSigned, to_z, of_z, arith, ap}
use Rattle.std.proofs.Common.{◌∙◌}
use Rattle.std.specs.Int.{w64, w128}
use Rattle.std.proofs.lemmas.Int.{ints, to_z-of_z}
use Rattle.std.proofs.Math.IntN.{◌*ℤ◌, ◌-ℤ◌}
use Rattle.adjust_kernel.specs.Pairs.{turned_by_rows}
use Rattle.sheet_means.specs.Totals.{set_total}
use Rattle.sheet_means.proofs.adjusted.orientation_of.Goals as goal

pub returns : goal.returns
returns c =
    let station = c.args.station.now in
    let observations = turned_by_rows station.obs c.args.rows.now in
    let sets = c.sets-sets.ensures.value in
    let share = c.times_sets-share.result in
    let share_fits : FitsSigned w64 share = record { sfits = c.times_sets-share.type_inv } in
    let total_fits : FitsSigned w64 c.set_total.result = record { sfits = c.set_total.type_inv } in
    let shared = to_z-of_z w64 share share_fits in
    let total = to_z-of_z w64 c.set_total.result total_fits in
    let w = c.times_sets-share.ensures.bound in
    let b = c.requires.bound in
    let value : to_z w128 (of_z w128 c.from.result) ≡ c.args.rest -ℤ share =
    omega (arith, ints, c.from.ensures, shared, w.low, w.high, b.low, b.high) in
    let share_is : share ≡ pos (length station.sets) *ℤ set_total observations c.args.set =
    c.times_sets-share.ensures.value ∙ (λ i. pos (length (sets i)) *ℤ (total
    ∙ c.set_total.ensures.value) i) in
    let rest_is = c.requires.rest in
    record {
      set = ap (λ (l : List ℕ). get_or l c.args.set 0) sets;
      value = value ∙ omega (arith, ints);
      bound = record { low = omega (arith, ints, value); high = omega (arith, ints, value) };
    }
