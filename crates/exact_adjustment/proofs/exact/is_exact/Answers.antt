use Rattle.std.proofs.Common.{◌≡◌, ◌∙◌, refl, sym, true, false}
use Rattle.exact_adjustment.proofs.exact.is_exact.Goals as goal

pub returns-then-are_targets_even : goal.returns-then-are_targets_even
returns-then-are_targets_even c =
    let d = c.denominator-denominator.ensures.value in
    let t = c.directions-directions.ensures.value in
    let o = c.orientations-orientations.ensures.value in
    let k = c.turns-turns.ensures.value in
    let s = c.obs-obs.ensures.value in
    let counts = c.if-not-is_of.ensures.0 refl in
    let targets = rw (d, t, o, k, s, counts.1) at (c.if-are_targets_even.ensures.0 refl) in
    let sets = rw (d, t, o, k, s, counts.2) at c.are_sets_even.ensures in (
      λ e. record {
        rules = c.turns-turns.ensures.valid;
        each = counts.0;
        each_target = counts.1;
        each_set = counts.2;
        sums = record { target_sums = targets; set_sums = sets.0 e };
      },
      λ e. sets.1 e.sums.set_sums,
    )

pub returns-else-are_targets_even : goal.returns-else-are_targets_even
returns-else-are_targets_even c =
    let d = c.denominator-denominator.ensures.value in
    let t = c.directions-directions.ensures.value in
    let o = c.orientations-orientations.ensures.value in
    let k = c.turns-turns.ensures.value in
    let s = c.obs-obs.ensures.value in
    let counts = c.if-not-is_of.ensures.0 refl in
    let targets = rw (d, t, o, k, s, counts.1) at c.are_targets_even.ensures in (
      λ e. let u : false ≡ true = sym c.if-are_targets_even.false ∙ e in absurd cc,
      λ e. targets.1 e.sums.target_sums,
    )
