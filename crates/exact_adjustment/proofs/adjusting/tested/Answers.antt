use Rattle.std.proofs.Common.{◌≡◌, Some, true, false, refl, rules}
use Rattle.adjust_kernel.specs.declared.bounds.TheConstants.{LARGEST_RESIDUAL_LIMIT}
use Rattle.adjust_kernel.specs.Residuals.{choice_of}
use Rattle.exact_adjustment.specs.Nearest.{HasNearestTurns}
use Rattle.exact_adjustment.proofs.FarLaws.{keeps_limit_too, keeps_wider}
use Rattle.exact_adjustment.proofs.HeldLaws.{held}
use Rattle.exact_adjustment.proofs.ObservedLaws.{above_is_not_kept}
use Rattle.exact_adjustment.proofs.adjusting.tested.Goals as goal

pub returns-clause-fault : goal.returns-clause-fault
returns-clause-fault c =
    let station = c.args.station.now in
    let a = c.in-Some-new.adjustment in
    let place = c.in-Some-greatest_above.place in
    let is = c.obs.ensures.valid in
    let tied = c.requires.tied in
    let exact = c.if-not-is_exact.ensures.0 refl in
    let greatest = c.in-Some-greatest_above.ensures.some in
    let both = rw c.turns-turns.ensures.value at (c.if-not-are_nearest.ensures.0 refl) in
    let near : HasNearestTurns station a.turns = record {
      angles = choice_of 1 c.deref.result.now c.deref-2.result.now;
      whole = refl;
      nearest = both.nearest;
    } in (
      tied,
      (λ other turns each some sums limited.
          above_is_not_kept station a c.args.limit place exact.each greatest
          (keeps_limit_too station a c.args.limit c.half_units.ensures.valid is tied exact near
          other turns each some sums limited)),
      (
        place,
        refl,
        record {
          rules = is;
          adjustment = a;
          exact = exact;
          nearest = near;
          greatest = greatest;
        },
      ),
    )

pub returns-then-not-are_nearest-clause-fault : goal.returns-then-not-are_nearest-clause-fault
returns-then-not-are_nearest-clause-fault c =
    let exact = c.if-not-is_exact.ensures.0 refl in
    let greatest = c.in-Some-greatest_above.ensures.some in
    record {
      tied = c.requires.tied;
      found = Some c.in-Some.found;
      said = search rules;
      refused = λ answer. above_is_not_kept c.args.station.now c.in-Some-new.adjustment
          c.args.limit c.in-Some-greatest_above.place exact.each greatest
          (rw c.in-Some-new.ensures.some answer.1);
      not_nearest = λ exact both.
          let e : false ≡ true = c.if-not-are_nearest.ensures.1 (rw (
            c.turns-turns.ensures.value,
            c.in-Some-new.ensures.some,
            c.deref.ensures.value,
            c.deref-2.ensures.value,
          ) both) in
          absurd cc;
    }

pub returns-in_default-greatest_above-clause-limited :
    goal.returns-in_default-greatest_above-clause-limited
returns-in_default-greatest_above-clause-limited c =
    keeps_wider c.args.station.now c.in-Some-new.adjustment c.args.limit LARGEST_RESIDUAL_LIMIT
    c.half_units.ensures.valid c.in_default-greatest_above.ensures.none

pub returns-in_default-greatest_above-clause-held :
    goal.returns-in_default-greatest_above-clause-held
returns-in_default-greatest_above-clause-held c =
    held c.args.station.now c.in-Some-new.adjustment c.obs.ensures.valid c.requires.tied
    (c.if-not-is_exact.ensures.0 refl) (keeps_wider c.args.station.now c.in-Some-new.adjustment
    c.args.limit LARGEST_RESIDUAL_LIMIT c.half_units.ensures.valid
    c.in_default-greatest_above.ensures.none) c.args.limit c.in_default-greatest_above.ensures.none
