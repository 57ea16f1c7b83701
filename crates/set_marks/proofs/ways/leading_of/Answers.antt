use Rattle.std.proofs.Common.{◌≡◌, false, rules, sym, ◌∙◌, arith}
use Rattle.set_marks.specs.Searching.{seems_ended}
use Rattle.set_marks.specs.Ways.{is_division}
use Rattle.set_marks.proofs.Tries.{found_leading, found_none, none_by_last, none_more}
use Rattle.set_marks.proofs.ways.leading_of.Goals as goal

pub returns-then-not-seems_ended-clause-value : goal.returns-then-not-seems_ended-clause-value
returns-then-not-seems_ended-clause-value c =
    let none : seems_ended c.args.ending c.args.rest.now ≡ false = search rules in
    none_by_last c.args.ending c.args.sights.now c.args.rest.now c.requires.rest none

pub returns-then-branch-clause-value : goal.returns-then-branch-clause-value
returns-then-branch-clause-value c =
    let told = c.in_ok-is_division.ensures in
    found_leading c.args.ending c.args.sights.now c.args.rest.now c.tries.leading c.requires.rest
    c.tries-test.true c.if-leading-le-MOST_READINGS.true c.tries.invariant.none
    (sym c.if-branch.true ∙ told.value)

pub tries-preserved : goal.tries-preserved
tries-preserved c =
    let told = c.in_ok-is_division.ensures in
    let lt = c.tries-test.true in
    record {
      kept = c.is_division.ensures.unchanged ∙ c.tries.invariant.kept;
      none = none_more (λ k. is_division c.args.ending c.args.sights.now k) c.tries.leading
          c.tries.invariant.none (sym told.value ∙ c.if-branch.false);
      few = omega (arith, lt);
    }

pub returns-else-leading-le-MOST_READINGS-clause-value
    : goal.returns-else-leading-le-MOST_READINGS-clause-value
returns-else-leading-le-MOST_READINGS-clause-value c =
    found_none c.args.ending c.args.sights.now c.args.rest.now c.tries.leading c.requires.rest
    (λ lt. c.if-leading-le-MOST_READINGS.false) c.tries.invariant.none

pub returns-after-tries-clause-value : goal.returns-after-tries-clause-value
returns-after-tries-clause-value c =
    let ge = c.tries-test.false in
    found_none c.args.ending c.args.sights.now c.args.rest.now c.tries.leading c.requires.rest
    (λ lt. absurd (omega (arith, lt, ge))) c.tries.invariant.none
