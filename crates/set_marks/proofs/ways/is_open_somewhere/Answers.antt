use Rattle.std.proofs.Common.{◌≡◌, false, rules, sym, ◌∙◌, take, drop, arith}
use Rattle.set_marks.specs.Searching.{may_divide, seems_ended}
use Rattle.set_marks.proofs.Tries.{closed_by_last, none_more}
use Rattle.set_marks.proofs.ways.is_open_somewhere.Goals as goal

pub returns-then-not-seems_ended : goal.returns-then-not-seems_ended
returns-then-not-seems_ended c =
    let none : seems_ended c.args.ending c.args.rest.now ≡ false = search rules in
    closed_by_last c.args.ending c.args.rest.now none

pub tries-preserved : goal.tries-preserved
tries-preserved c =
    let rest = c.args.rest.now in
    let before = c.front.ensures in
    let after = c.rest_after.ensures in
    let lt = c.tries-test.true in
    record {
      closed = none_more (λ k. may_divide c.args.ending (take k rest) (drop k rest)) c.tries.leading
          c.tries.invariant.closed
          ((λ i. may_divide c.args.ending (sym before i) (sym after i)) ∙ sym c.may_divide.ensures
          ∙ c.if-may_divide.false);
      few = omega (arith, lt);
    }

pub returns-else-leading-le-MOST_READINGS : goal.returns-else-leading-le-MOST_READINGS
returns-else-leading-le-MOST_READINGS c = λ k lt le. c.tries.invariant.closed k
    (let over = c.if-leading-le-MOST_READINGS.false in omega (arith, over, le))

pub returns-after-tries : goal.returns-after-tries
returns-after-tries c = λ k lt le. c.tries.invariant.closed k
    (let ge = c.tries-test.false in omega (arith, ge, lt))
