use Rattle.std.proofs.Common.{sym, ◌∙◌}
use Rattle.set_marks.specs.Searching.{may_divide}
use Rattle.set_marks.proofs.Tries.{closed_at}
use Rattle.set_marks.proofs.ways.is_division.Goals as goal

pub returns-then-not-may_divide-clause-value : goal.returns-then-not-may_divide-clause-value
returns-then-not-may_divide-clause-value c =
    let rest = c.args.rest.now in
    let before = c.front-before.ensures in
    let after = c.rest_after-after.ensures in
    closed_at c.args.ending c.args.sights.now rest c.args.leading c.requires.rest c.requires.few
    ((λ i. may_divide c.args.ending (sym before i) (sym after i)) ∙ sym c.may_divide.ensures
    ∙ c.if-not-may_divide.true)
