use Rattle.std.proofs.Common.{refl, rules}
use Rattle.job_statements.proofs.NumberLaws.{adds_each, has_each_of}
use Rattle.job_statements.proofs.numbers.with_each.Goals as goal

pub returns-in-None-clause-added : goal.returns-in-None-clause-added
returns-in-None-clause-added c =
    λ numbers holds. adds_each numbers c.args.stated c.args.number holds (search rules)

pub returns-in-Some-clause-why : goal.returns-in-Some-clause-why
returns-in-Some-clause-why c = (
  refl,
  refl,
  λ numbers holds. has_each_of numbers c.args.stated c.in-Some.field-0 holds (search rules),
)
