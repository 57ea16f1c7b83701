use Rattle.std.proofs.Common.{refl, rules}
use Rattle.job_statements.proofs.NumberLaws.{adds_one, has_name_of}
use Rattle.job_statements.proofs.numbers.with_one.Goals as goal

pub returns-then-is_named-clause-why : goal.returns-then-is_named-clause-why
returns-then-is_named-clause-why c = (
  refl,
  refl,
  λ numbers holds. has_name_of c.args.name numbers c.args.stated holds (search rules),
)

pub returns-in-Ok-clause-added : goal.returns-in-Ok-clause-added
returns-in-Ok-clause-added c =
    λ numbers holds.
    adds_one numbers c.args.stated c.args.name c.args.number c.push.new.self.items holds
    (search rules) (search rules)
