use Rattle.direction_table.proofs.Digits.{few-digits}
use Rattle.direction_table.proofs.decimal.few_digits.Goals as goal

pub returns-clause-bound : goal.returns-clause-bound
returns-clause-bound c = few-digits c.args.digits.now c.of_digits.result c.of_digits.ensures.value
    c.of_digits.ensures.some c.requires
