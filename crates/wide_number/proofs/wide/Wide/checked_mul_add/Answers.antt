use Rattle.std.proofs.Common.{rules, arith}
use Rattle.wide_number.specs.Limbs.{WIDE_LIMIT}
use Rattle.wide_number.proofs.LimbLaws.{carried}
use Rattle.wide_number.proofs.wide.Wide.checked_mul_add.Goals as goal

pub returns-then-carry-eq0-clause-fits : goal.returns-then-carry-eq0-clause-fits
unfolding WIDE_LIMIT
returns-then-carry-eq0-clause-fits c = search rules

pub returns-else-carry-eq0-clause-none : goal.returns-else-carry-eq0-clause-none
unfolding WIDE_LIMIT
returns-else-carry-eq0-clause-none c = grind (arith, carried)
