use Rattle.std.proofs.Common.{arith, sym}
use Rattle.direction_table.proofs.Powers.{divisor-some, none-of, small-divisor, whole-of}
use Rattle.direction_table.proofs.gon.divided.Goals as goal

pub returns-then-power-gt-MOST_POWER-clause-value :
    goal.returns-then-power-gt-MOST_POWER-clause-value
returns-then-power-gt-MOST_POWER-clause-value c =
    sym (none-of c.args.value c.args.power c.requires c.if-power-gt-MOST_POWER.true)

pub returns-then-power-gt-MOST_POWER-clause-whole :
    goal.returns-then-power-gt-MOST_POWER-clause-whole
returns-then-power-gt-MOST_POWER-clause-whole c =
    whole-of c.args.value c.args.power c.requires c.if-power-gt-MOST_POWER.true

pub pow-divisor-requires : goal.pow-divisor-requires
pow-divisor-requires c = small-divisor c.args.power (omega (arith, c.if-power-gt-MOST_POWER.false))

pub nonzero_div-result : goal.nonzero_div-result
nonzero_div-result c = rw c.pow-divisor.ensures (divisor-some c.args.power)

pub nonzero_rem-result : goal.nonzero_rem-result
nonzero_rem-result c = rw c.pow-divisor.ensures (divisor-some c.args.power)
