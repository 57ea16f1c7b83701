use Rattle.sheet_format.proofs.LongNumbers.{long-outside}
use Rattle.sheet_format.proofs.number.Numeral.small_within.Goals as goal

pub returns-in-Long-clause-outside : goal.returns-in-Long-clause-outside
returns-in-Long-clause-outside c =
    let long = c.in-Long.field-0 in
    rw c.in-Long.is
    (long-outside c.args.low c.args.high long.field.now c.ranges.low c.ranges.high
    long.canonical long.long)
