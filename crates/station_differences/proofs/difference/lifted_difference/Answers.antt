use Rattle.std.proofs.Common.{◌≡◌, ◌+◌, ◌*◌, arith}
use Rattle.station_differences.proofs.MiddleLaws.{rounded_is}
use Rattle.station_differences.proofs.difference.lifted_difference.Goals as goal

pub returns-clause-rounded : goal.returns-clause-rounded
returns-clause-rounded c =
    let d = c.args.denominator.now in
    let sum : c.add_product.new.self + c.args.spread.now
    ≡ 2 * c.args.way.now + d * 32_400_000_081_000 =
    omega (arith, c.subtract.ensures, c.add_product.ensures, c.times-twice.ensures) in
    let unit : c.times.result ≡ d * 162_000 = omega (arith, c.times.ensures) in
    rounded_is d c.args.way.now c.args.spread.now c.quotient.result c.add_product.new.self sum
    (rw unit at c.quotient.ensures.low) (rw unit at c.quotient.ensures.high)
