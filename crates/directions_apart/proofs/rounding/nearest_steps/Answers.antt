use Rattle.std.proofs.Common.{◌≤◌, ◌<◌, ◌+◌, ◌*◌, ◌/◌, arith}
use Rattle.std.proofs.Math.Nat.{mul-le-mul, mul-le-mul_left}
use Rattle.directions_apart.proofs.rounding.nearest_steps.Goals as goal

pub quotient-requires-clause-below : goal.quotient-requires-clause-below
quotient-requires-clause-below c =
    let d = c.args.denominator.now in
    let step = c.args.step in
    let over : 400_000_000_000 ≤ step * (400_000_000_000 / step + 1) =
    omega (arith, c.requires.step) in
    let some = mul-le-mul c.requires.some c.requires.step in
    rw (c.add_product.ensures, c.times-twice.ensures, c.times.ensures, c.from-step.ensures)
    (omega (arith, mul-le-mul_left d over, c.requires.direction))

pub quotient-requires-clause-fits : goal.quotient-requires-clause-fits
quotient-requires-clause-fits c =
    let d = c.args.denominator.now in
    let step = c.args.step in
    let step_fits : step < 4_294_967_296 = c.ranges.step.fits in
    let most : 2 * step * (400_000_000_000 / step + 2) ≤ 65_000_000_000_000 = omega arith in
    rw (c.times.ensures, c.from-step.ensures)
    (omega (arith, mul-le-mul_left d most, c.requires.fits))

pub returns-clause-low : goal.returns-clause-low
returns-clause-low c =
    let low = rw (
      c.add_product.ensures,
      c.times-twice.ensures,
      c.times.ensures,
      c.from-step.ensures,
    ) at c.quotient.ensures.low in
    omega arith

pub returns-clause-high : goal.returns-clause-high
returns-clause-high c =
    let high = rw (
      c.add_product.ensures,
      c.times-twice.ensures,
      c.times.ensures,
      c.from-step.ensures,
    ) at c.quotient.ensures.high in
    omega arith
