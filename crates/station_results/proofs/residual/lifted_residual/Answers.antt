use Rattle.std.proofs.Common.{◌≡◌, ◌+◌, ◌*◌, arith, pos, FitsSigned}
use Rattle.std.proofs.Math.IntN.{◌-ℤ◌}
use Rattle.std.proofs.lemmas.Int.{ints, to_z-of_z}
use mir.Syntax.{w8}
use Rattle.adjust_kernel.specs.Pairs.{turned_by}
use Rattle.adjust_kernel.specs.Residuals.{residual}
use Rattle.exact_adjustment.specs.Adjustments.{choice_by}
use Rattle.station_results.proofs.ResidualLaws.{few_parts, rounded_is, some_left}
use Rattle.station_results.proofs.residual.lifted_residual.Goals as goal
use Rattle.station_results.proofs.residual.lifted_residual.Goals.{After-subtract}

pub subtract-requires : goal.subtract-requires
subtract-requires c =
    let a = c.args.adjustment.now in
    let turn_low = c.requires.turn.low in
    let turn_high = c.requires.turn.high in
    let fits : FitsSigned w8 c.args.turn = omega (arith, ints, turn_low, turn_high) in
    let sides = rw (to_z-of_z w8 c.args.turn fits) at c.sides-first.ensures.residual in
    let left = some_left a.denominator c.sides-first.result.0 c.sides-first.result.1
    (residual (choice_by a) (turned_by c.args.obs.now c.args.turn)) sides
    c.requires.limited.low in
    omega (
      arith,
      left,
      c.times.ensures,
      c.times-halves.ensures,
      c.add_product.ensures,
      c.denominator-denominator.ensures.value,
    )

-- The residual, by its sides.
sides_are : (c : After-subtract) → (pos c.sides-first.result.0 -ℤ pos c.sides-first.result.1)
    ≡ residual (choice_by c.args.adjustment.now) (turned_by c.args.obs.now c.args.turn)
sides_are c =
    let low = c.requires.turn.low in
    let high = c.requires.turn.high in
    let fits : FitsSigned w8 c.args.turn = omega (arith, ints, low, high) in
    rw (to_z-of_z w8 c.args.turn fits) at c.sides-first.ensures.residual

-- The parts that are divided.
parts_are : (c : After-subtract) → c.subtract.new.self + 10 * c.sides-first.result.1
    ≡ 10 * c.sides-first.result.0 + 20_001 * c.args.adjustment.now.denominator
parts_are c = omega (
  arith,
  c.subtract.ensures,
  c.times.ensures,
  c.times-halves.ensures,
  c.add_product.ensures,
  c.denominator-denominator.ensures.value,
)

pub quotient-requires-clause-below : goal.quotient-requires-clause-below
quotient-requires-clause-below c =
    let left = (goal.at.quotient-requires-clause-below c).After-subtract in
    let few = few_parts c.args.adjustment.now.denominator c.sides-first.result.0
    c.sides-first.result.1 c.subtract.new.self
    (residual (choice_by c.args.adjustment.now) (turned_by c.args.obs.now c.args.turn))
    c.denominator-denominator.ensures.valid.positive (sides_are left) c.requires.limited.high
    (parts_are left) in
    omega (arith, few, c.times-2.ensures, c.denominator-denominator.ensures.value)

pub returns-clause-rounded : goal.returns-clause-rounded
returns-clause-rounded c =
    let left = (goal.at.returns-clause-rounded c).After-subtract in
    let unit : c.times-2.result ≡ c.args.adjustment.now.denominator * 2 =
    omega (arith, c.times-2.ensures, c.denominator-denominator.ensures.value) in
    rounded_is (choice_by c.args.adjustment.now) (turned_by c.args.obs.now c.args.turn)
    c.quotient.result c.sides-first.result.0 c.sides-first.result.1 c.subtract.new.self
    (sides_are left) (parts_are left)
    (rw unit at c.quotient.ensures.low) (rw unit at c.quotient.ensures.high)
