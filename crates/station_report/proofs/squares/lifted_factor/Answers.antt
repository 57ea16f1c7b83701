use Rattle.std.proofs.Common.{◌≡◌, ◌∙◌, ap, arith, pos, ◌+ℤ◌, FitsSigned, w8}
use Rattle.std.proofs.Math.IntN.{◌*ℤ◌, ◌-ℤ◌}
use Rattle.std.proofs.lemmas.Int.{ints, to_z-of_z}
use Rattle.adjust_kernel.specs.Pairs.{turned_by}
use Rattle.adjust_kernel.specs.Residuals.{unrolled}
use Rattle.adjust_kernel.specs.Within.{IsWithin}
use Rattle.station_report.proofs.SquareLaws.{factor_is_small}
use Rattle.station_report.proofs.squares.lifted_factor.Goals as goal
use Rattle.station_report.proofs.squares.lifted_factor.Goals.{After-lifted}

-- The observation with its full turns, lifted.
lifted_is : (c : After-lifted) → pos c.lifted.result
    ≡ unrolled (turned_by c.args.obs.now c.args.turn) +ℤ pos 720_000_000
lifted_is c =
    let low = c.requires.turn.low in
    let high = c.requires.turn.high in
    let fits : FitsSigned w8 c.args.turn = omega (arith, ints, low, high) in
    c.lifted.ensures.value
    ∙ ap (λ z. (pos c.args.obs.now.value +ℤ pos 80_000_000 *ℤ z) +ℤ pos 720_000_000)
    (to_z-of_z w8 c.args.turn fits)

-- The factor that is near the residual is as small.
small : (c : After-lifted) → IsWithin (pos 2_000) (pos c.args.direction
    -ℤ pos c.args.orientation -ℤ unrolled (turned_by c.args.obs.now c.args.turn))
small c =
    factor_is_small c.args.adjustment.now c.args.obs.now c.args.turn c.args.direction
    c.args.orientation c.requires.direction c.requires.orientation c.requires.limited

pub overflow_sub-result : goal.overflow_sub-result
overflow_sub-result c =
    let here = (goal.at.overflow_sub-result c).After-lifted in
    omega (arith, ints, lifted_is here, (small here).low)

pub returns-clause-value : goal.returns-clause-value
returns-clause-value c =
    let here = (goal.at.returns-clause-value c).After-lifted in
    omega (arith, ints, lifted_is here, (small here).low)

pub returns-clause-bound : goal.returns-clause-bound
returns-clause-bound c =
    let here = (goal.at.returns-clause-bound c).After-lifted in
    omega (arith, ints, lifted_is here, (small here).low, (small here).high)
