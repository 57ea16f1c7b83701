use Rattle.std.proofs.Common.{◌+◌, ◌*◌, arith}
use Rattle.station_results.proofs.ResidualLaws.{way_is}
use Rattle.station_results.proofs.residual.adjusted_direction.Goals as goal

pub returns : goal.returns
returns c =
    way_is c.args.value c.args.lifted_residual
    (5_000 * c.from.result + 1_000 * c.args.lifted_residual + 399_990_000_000)
    (omega (arith, c.from.ensures))
