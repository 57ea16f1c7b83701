use Rattle.std.proofs.Common.{ap, Some}
use Rattle.station_check.proofs.Coming.{promise_as_told}
use Rattle.station_check.proofs.check.check_slices.Goals as goal

pub returns-clause-promise : goal.returns-clause-promise
returns-clause-promise c =
    promise_as_told c.args.limits c.args.limit _ _ c.check_bytes.result c.check_bytes.ensures.1
    _ _ (ap Some c.source_of.ensures) (ap Some c.source_of-2.ensures)

pub returns-clause-of_check : goal.returns-clause-of_check
returns-clause-of_check c = c.check_bytes.ensures.1.of_check
