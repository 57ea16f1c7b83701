use Rattle.station_results.proofs.LeastLaws.{are_adjusted}
use Rattle.station_results.proofs.adjusted.adjusted_observations.Goals as goal

pub returns-clause-adjusted : goal.returns-clause-adjusted
returns-clause-adjusted c =
    let a = c.in_ok-adjustment.adjustment in
    let e = c.in_ok-adjustment.ensures in
    let r = c.in_ok-adjusted_by.ensures in
    are_adjusted c.args.station.now r.valid a e.tied e.exact e.limited
    c.in_ok-adjusted_by.field-0.items r.observed r.each
