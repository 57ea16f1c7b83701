use Rattle.std.proofs.Common.{◌∙◌}
use Rattle.least_directions.proofs.LeastLaws.{are_rounded, each_whole, first_rounded}
use Rattle.least_directions.proofs.rounded.rounded_by.Goals as goal

pub returns-clause-rounded : goal.returns-clause-rounded
returns-clause-rounded c =
    let r = c.requires in
    let made = c.in_ok-directions in
    are_rounded c.args.station.now c.obs.ensures.valid c.args.adjustment.now r.tied r.exact r.limited
    c.args.step made.directions.items r.some (made.ensures.count ∙ r.exact.each_target)
    made.ensures.each

pub returns-clause-first : goal.returns-clause-first
returns-clause-first c =
    let r = c.requires in
    let made = c.in_ok-directions in
    first_rounded c.args.station.now c.args.adjustment.now c.args.step made.directions.items r.exact
    r.some r.circle made.ensures.each

pub returns-clause-whole : goal.returns-clause-whole
returns-clause-whole c =
    let made = c.in_ok-directions in
    each_whole c.args.adjustment.now c.args.step made.directions.items made.ensures.each
