use Rattle.exact_adjustment.proofs.TieLaws.{divided_is_untied, tied_by_rows}
use Rattle.exact_adjustment.proofs.adjusting.adjust.Goals as goal

pub returns-then-not-is_connected-clause-fault : goal.returns-then-not-is_connected-clause-fault
returns-then-not-is_connected-clause-fault c =
    let station = c.args.station.now in
    let divided = rw (c.sets.ensures.value, c.targets.ensures.value, c.obs.ensures.value)
    at c.if-not-is_connected.ensures.divided in
    divided_is_untied station divided

pub adjust_tied-requires : goal.adjust_tied-requires
adjust_tied-requires c =
    let station = c.args.station.now in
    let connected = rw (c.sets.ensures.value, c.targets.ensures.value, c.obs.ensures.value)
    at c.if-not-is_connected.ensures.connected in
    tied_by_rows station connected
