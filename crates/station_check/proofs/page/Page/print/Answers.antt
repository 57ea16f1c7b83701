use Rattle.byte_ends.specs.Sink.{AppendsSome}
use Rattle.station_check.proofs.Partway.{cut_at_once, in_any_case, some_of_room, some_of_waiting}
use Rattle.station_check.proofs.Partway.{written_at_once}
use Rattle.station_check.proofs.page.Page.print.Goals as goal

pub returns-in_err-write_out-clause-cut_short : goal.returns-in_err-write_out-clause-cut_short
returns-in_err-write_out-clause-cut_short g c =
    in_any_case c.from_residual.result
    (some_of_waiting _ _ _ c.args.bytes.now c.in_err-write_out.ensures.cut_short)

pub returns-then-bytes-gt-PAGE-clause-ok : goal.returns-then-bytes-gt-PAGE-clause-ok
returns-then-bytes-gt-PAGE-clause-ok g c =
    written_at_once c.write_all.result _ _ _ _ _ c.args.bytes.now c.in_ok-write_out.ensures.ok
    c.in_ok-write_out.ensures.empty c.write_all.ensures.ok

pub returns-then-bytes-gt-PAGE-clause-cut_short : goal.returns-then-bytes-gt-PAGE-clause-cut_short
returns-then-bytes-gt-PAGE-clause-cut_short g c =
    cut_at_once c.write_all.result _ _ _ _ c.args.bytes.now c.in_ok-write_out.ensures.ok
    c.write_all.ensures.cut_short

pub returns-in_err-make_room-clause-cut_short : goal.returns-in_err-make_room-clause-cut_short
returns-in_err-make_room-clause-cut_short g c =
    in_any_case c.from_residual-in_err-make_room.result
    (some_of_room _ _ _ c.args.bytes.now c.in_err-make_room.ensures.cut_short)
