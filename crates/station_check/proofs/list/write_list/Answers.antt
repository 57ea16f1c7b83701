use Rattle.std.proofs.Common.{◌≡◌, Err, rules}
use Rattle.byte_ends.specs.Writers.{writer_change}
use Rattle.byte_ends.specs.Source.{reader_change}
use Rattle.station_check.proofs.Counted.{list_alone, refusal_alone}
use Rattle.station_check.proofs.list.write_list.Goals as goal

pub returns : goal.returns
returns g c =
    let run = rw c.in_ok-write_noted_list.was at c.write_noted_list.ensures in
    (run.0, list_alone _ _ c.in_ok-write_noted_list.field-0 _ run.1)

pub returns-in_err-write_noted_list : goal.returns-in_err-write_noted_list
returns-in_err-write_noted_list g c =
    let fault = c.in_err-write_noted_list.field-0.0 in
    let is_its : c.from_residual.result ≡ Err fault = search rules in
    let run = rw c.in_err-write_noted_list.was at c.write_noted_list.ensures in
    rw is_its (run.0, refusal_alone _ _ fault _ run.1)
