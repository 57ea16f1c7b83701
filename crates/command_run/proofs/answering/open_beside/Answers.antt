use Rattle.std.proofs.Common.{◌≡◌, Err, inl, inr, rules}
use Rattle.command_run.proofs.answering.open_beside.Goals as goal

-- The station is hindered.
pub returns-in_err-station-clause-hindered : goal.returns-in_err-station-clause-hindered
returns-in_err-station-clause-hindered g c =
    let is_its : c.from_residual.result ≡ Err c.in_err-station.field-0.0 = search rules in
    rw is_its (inl c.in_err-station.ensures.hindered)

-- The table is hindered, and the station was opened and has its name.
pub returns-in_err-file-clause-hindered : goal.returns-in_err-file-clause-hindered
returns-in_err-file-clause-hindered g c =
    let is_its : c.from_residual-in_err-file.result ≡ Err c.in_err-file.field-0.0 =
    search rules in
    rw is_its (inr (
      c.in_ok-station.station,
      c.in_ok-station.ensures.opened,
      c.in_err-file.ensures.hindered,
    ))
