use Rattle.std.proofs.Common.{◌≡◌, Err, inl, inr, rules}
use Rattle.command_run.proofs.answering.open_table_of_all.Goals as goal

-- The stations are hindered.
pub returns-in_err-stations-clause-hindered : goal.returns-in_err-stations-clause-hindered
returns-in_err-stations-clause-hindered g c =
    let is_its : c.from_residual.result ≡ Err c.in_err-stations.field-0.0 = search rules in
    rw is_its (inl c.in_err-stations.ensures.hindered)

-- The table is hindered, and the field file was opened.
pub returns-in_err-file-clause-hindered : goal.returns-in_err-file-clause-hindered
returns-in_err-file-clause-hindered g c =
    let is_its : c.from_residual-in_err-file.result ≡ Err c.in_err-file.field-0.0 =
    search rules in
    rw is_its (inr (
      (c.in_ok-stations.stations.gsi, c.in_ok-stations.ensures.opened.0),
      c.in_err-file.ensures.hindered,
    ))
