use Rattle.std.proofs.Common.{◌≡◌, Err, inl, inr, rules}
use Rattle.command_run.proofs.answering.columns_titled.Goals as goal

-- The columns have their titles.
pub returns-in-Ok-clause-titled : goal.returns-in-Ok-clause-titled
returns-in-Ok-clause-titled g c = (
  c.in_ok-file.file,
  c.titled_columns.new.table,
  c.in_ok-file.ensures.opened,
  rw (c.in-Ok.is, c.as_bytes.ensures.value, c.as_bytes-2.ensures.value)
      at c.titled_columns.ensures.tells,
)

-- The table is refused.
pub returns-clause-hindered : goal.returns-clause-hindered
returns-clause-hindered g c = inr (
  c.in_ok-file.file,
  c.titled_columns.new.table,
  c.in_ok-file.ensures.opened,
  rw (c.in-Err.is, c.as_bytes.ensures.value, c.as_bytes-2.ensures.value)
      at c.titled_columns.ensures.tells,
)

-- It can't be opened.
pub returns-in_err-file-clause-hindered : goal.returns-in_err-file-clause-hindered
returns-in_err-file-clause-hindered g c =
    let is_its : c.from_residual.result ≡ Err c.in_err-file.field-0.0 = search rules in
    rw is_its (inl c.in_err-file.ensures.hindered)
