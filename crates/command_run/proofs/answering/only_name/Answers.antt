use Rattle.std.proofs.Common.{◌≡◌, Err, inl, inr, refl, rules}
use Rattle.command_run.proofs.answering.only_name.Goals as goal

-- The only station has its name.
pub returns-in-Ok-clause-named : goal.returns-in-Ok-clause-named
returns-in-Ok-clause-named g c = (
  c.in_ok-file.file,
  c.in_ok-file.ensures.opened,
  rw c.in-Ok.is at c.only_station.ensures,
)

-- Its file is refused.
pub returns-in-Err-clause-hindered : goal.returns-in-Err-clause-hindered
returns-in-Err-clause-hindered g c = inr (
  refl,
  (c.in_ok-file.file, c.in_ok-file.ensures.opened, rw c.in-Err.is at c.only_station.ensures),
)

-- It can't be opened.
pub returns-in_err-file-clause-hindered : goal.returns-in_err-file-clause-hindered
returns-in_err-file-clause-hindered g c =
    let is_its : c.from_residual.result ≡ Err c.in_err-file.field-0.0 = search rules in
    rw is_its (inl c.in_err-file.ensures.hindered)
