use Rattle.std.proofs.Common.{◌≡◌, Err, inr, rules}
use Rattle.command_run.proofs.answering.open_two.Goals as goal

-- The second file can't be opened, and the first was.
pub returns-in_err-open-clause-hindered : goal.returns-in_err-open-clause-hindered
returns-in_err-open-clause-hindered g c =
    let is_its : c.from_residual-in_err-open.result ≡ Err c.in_err-open.field-0.0 =
    search rules in
    rw is_its (inr (
      (c.in_ok-first.first, c.in_ok-first.ensures.opened),
      c.in_err-open.ensures.hindered,
    ))
