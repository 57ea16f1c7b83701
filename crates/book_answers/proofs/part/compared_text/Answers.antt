use Rattle.std.proofs.Common.{◌≡◌, Err, rules}
use Rattle.book_answers.proofs.part.compared_text.Goals as goal

pub returns-in_err-noted-clause-text : goal.returns-in_err-noted-clause-text
returns-in_err-noted-clause-text c =
    let fault = c.in_err-noted.field-0.0 in
    let is_its : c.from_residual.result ≡ Err fault = search rules in
    rw is_its (c.in_err-noted.ensures.tells c.args.asked.within)
