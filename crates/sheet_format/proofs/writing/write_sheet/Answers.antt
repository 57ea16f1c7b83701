use Rattle.sheet_format.proofs.TextAgain.{text-again}
use Rattle.sheet_format.proofs.writing.write_sheet.Goals as goal

pub returns-in_err-text-clause-stands : goal.returns-in_err-text-clause-stands
returns-in_err-text-clause-stands g c = text-again c.args.sheet.now c.sheet_text.ensures.valid

pub returns-in_err-write_all-clause-stands : goal.returns-in_err-write_all-clause-stands
returns-in_err-write_all-clause-stands g c = text-again c.args.sheet.now c.sheet_text.ensures.valid

pub returns-in_err-flush-clause-stands : goal.returns-in_err-flush-clause-stands
returns-in_err-flush-clause-stands g c = text-again c.args.sheet.now c.sheet_text.ensures.valid

pub returns-clause-stands : goal.returns-clause-stands
returns-clause-stands g c = text-again c.args.sheet.now c.sheet_text.ensures.valid
