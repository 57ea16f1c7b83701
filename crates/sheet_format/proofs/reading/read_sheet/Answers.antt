use Rattle.sheet_format.proofs.OneAnswer.{answers-fault, answers-sheet}
use Rattle.sheet_format.proofs.reading.read_sheet.Goals as goal

pub returns-clause-stands : goal.returns-clause-stands
returns-clause-stands c s text = answers-sheet c.args.bytes.now c.read_rows.result
    c.read_rows.ensures.sheet c.read_rows.ensures.fault s text

pub returns-clause-refused : goal.returns-clause-refused
returns-clause-refused c f fault = answers-fault c.args.bytes.now c.read_rows.result
    c.read_rows.ensures.sheet c.read_rows.ensures.fault f fault
