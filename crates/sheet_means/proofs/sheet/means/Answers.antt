use Rattle.sheet_means.proofs.OnlyLaws.{same_sheet}
use Rattle.sheet_means.proofs.sheet.means.Goals as goal

pub returns-clause-only : goal.returns-clause-only
returns-clause-only c = λ other means. same_sheet c.args.station.now other c.sheet_of.result means
    c.sheet_of.ensures.sheet
