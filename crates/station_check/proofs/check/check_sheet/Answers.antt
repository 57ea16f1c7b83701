use Rattle.std.proofs.Common.{rules}
use Rattle.byte_ends.proofs.Coming.{came_so}
use Rattle.station_check.proofs.check.check_sheet.Goals as goal

pub returns-in_err-bytes-clause-checks : goal.returns-in_err-bytes-clause-checks
returns-in_err-bytes-clause-checks g c =
    came_so _ _ _ c.in_err-bytes.ensures.came (λ source came. search rules)

pub returns-in_err-sheet-clause-checks : goal.returns-in_err-sheet-clause-checks
returns-in_err-sheet-clause-checks g c =
    came_so _ _ _ c.in_ok-bytes.ensures.came (λ source came. search rules)

pub returns-clause-checks : goal.returns-clause-checks
returns-clause-checks g c =
    came_so _ _ _ c.in_ok-bytes.ensures.came (λ source came. search rules)
