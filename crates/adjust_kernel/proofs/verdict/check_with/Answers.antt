use Rattle.std.proofs.Common.{Result, Ok, Err, Option, ℕ}
use Rattle.std.specs.Prelude.{OnOk}
use Rattle.adjust_kernel.specs.declared.accepted.Accepted.{Accepted}
use Rattle.adjust_kernel.specs.declared.kernel_fault.KernelFault.{KernelFault}
use Rattle.adjust_kernel.specs.Matching.{Matches}
use Rattle.adjust_kernel.specs.Sheets.{SheetValue}
use Rattle.adjust_kernel.specs.Stations.{StationValue}
use Rattle.adjust_kernel.specs.Verdict.{IsVerdict}
use Rattle.adjust_kernel.proofs.VerdictLaws.{only_one_verdict, matches_where_accepted}
use Rattle.adjust_kernel.proofs.VerdictSquares.{tells_of_squares}
use Rattle.adjust_kernel.proofs.verdict.check_with.Goals as goal

-- What is accepted is of the station.
matches_on_ok : (station : StationValue) (sheet : SheetValue) (limit : Option ℕ)
    (result : Result Accepted KernelFault) → IsVerdict station sheet limit result
    → OnOk result (Matches station sheet)
matches_on_ok station sheet limit (Ok accepted) v =
    matches_where_accepted station sheet limit accepted v
matches_on_ok station sheet limit (Err fault) v = tt

pub returns : goal.returns
returns g c =
    let station = c.args.station.now in
    let sheet = c.args.sheet.now in
    let limit = c.args.limit in
    let of = c.verdict_of.ensures in
    record {
      verdict = of.verdict;
      no_other_verdict = λ other stands.
          only_one_verdict station sheet limit c.verdict_of.result other of.verdict stands;
      matches = matches_on_ok station sheet limit c.verdict_of.result of.verdict;
      squares = tells_of_squares station sheet of.valid_station of.valid_sheet limit
          c.verdict_of.result of.valid_limit of.verdict;
    }
