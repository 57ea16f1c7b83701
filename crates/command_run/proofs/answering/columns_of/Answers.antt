use Rattle.std.proofs.Common.{◌≡◌, Some, refl, rules}
use Rattle.command_line.specs.declared.request.ColumnsStated.TheVariants as stated_by
use Rattle.command_run.proofs.answering.columns_of.Goals as goal

-- The columns are those that have the titles.
pub returns-in_ok-pair-in-Some-Titles-clause-columns :
    goal.returns-in_ok-pair-in-Some-Titles-clause-columns
returns-in_ok-pair-in-Some-Titles-clause-columns g c =
    let titles : c.args.stated
    ≡ Some (stated_by.Titles c.in-Some-Titles.targets c.in-Some-Titles.directions) =
    search rules in
    rw titles
    (c.in_ok-pair-in-Some-Titles.pair, refl, c.in_ok-pair-in-Some-Titles.ensures.titled)
