use Rattle.std.proofs.Common.{map, string_bytes}
use Rattle.std.proofs.lemmas.Result.{IfOk-weaker}
use Rattle.clap.specs.Words.{app_of}
use Rattle.command_line.proofs.CommandsLaws.{fails_by, met_by}
use Rattle.command_line.proofs.asked.matches_of.Goals as goal

pub returns-clause-met : goal.returns-clause-met
returns-clause-met c =
    IfOk-weaker c.try_get_matches_from.result _ _
    (λ matches found.
    met_by (app_of c.in_ok-program.field-0) (map string_bytes c.args.words.now) matches
    c.in_ok-program.ensures.commands found)
    c.try_get_matches_from.ensures.matches

pub returns-clause-kinds : goal.returns-clause-kinds
returns-clause-kinds c =
    fails_by (app_of c.in_ok-program.field-0) (map string_bytes c.args.words.now)
    c.try_get_matches_from.result c.in_ok-program.ensures.commands
    c.try_get_matches_from.ensures.kinds
