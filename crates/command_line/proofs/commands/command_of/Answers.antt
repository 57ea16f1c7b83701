use Rattle.command_line.specs.Commands.{words_of}
use Rattle.command_line.proofs.CommandsLaws.{adds_argument}
use Rattle.command_line.proofs.commands.command_of.Goals as goal

pub loop-argument-preserved : goal.loop-argument-preserved
loop-argument-preserved c =
    adds_argument (words_of c.args.subcommand).name c.arguments-arguments.result.now
    c.loop-argument.argument-index c.loop-argument.command c.in_ok-command.command
    c.with_help.result c.loop-argument-test.true c.in_ok-command.ensures c.loop-argument.invariant
    c.with_help.ensures
