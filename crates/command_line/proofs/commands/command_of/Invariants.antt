use Rattle.std.proofs.Common.{◌≡◌}
use Rattle.clap.specs.Words.{app_of}
use Rattle.command_line.specs.Commands.{words_of}
use Rattle.command_line.proofs.CommandsLaws.{command_with}
use Rattle.command_line.proofs.commands.command_of.Given as goal

abbrev pub invariant-loop-argument : goal.invariant-loop-argument
invariant-loop-argument l =
    app_of l.command
    ≡ command_with (words_of l.fn.subcommand).name l.arguments l.argument-index
