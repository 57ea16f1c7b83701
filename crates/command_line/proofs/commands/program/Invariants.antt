use Rattle.std.proofs.Common.{◌≡◌}
use Rattle.clap.specs.Words.{app_of}
use Rattle.command_line.proofs.CommandsLaws.{program_with}
use Rattle.command_line.proofs.commands.program.Given as goal

abbrev pub invariant-loop-subcommand : goal.invariant-loop-subcommand
invariant-loop-subcommand l = app_of l.program ≡ program_with l.subcommand-index
