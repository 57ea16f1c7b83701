use Rattle.std.proofs.Common.{◌≡◌, ◌∙◌, ap, arith}
use Rattle.command_line.proofs.CommandsLaws.{adds_next, program_with}
use Rattle.command_line.proofs.commands.program.Goals as goal

pub loop-subcommand-init : goal.loop-subcommand-init
loop-subcommand-init c = c.bare_program-program.ensures

pub loop-subcommand-preserved : goal.loop-subcommand-preserved
loop-subcommand-preserved c =
    adds_next c.loop-subcommand.subcommand-index c.loop-subcommand.program
    c.in_ok-command_of.field-0 c.in_ok-program.program c.in_ok-program.ensures
    c.loop-subcommand.invariant c.in_ok-command_of.ensures.words

pub returns-clause-commands : goal.returns-clause-commands
returns-clause-commands c =
    let all : c.loop-subcommand.subcommand-index ≡ 11 = omega arith in
    c.loop-subcommand.invariant ∙ ap program_with all
