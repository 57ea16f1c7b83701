use Rattle.std.proofs.Common.{arith}
use Rattle.clap.specs.Words.{found_of}
use Rattle.command_line.proofs.MistakeLaws.{next-right, place-small}
use Rattle.command_line.proofs.mistakes.wrong_limit.Goals as goal

pub loop-option-preserved : goal.loop-option-preserved
loop-option-preserved c =
    next-right (found_of c.args.found.now) c.loop-option.option-index c.loop-option.invariant
    c.in_default.ensures.none

pub returns-clause-none : goal.returns-clause-none
returns-clause-none c =
    λ option. c.loop-option.invariant option (omega (arith, place-small option))
