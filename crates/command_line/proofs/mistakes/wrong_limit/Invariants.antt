use Rattle.clap.specs.Words.{found_of}
use Rattle.command_line.proofs.MistakeLaws.{AreRightBefore}
use Rattle.command_line.proofs.mistakes.wrong_limit.Given as goal

abbrev pub invariant-loop-option : goal.invariant-loop-option
invariant-loop-option l = AreRightBefore (found_of l.found) l.option-index
