use Rattle.std.proofs.Common.{map, take}
use Rattle.job_statements.specs.StatedNumbers.{IsStatedBy}
use Rattle.job_statements.proofs.numbers.numbers_of.Given as goal

abbrev pub invariant-loop-text : goal.invariant-loop-text
invariant-loop-text l =
    IsStatedBy l.largest (map (λ text. text.now) (take l.text-index l.texts)) l.stated
