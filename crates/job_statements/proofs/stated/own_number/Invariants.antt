use Rattle.std.proofs.Common.{◌≡◌, length}
use Rattle.job_statements.specs.Numbers.{own_number}
use Rattle.job_statements.proofs.stated.own_number.Given as goal

abbrev pub invariant-numbers : goal.invariant-numbers
invariant-numbers l =
    own_number l.left l.name ≡ own_number l.numbers l.name

abbrev pub decreases-numbers : goal.decreases-numbers
decreases-numbers l = length l.left
