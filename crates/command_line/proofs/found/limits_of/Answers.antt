use Rattle.std.proofs.Common.{arith}
use Rattle.clap.specs.Words.{found_of}
use Rattle.command_line.proofs.LimitLaws.{no-limits}
use Rattle.command_line.proofs.found.limits_of.Goals as goal

pub returns-in_err-two_c-clause-none : goal.returns-in_err-two_c-clause-none
returns-in_err-two_c-clause-none c =
    rw c.from_residual.ensures
    (λ limits states are.
    let far = c.in_err-two_c.ensures.none limits.two_c states.two_c in
    omega (arith, far, are.two_c))

pub returns-in_err-two_i-clause-none : goal.returns-in_err-two_i-clause-none
returns-in_err-two_i-clause-none c =
    rw c.from_residual-in_err-two_i.ensures
    (λ limits states are.
    let far = c.in_err-two_i.ensures.none limits.two_i states.two_i in
    omega (arith, far, are.two_i))

pub returns-clause-none : goal.returns-clause-none
returns-clause-none c =
    no-limits (found_of c.args.found.now) c.in_ok-two_c.two_c c.in_ok-two_i.two_i c.new.result
    c.in_ok-two_c.ensures.stated c.in_ok-two_i.ensures.stated c.new.ensures.none
