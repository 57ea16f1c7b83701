use Rattle.std.proofs.Common.{rules, take, ◌+◌}
use Rattle.changed_lines.proofs.SaidChanges.{unnamed, unnumbered, nameless, around}
use Rattle.changed_lines.proofs.SaidChanges.{take_rest}
use Rattle.changed_lines.proofs.saying.change_in.Goals as goal

pub returns-in_err-line_in-in-None-clause-none : goal.returns-in_err-line_in-in-None-clause-none
returns-in_err-line_in-in-None-clause-none c =
    rw c.from_residual.ensures (unnamed c.args.text.now (search rules)
    c.in_err-line_in-in-None.ensures.none)

pub returns-in_err-line_in-in-Some-clause-none : goal.returns-in_err-line_in-in-Some-clause-none
returns-in_err-line_in-in-Some-clause-none c =
    rw c.from_residual-in_err-line_in-in-Some.ensures (unnumbered c.args.text.now c.in-Some.at
    (search rules) c.in_err-line_in-in-Some.ensures.none)

pub returns-in_err-new-in-Some-clause-none : goal.returns-in_err-new-in-Some-clause-none
returns-in_err-new-in-Some-clause-none c =
    rw c.from_residual-in_err-new-in-Some.ensures (nameless c.args.text.now c.in-Some.at
    (search rules) (rw (take_rest (c.in-Some.at + 1) c.args.text.now)
    at c.in_err-new-in-Some.ensures.none))

pub returns-in_ok-new-in-Some-clause-some : goal.returns-in_ok-new-in-Some-clause-some
returns-in_ok-new-in-Some-clause-some c = (
  take c.in-Some.at c.args.text.now,
  (rw (c.in_ok-new-in-Some.ensures.some, take_rest (c.in-Some.at + 1) c.args.text.now)
      (around 61 c.args.text.now c.in-Some.at (search rules))),
  c.in_ok-line_in-in-Some.ensures.some,
  c.in_ok-new-in-Some.ensures.valid,
)
