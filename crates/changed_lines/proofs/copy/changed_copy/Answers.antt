use Rattle.std.proofs.Common.{rules, ℕ, ◌≡◌, ◌+◌, refl, subst}
use Rattle.std.specs.Prelude.{Result, Err, IfErr, Vec}
use Rattle.std.specs.Global.{Global}
use Rattle.changed_lines.specs.declared.fault.ChangeFault.{ChangeFault}
use Rattle.changed_lines.specs.Answers.{IsFault}
use Rattle.changed_lines.proofs.Walks.{numbered_goes, refused, ends_short}
use Rattle.changed_lines.proofs.copy.changed_copy.Goals as goal

pub lines-preserved : goal.lines-preserved
lines-preserved c =
    numbered_goes c.args.bytes.now c.args.changes.now c.lines.count (c.lines.count + 1)
    c.lines.rest.now c.lines.left.now c.in_ok-left-2.left.now c.lines.copy.items
    c.put_line.new.copy.items c.first_line-line.result refl c.lines.invariant
    c.first_line-line.ensures (search rules) c.in_ok-left-2.ensures.left
    c.in_ok-left-2.ensures.copy

pub returns-in_err-left-2-clause-fault : goal.returns-in_err-left-2-clause-fault
returns-in_err-left-2-clause-fault c =
    let same : Err c.in_err-left-2.field-0.0 ≡ c.from_residual-in_err-left-2.result =
    search rules in
    subst (λ (r : Result (Vec ℕ Global) ChangeFault). IfErr r
    (IsFault c.args.bytes.now c.args.changes.now))
    same
    (refused c.args.bytes.now c.args.changes.now c.lines.count (c.lines.count + 1)
    c.lines.rest.now c.lines.left.now c.lines.copy.items c.first_line-line.result
    c.in_err-left-2.field-0.0 refl c.lines.invariant c.first_line-line.ensures (search rules)
    c.in_err-left-2.ensures.fault)

pub returns-in-Some-clause-fault : goal.returns-in-Some-clause-fault
returns-in-Some-clause-fault c =
    ends_short c.args.bytes.now c.args.changes.now c.lines.count c.lines.rest.now
    c.lines.left.now c.lines.copy.items c.in-Some.change.now c.lines.invariant (search rules)
    (search rules)
