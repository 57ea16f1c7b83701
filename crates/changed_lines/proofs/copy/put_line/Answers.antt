use Rattle.std.proofs.Common.{ap, sym, ◌∙◌, ◌++◌, ◌-◌}
use Rattle.changed_lines.specs.ChangedFile.{edited}
use Rattle.changed_lines.proofs.Walks.{none_waiting}
use Rattle.changed_lines.proofs.copy.put_line.Goals as goal

pub returns-in_ok-extend_from_slice-in-None-clause-copy :
    goal.returns-in_ok-extend_from_slice-in-None-clause-copy
returns-in_ok-extend_from_slice-in-None-clause-copy c =
    λ up. c.in_ok-extend_from_slice-in-None.ensures.items
    ∙ ap (λ e. c.args.copy.now.items ++ edited e c.args.line.now.whole.now)
    (sym (none_waiting c.args.number (c.args.number - 1) c.args.left.now
    c.in-None.ensures.waits up))
