use Rattle.std.proofs.Common.{sym, ap, ◌∙◌}
use Rattle.std.specs.List.{list_any}
use Rattle.set_marks.specs.Divisions.{is_of}
use Rattle.set_marks.proofs.Asking.{any_front, end_here, on_true}
use Rattle.set_marks.proofs.division.ends_known.Goals as goal

pub returns-in-Some : goal.returns-in-Some
returns-in-Some c =
    let name = c.in-Some.last.now.target in
    on_true c.reads_target.result _
    (λ e. sym (end_here c.args.sets.now c.args.sights.now c.in-Some.field-0-1.now
    c.in-Some.last.now c.in-Some.ensures.cases.0 (any_front 200 (is_of name) c.args.sets.now
    (ap (λ l. list_any (is_of name) l) (sym c.front.ensures) ∙ sym c.reads_target.ensures ∙ e))))
