use Rattle.std.proofs.Common.{◌≡◌, true, Some, ap, sym, ◌∙◌}
use Rattle.set_marks.specs.Visits.{is_read_so}
use Rattle.set_marks.proofs.VisitNames.{read_as}
use Rattle.set_marks.proofs.visits.read_so.Goals as goal

pub returns-then-is_same : goal.returns-then-is_same
returns-then-is_same c =
    let same = c.in_ok-name.ensures.some in
    let read : is_read_so c.args.bytes.now ≡ true =
    read_as c.args.bytes.now c.in_ok-name.name c.bare_name.result same c.in_ok-name.ensures.valid
    c.bare_name.ensures ∙ sym c.is_same.ensures.value ∙ c.if-is_same.true in
    rw read (ap Some same)
