use Rattle.std.proofs.Common.{◌≡◌, List, ◌∷◌, ◌++◌, ap, sym, subst, ◌∙◌, rules, length}
use Rattle.set_marks.specs.declared.mark.Mark.{Mark}
use Rattle.set_marks.specs.Copies.{woven, AreOrdered}
use Rattle.set_marks.specs.Marks.{line_of}
use Rattle.station_check.proofs.Partway.{in_any_case, partway_then, partway_then_some}
use Rattle.station_mark.proofs.Copying.{next_piece, last_piece, whole_printed, part_printed}
use Rattle.station_mark.proofs.copy.print_copy.Goals as goal

pub marks-preserved : goal.marks-preserved
marks-preserved g c =
    let split : c.marks.left.now ≡ c.in-Some.mark.now ∷ c.in-Some.rest.now = search rules in
    let line : line_of c.in-Some.mark.now ≡ c.as_slice.result.now =
    sym (c.as_slice.ensures.value ∙ c.code_line.ensures) in
    let ordered : AreOrdered c.marks.from (length c.args.bytes.now)
    (c.in-Some.mark.now ∷ c.in-Some.rest.now) =
    subst (λ (ms : List Mark). AreOrdered c.marks.from (length c.args.bytes.now) ms) split
    c.marks.invariant.ordered in
    record {
      text = partway_then _ _ _ _ _ _ _ _ _ _
          (partway_then _ _ _ _ _ _ _ _ _ _ c.marks.invariant.text c.in_ok-print.ensures.ok
          (next_piece c.marks.from c.args.bytes.now c.marks.left.now _ _ split))
          c.in_ok-print-2.ensures.ok
          (ap (λ (t : List _). t ++ woven c.in-Some.mark.now.at c.args.bytes.now c.in-Some.rest.now)
          line);
      ordered = ordered.3;
      failed = c.in_ok-print-2.ensures.failed ∙ c.in_ok-print.ensures.failed
          ∙ c.marks.invariant.failed;
    }

pub returns-in_err-print-clause-cut_short : goal.returns-in_err-print-clause-cut_short
returns-in_err-print-clause-cut_short g c =
    let split : c.marks.left.now ≡ c.in-Some.mark.now ∷ c.in-Some.rest.now = search rules in
    in_any_case c.from_residual.result
    (partway_then_some _ _ _ _ _ _ _ _ _ c.marks.invariant.text c.in_err-print.ensures.cut_short
    (next_piece c.marks.from c.args.bytes.now c.marks.left.now _ _ split))

pub returns-in_err-print-2-clause-cut_short : goal.returns-in_err-print-2-clause-cut_short
returns-in_err-print-2-clause-cut_short g c =
    let split : c.marks.left.now ≡ c.in-Some.mark.now ∷ c.in-Some.rest.now = search rules in
    let line : line_of c.in-Some.mark.now ≡ c.as_slice.result.now =
    sym (c.as_slice.ensures.value ∙ c.code_line.ensures) in
    in_any_case c.from_residual-in_err-print-2.result
    (partway_then_some _ _ _ _ _ _ _ _ _
    (partway_then _ _ _ _ _ _ _ _ _ _ c.marks.invariant.text c.in_ok-print.ensures.ok
    (next_piece c.marks.from c.args.bytes.now c.marks.left.now _ _ split))
    c.in_err-print-2.ensures.cut_short
    (ap (λ (t : List _). t ++ woven c.in-Some.mark.now.at c.args.bytes.now c.in-Some.rest.now) line))

pub returns-clause-ok : goal.returns-clause-ok
returns-clause-ok g c =
    whole_printed c.print-2.result _ _ _ _ _ _ _ _ _ c.marks.invariant.text
    (last_piece c.marks.from c.args.bytes.now c.marks.left.now c.in_default.ensures.cases)
    c.print-2.ensures.ok

pub returns-clause-cut_short : goal.returns-clause-cut_short
returns-clause-cut_short g c =
    part_printed c.print-2.result _ _ _ _ _ _ _ _ c.marks.invariant.text
    (last_piece c.marks.from c.args.bytes.now c.marks.left.now c.in_default.ensures.cases)
    c.print-2.ensures.cut_short
