use Rattle.std.proofs.Common.{rules, ◌≡◌, ◌<◌, ◌≤◌, length, true, false, inr}
use Rattle.gsi_file.specs.Parts.{is_line}
use Rattle.refusal_places.proofs.LineWalks.{after_blank, after_line, cut, is_here, none_after_blank}
use Rattle.refusal_places.proofs.LineWalks.{none_after_line, part_between}
use Rattle.refusal_places.proofs.line.line_span.Goals as goal
use Rattle.refusal_places.proofs.line.line_span.Goals.{then-not-is_blank+else-left-eq1}
use Rattle.refusal_places.proofs.line.line_span.Goals.{else-not-is_blank}

pub returns-then-left-eq1-clause-line : goal.returns-then-left-eq1-clause-line
returns-then-left-eq1-clause-line c =
    let end = c.part_end-end.result in
    let e = c.part_end-end.ensures in
    let line : is_line (part_between c.args.bytes.now c.parts.first end) ≡ true = search rules in
    let one : c.parts.left ≡ 1 = search rules in
    let some : 1 ≤ c.args.number = search rules in
    is_here c.args.bytes.now c.args.number c.parts.left c.parts.first end e.within.0 e.within.1
    c.parts.invariant (cut c.args.bytes.now c.parts.first end e.within.0 e.plain e.end) line one
    some

pub returns-then-end-bytes-clause-none : goal.returns-then-end-bytes-clause-none
returns-then-end-bytes-clause-none c =
    let end = c.part_end-end.result in
    let e = c.part_end-end.ensures in
    let all : length c.args.bytes.now ≤ end = search rules in
    let part = cut c.args.bytes.now c.parts.first end e.within.0 e.plain e.end in
    inr (elim c.if-not-is_blank.branch [
      | then-not-is_blank+else-left-eq1 w ↦
          let line : is_line (part_between c.args.bytes.now c.parts.first end) ≡ true =
          search rules in
          let more : 1 < c.parts.left = search rules in
          none_after_line c.args.bytes.now c.args.number c.parts.left c.parts.first end e.within.0
          e.within.1 c.parts.invariant part line more all
      | else-not-is_blank w ↦
          let line : is_line (part_between c.args.bytes.now c.parts.first end) ≡ false =
          search rules in
          none_after_blank c.args.bytes.now c.args.number c.parts.left c.parts.first end e.within.0
          e.within.1 c.parts.invariant part line all
    ])

pub parts-preserved : goal.parts-preserved
parts-preserved c =
    let end = c.part_end-end.result in
    let e = c.part_end-end.ensures in
    let inside : end < length c.args.bytes.now = search rules in
    let part = cut c.args.bytes.now c.parts.first end e.within.0 e.plain e.end in
    elim c.if-not-is_blank.branch [
      | then-not-is_blank+else-left-eq1 w ↦
          let line : is_line (part_between c.args.bytes.now c.parts.first end) ≡ true =
          search rules in
          let more : 1 < c.parts.left = search rules in
          rw w.left-is (after_line c.args.bytes.now c.args.number c.parts.left c.parts.first end
          e.within.0 e.within.1 c.parts.invariant part line more inside)
      | else-not-is_blank w ↦
          let line : is_line (part_between c.args.bytes.now c.parts.first end) ≡ false =
          search rules in
          rw w.left-is (after_blank c.args.bytes.now c.args.number c.parts.left c.parts.first end
          e.within.0 e.within.1 c.parts.invariant part line inside)
    ]
