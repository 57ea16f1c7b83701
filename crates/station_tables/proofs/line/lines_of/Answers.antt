use Rattle.std.proofs.Common.{◌≡◌, ◌-◌, ◌+◌, ◌∙◌, ◌++◌, ◌∷◌, List, ℕ, [], ap, arith, drop, get_or}
use Rattle.std.proofs.Common.{length, length-drop, rules, sym, take}
use Rattle.std.proofs.lemmas.List.{take_all}
use Rattle.station_tables.proofs.LineLaws.{all_held, begun_none, ends, goes_on, held_more}
use Rattle.station_tables.specs.Lines.{ends_line, lines_in, of_lines}
use Rattle.station_tables.proofs.line.lines_of.Goals as goal
use Rattle.station_tables.proofs.line.lines_of.Goals.{then-ends_line+in_ok-push}
use Rattle.station_tables.proofs.line.lines_of.Goals.{else-ends_line}

pub bytes-init : goal.bytes-init
bytes-init c = record {
  whole = rw c.new-lines.ensures.items (begun_none c.without_mark-text.result.now);
  begins = omega arith;
  few = rw c.new-lines.ensures.items (omega arith);
}

pub bytes-preserved : goal.bytes-preserved
bytes-preserved c =
    let text = c.without_mark-text.result.now in
    let place = c.bytes.place in
    let start = c.bytes.start in
    let before = of_lines c.bytes.lines.items in
    let piece = take (place - start) (drop start text) in
    let after = drop (place + 1) text in
    let cut : take (length text - (place + 1)) after ≡ after =
    take_all (length text - (place + 1)) after (omega (arith, length-drop (place + 1) text)) in
    let told : ends_line (get_or text place 0) after ≡ c.ends_line.result =
    ap (ends_line (get_or text place 0)) (sym cut) ∙ sym c.ends_line.ensures in
    elim c.if-ends_line.branch [
      | then-ends_line+in_ok-push w ↦
          let more : of_lines w.push.new.self.items ≡ before ++ (piece ∷ []) =
          held_more c.bytes.lines.items w.push.new.self.items _ w.in_ok-push.ensures.items in
          rw (w.lines-is, w.start-is) (record {
            whole = ends text piece before (of_lines w.push.new.self.items) place (search rules)
                (told ∙ w.if-ends_line.true) more ∙ c.bytes.invariant.whole;
            begins = omega arith;
            few = omega (arith, w.in_ok-push.ensures.len, c.bytes.invariant.few, c.bytes.invariant.begins);
          })
      | else-ends_line w ↦
          rw (w.lines-is, w.start-is) (record {
            whole = ap (λ (ls : List (List ℕ)). before ++ ls)
                (goes_on text start place c.bytes.invariant.begins (search rules)
                (told ∙ w.if-ends_line.false))
                ∙ c.bytes.invariant.whole;
            begins = omega (arith, c.bytes.invariant.begins);
            few = c.bytes.invariant.few;
          })
    ]

pub returns-clause-lines : goal.returns-clause-lines
returns-clause-lines c =
    let text = c.without_mark-text.result.now in
    let place = c.bytes.place in
    let start = c.bytes.start in
    let before = of_lines c.bytes.lines.items in
    all_held text start place before (of_lines c.push-2.new.self.items)
    (omega (arith, c.bytes.auto.place-end))
    (held_more c.bytes.lines.items c.push-2.new.self.items _ c.in_ok-push-2.ensures.items)
    c.bytes.invariant.whole
    ∙ ap lines_in c.without_mark-text.ensures.value
