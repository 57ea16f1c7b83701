use Rattle.std.proofs.Common.{◌≡◌, ◌∙◌, ap, arith, map, subst, sym}
use Rattle.std.proofs.lemmas.Iterator.Consumers.{map_from_collect}
use Rattle.std.proofs.lemmas.Iterator.Splits.{YieldsList-from_lines}
use Rattle.std.specs.Str.Lines.{lines}
use Rattle.job_statements.specs.StatedNumbers.{IsStatedBy, StateAll}
use Rattle.job_statements.proofs.NumberLaws.{no_numbers}
use Rattle.station_page.proofs.statement.numbers_in.Goals as goal

pub returns-in-Ok-numbers_of-clause-stated : goal.returns-in-Ok-numbers_of-clause-stated
returns-in-Ok-numbers_of-clause-stated c =
    let collected = rw c.in_ok-lines.was at
    (map_from_collect c.collect.result c.collect.ensures.ran
    (YieldsList-from_lines c.in-Ok.text.now c.lines.ensures.rest)) in
    let same : map (λ text. text.now) c.in_ok-lines.lines.items ≡ lines c.args.text.now =
    collected ∙ ap lines c.in-Ok.ensures.cases.0 in
    record {
      is_text = c.in-Ok.ensures.cases.1;
      by_lines = subst (λ t. IsStatedBy c.args.largest t c.in-Ok-numbers_of.stated) same
          (rw c.deref.ensures.value at c.in-Ok-numbers_of.ensures.stated);
    }

pub returns-clause-wrong : goal.returns-clause-wrong
returns-clause-wrong c =
    let collected = rw c.in_ok-lines.was at
    (map_from_collect c.collect.result c.collect.ensures.ran
    (YieldsList-from_lines c.in-Ok.text.now c.lines.ensures.rest)) in
    let same : map (λ text. text.now) c.in_ok-lines.lines.items ≡ lines c.args.text.now =
    collected ∙ ap lines c.in-Ok.ensures.cases.0 in
    let wrong = rw (c.in-Err-Wrong.field-0-is, c.deref.ensures.value) at
    c.in-Err-Wrong.ensures.why in
    λ is is_text numbers all.
    no_numbers c.args.largest (map (λ text. text.now) c.in_ok-lines.lines.items)
    c.in-Err-Wrong.field-0-0.now c.in-Err-Wrong.field-0-1 (omega (arith, c.ranges.largest.fits))
    wrong numbers (subst (λ t. StateAll c.args.largest t numbers) (sym same) all)
