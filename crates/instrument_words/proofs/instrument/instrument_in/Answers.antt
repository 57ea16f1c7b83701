use Rattle.std.proofs.Common.{ap, sym, ◌∙◌}
use Rattle.gsi_file.specs.InMemory.{comes}
use Rattle.gsi_file.specs.ToCome.{GivesEnd, GivesLine}
use Rattle.gsi_word.specs.BlockViews.{block_of}
use Rattle.instrument_words.proofs.Coming.{end_comes, line_comes, fault_answered}
use Rattle.instrument_words.proofs.Telling.{all_told}
use Rattle.instrument_words.specs.Onto.{instrument_onto}
use Rattle.instrument_words.specs.Instrument.{instrument_value}
use Rattle.instrument_words.proofs.instrument.instrument_in.Goals as goal

pub lines-preserved : goal.lines-preserved
lines-preserved c = λ blocks of_file.
    let before = c.lines.invariant blocks of_file in
    let line = c.in-Ok-Some.line in
    let gives : GivesLine (comes c.lines.lines) (comes c.next.new.self) line.number
    (block_of line.block) =
    rw c.in-Ok-Some.field-0-is at c.in-Ok-Some.ensures.answers in
    let next = line_comes (comes c.lines.lines) (comes c.next.new.self) line.number
    (block_of line.block) before.0 before.1 gives in (
      next.0,
      next.2,
      c.with_words-told.ensures next.0
          ∙ ap (instrument_onto (instrument_value c.lines.told)) (sym next.1) ∙ before.2,
    )

pub returns-in-Ok-None : goal.returns-in-Ok-None
returns-in-Ok-None c = λ blocks of_file.
    let before = c.lines.invariant blocks of_file in
    let gives : GivesEnd (comes c.lines.lines) (comes c.next.new.self) =
    rw c.in-Ok-None.field-0-is at c.in-Ok-None.ensures.answers in
    let over = end_comes (comes c.lines.lines) (comes c.next.new.self) before.0 before.1 gives in
    all_told (instrument_value c.lines.told)
    ∙ sym (ap (instrument_onto (instrument_value c.lines.told)) over) ∙ before.2

pub returns-in-Err : goal.returns-in-Err
returns-in-Err c = λ blocks of_file.
    let before = c.lines.invariant blocks of_file in
    let over = fault_answered (comes c.lines.lines) (comes c.next.new.self) c.in-Err.field-0 before.0
    before.1 c.in-Err.ensures.answers in
    all_told (instrument_value c.lines.told)
    ∙ sym (ap (instrument_onto (instrument_value c.lines.told)) over) ∙ before.2
