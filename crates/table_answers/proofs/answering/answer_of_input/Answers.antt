use Rattle.std.proofs.Common.{rules, ap, sym, ◌∙◌}
use Rattle.byte_ends.proofs.Coming.{came_so}
use Rattle.byte_ends.specs.Input.{Ended, input_within}
use Rattle.direction_table.specs.declared.reading.TheConstants.{LONGEST_TABLE}
use Rattle.table_answers.proofs.Given.{by_ended, left_by_bytes}
use Rattle.table_answers.specs.Noting.{Noting}
use Rattle.table_answers.proofs.answering.answer_of_input.Goals as goal

pub returns-in_err-bytes-clause-tells : goal.returns-in_err-bytes-clause-tells
returns-in_err-bytes-clause-tells g c =
    let memory = g.met.A.TableAnswer.memory c.args.asked.now c.args.limits c.args.surveyed.now in
    came_so _ _ _ c.in_err-bytes.ensures.came (λ stated came. search (rules, memory))

pub returns-clause-tells : goal.returns-clause-tells
returns-clause-tells g c =
    let its = c.args.surveyed.now in
    came_so _ _ _ c.in_ok-bytes.ensures.came (λ stated came.
    by_ended (Noting (g.A.TableAnswer.says c.args.asked.now c.args.limits)
    (g.A.TableAnswer.form_of c.args.asked.now) its)
    (λ noted. (g.A.TableAnswer.value noted.answer, noted.note.items))
    (g.A.TableAnswer.refuses c.args.asked.now c.args.limits its) c.deref.result.now
    (input_within LONGEST_TABLE stated) c.of_table.result
    (came ∙ ap Ended (sym c.deref.ensures.value)) c.of_table.ensures.tells)

pub returns-clause-reader : goal.returns-clause-reader
returns-clause-reader g c =
    let its = c.args.surveyed.now in
    left_by_bytes (λ noted. Noting (g.A.TableAnswer.says c.args.asked.now c.args.limits)
    (g.A.TableAnswer.form_of c.args.asked.now) its c.deref.result.now
    (g.A.TableAnswer.value noted.answer, noted.note.items))
    (g.A.TableAnswer.refuses c.args.asked.now c.args.limits its c.deref.result.now)
    (g.met.A.TableAnswer.of_bytes c.args.asked.now c.args.limits its c.deref.result.now)
    c.of_table.result _ c.of_table.ensures.tells c.in_ok-bytes.ensures.left
