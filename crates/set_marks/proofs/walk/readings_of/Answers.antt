use Rattle.std.proofs.Common.{◌≡◌, ◌++◌, ◌∷◌, [], ℕ, List, Option, Err, sym, ap, subst}
use Rattle.std.proofs.Common.{◌∙◌, append_assoc, rules}
use Rattle.std.proofs.lemmas.List.{append-nil}
use Rattle.gsi_word.specs.BlockViews.{block_of}
use Rattle.gsi_file.specs.FileAnswers.{file_answers}
use Rattle.gsi_file.specs.ToCome.{GivesLine, GivesEnd}
use Rattle.gsi_file.specs.InMemory.{comes, places_to_come}
use Rattle.set_marks.specs.declared.fault.MarkFault.{MarkFault}
use Rattle.set_marks.specs.declared.fault.MarkFault.TheVariants.{File}
use Rattle.set_marks.specs.Keeping.{AnswersReadings}
use Rattle.job_statements.specs.Numbers.{said_in}
use Rattle.set_marks.specs.Taking.{readings_in}
use Rattle.set_marks.proofs.Taking.{AreTaken, none_taken, line_taken, all_taken, fault_taken}
use Rattle.set_marks.proofs.Taking.{file_refused}
use Rattle.set_marks.proofs.walk.readings_of.Goals as goal

pub lines-init : goal.lines-init
lines-init c =
    let told = file_answers (record { bytes = c.args.bytes.now; fails = c.args.fails }) in
    let walk = c.new-walk.result in
    let first = c.new-lines.ensures.answers in
    record {
      taken = subst (λ (o : Option MarkFault). AreTaken c.args.beginnings (said_in c.args.stated)
          told (comes c.new-lines.result) walk.readings o) (sym c.new-walk.ensures.fault)
          (none_taken c.args.beginnings (said_in c.args.stated) told (comes c.new-lines.result)
          walk.readings (ap (λ t. t.answers) first) (ap (λ t. t.number) first)
          c.new-walk.ensures.keeps);
      room = c.new-walk.ensures.room;
      places = rw c.new-walk.ensures.begins c.new-lines.ensures.places;
    }

pub lines-preserved : goal.lines-preserved
lines-preserved c =
    let told = file_answers (record { bytes = c.args.bytes.now; fails = c.args.fails }) in
    let line = c.in-Some.line in
    let old = c.lines.walk in
    let new = c.take.new.self in
    let before = comes c.lines.lines in
    let after = comes c.next.new.self in
    let gives : GivesLine before after line.number (block_of line.block) =
    rw c.in-Some.is at c.in_ok-line.ensures.answers in
    let place : places_to_come c.lines.lines ≡ line.place ∷ places_to_come c.next.new.self =
    rw c.in-Some.is at c.in_ok-line.ensures.place in
    record {
      taken = line_taken c.args.beginnings (said_in c.args.stated) told before after old.readings
          new.readings old.fault new.fault line.number (block_of line.block)
          c.lines.invariant.taken gives c.in_ok-take.ensures.fault c.in_ok-take.ensures.adds;
      room = c.in_ok-take.ensures.room;
      places = ap (λ (l : List ℕ). l ++ places_to_come c.next.new.self)
          c.in_ok-take.ensures.begins
          ∙ append_assoc old.begins.items (line.place ∷ []) (places_to_come c.next.new.self)
          ∙ ap (λ (l : List ℕ). old.begins.items ++ l) (sym place) ∙ c.lines.invariant.places;
    }

pub take-requires-clause-bound : goal.take-requires-clause-bound
take-requires-clause-bound c =
    let line = c.in-Some.line in
    let gives : GivesLine (comes c.lines.lines) (comes c.next.new.self) line.number
    (block_of line.block) = rw c.in-Some.is at c.in_ok-line.ensures.answers in gives.limited

pub take-requires-clause-block : goal.take-requires-clause-block
take-requires-clause-block c =
    let given = rw c.in-Some.is at c.in_ok-line.ensures.bytes in given.1

pub returns-in_err-line-clause-answers : goal.returns-in_err-line-clause-answers
returns-in_err-line-clause-answers c =
    let told = file_answers (record { bytes = c.args.bytes.now; fails = c.args.fails }) in
    let fault = c.in_err-line.field-0.0 in
    let is_its : Err (File fault) ≡ c.from_residual.result = search rules in
    subst (λ (r : _). AnswersReadings c.args.beginnings (said_in c.args.stated) told
    (readings_in r)) is_its
    (file_refused c.args.beginnings (said_in c.args.stated) told (comes c.lines.lines)
    (comes c.next.new.self) c.lines.walk.readings c.lines.walk.fault fault
    c.lines.invariant.taken c.in_err-line.ensures.answers)

pub returns-in-Some-fault-clause-answers : goal.returns-in-Some-fault-clause-answers
returns-in-Some-fault-clause-answers c =
    let told = file_answers (record { bytes = c.args.bytes.now; fails = c.args.fails }) in
    let walk = c.lines.walk in
    let over : GivesEnd (comes c.lines.lines) (comes c.next.new.self) =
    rw c.in_default.is at c.in_ok-line.ensures.answers in
    fault_taken c.args.beginnings (said_in c.args.stated) told (comes c.lines.lines)
    (comes c.next.new.self) walk.readings c.in-Some-fault.fault
    (subst (λ (f : Option MarkFault). AreTaken c.args.beginnings (said_in c.args.stated) told
    (comes c.lines.lines) walk.readings f) c.in-Some-fault.is c.lines.invariant.taken) over

pub returns-in-None-clause-answers : goal.returns-in-None-clause-answers
returns-in-None-clause-answers c =
    let told = file_answers (record { bytes = c.args.bytes.now; fails = c.args.fails }) in
    let walk = c.lines.walk in
    let over : GivesEnd (comes c.lines.lines) (comes c.next.new.self) =
    rw c.in_default.is at c.in_ok-line.ensures.answers in
    all_taken c.args.beginnings (said_in c.args.stated) told (comes c.lines.lines)
    (comes c.next.new.self) walk.readings
    (subst (λ (f : Option MarkFault). AreTaken c.args.beginnings (said_in c.args.stated) told
    (comes c.lines.lines) walk.readings f) c.in-None.is c.lines.invariant.taken) over

pub returns-in-None-clause-begins : goal.returns-in-None-clause-begins
returns-in-None-clause-begins c =
    let begins = c.lines.walk.begins.items in
    let none : places_to_come c.lines.lines ≡ [] =
    rw c.in_default.is at c.in_ok-line.ensures.place in
    sym (append-nil begins) ∙ ap (λ (l : List ℕ). begins ++ l) (sym none)
    ∙ c.lines.invariant.places
