use Rattle.std.proofs.Common.{◌+◌, ◌≤◌, length, sym, ap, subst, ◌∙◌, inl, inr, List, ℕ, arith}
use Rattle.std.proofs.lemmas.List.{length-drop}
use Rattle.gsi_word.proofs.RunLaws.{Runs, runs_more, run_are_words, run_has_fault, run_places}
use Rattle.gsi_word.proofs.RunLaws.{run_room}
use Rattle.gsi_word.proofs.line.count_words.Goals as goal
use Rattle.gsi_word.proofs.line.count_words.Goals.{else-count-gt0-via-then-count-gt0+else-is_blank}
use Rattle.gsi_word.proofs.line.count_words.Goals.{else-count-gt0-via-else-count-gt0}

pub words-preserved : goal.words-preserved
words-preserved c =
    let more = runs_more c.args.width c.words.count c.args.bytes.now c.words.rest.now
    c.words.invariant.run (sym c.begins_word.ensures.test ∙ c.words-test.true) in
    let long : 7 + c.args.width ≤ length c.words.rest.now = c.words-test.ensures.long in
    record {
      run = subst (λ (rest : List ℕ). Runs c.args.width (c.words.count + 1) c.args.bytes.now rest)
          (sym c.after_word-rest.ensures) more;
      short = omega (
        arith,
        c.words.invariant.short,
        long,
        ap length c.after_word-rest.ensures,
        length-drop (8 + c.args.width) c.words.rest.now,
      );
    }

pub returns-then-is_blank-clause-words : goal.returns-then-is_blank-clause-words
returns-then-is_blank-clause-words c =
    run_are_words c.args.width c.words.count c.args.bytes.now c.words.rest.now c.words.invariant.run
    c.if-count-gt0.true c.requires.printable c.if-is_blank.ensures.blank

pub returns-then-is_blank-clause-kept : goal.returns-then-is_blank-clause-kept
returns-then-is_blank-clause-kept c = record {
  width_known = c.requires.known;
  some_word = c.if-count-gt0.true;
  room = run_room c.args.width c.words.count c.args.bytes.now c.words.rest.now
      c.words.invariant.run;
  each = run_places c.args.width c.words.count c.args.bytes.now c.words.rest.now
      c.words.invariant.run c.requires.printable;
}

pub returns-else-count-gt0-clause-fault : goal.returns-else-count-gt0-clause-fault
returns-else-count-gt0-clause-fault c =
    run_has_fault c.args.width c.words.count c.args.bytes.now c.words.rest.now c.words.invariant.run
    c.requires.printable (sym c.begins_word.ensures.test ∙ c.words-test.false)
    (elim c.else-count-gt0.branch [
      | else-count-gt0-via-then-count-gt0+else-is_blank w ↦ inr w.if-is_blank.ensures.ink
      | else-count-gt0-via-else-count-gt0 w ↦ inl (omega (arith, w.if-count-gt0.false))
    ])
