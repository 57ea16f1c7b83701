use Rattle.std.proofs.Common.{◌≡◌, ◌<◌, ◌∙◌, ◌++◌, ◌==◌, [], Err, List, ℕ, ap, inr, length}
use Rattle.std.proofs.Common.{option_copied, rules, sym}
use Rattle.std.proofs.lemmas.List.{take_all}
use Rattle.station_check.proofs.ListLaws.{some_inside}
use Rattle.book_answers.proofs.StationLaws.{none_yet, note_more, one_more}
use Rattle.book_answers.specs.Together.{piece}
use Rattle.book_answers.proofs.answering.text_of_stations.Goals as goal
use Rattle.book_answers.proofs.answering.text_of_stations.Goals.{in_default}
use Rattle.book_answers.proofs.answering.text_of_stations.Goals.{in-Some+in_ok-own+in_ok-push_piece+in_ok-extend_from_slice}

pub stations-init : goal.stations-init
stations-init g c = record {
  one = none_yet (g.E.EachAnswer.says c.args.asked.now c.args.limits) c.args.limits.residual
      c.args.arrangement _ (search rules);
  told = record { of_each = []; each = tt; notes_are = search rules };
}

pub stations-preserved : goal.stations-preserved
stations-preserved g c =
    let says = g.E.EachAnswer.says c.args.asked.now c.args.limits in
    let stations = c.args.stations.now in
    let place = c.stations.place in
    let a = c.args.arrangement in
    let old = c.stations.text.items in
    elim c.match-at.branch [
      | in-Some+in_ok-own+in_ok-push_piece+in_ok-extend_from_slice w ↦
          let its = w.in-Some.surveyed.now in
          let own = w.in_ok-own.own.text.items in
          let note = w.in_ok-own.own.note.items in
          let here = sym c.at.ensures ∙ ap option_copied w.in-Some.is in
          let name_is : w.name-name.result ≡ its.station.name = search rules in
          let text_is : w.deref.result.now ≡ own = search rules in
          let put : w.push_piece.new.text.items
          ≡ old ++ piece a (place == 0) (its.station.name, own) =
          w.in_ok-push_piece.ensures
          ∙ ap (λ (n : List ℕ). old ++ piece a (place == 0) (n, w.deref.result.now)) name_is
          ∙ ap (λ (t : List ℕ). old ++ piece a (place == 0) (its.station.name, t)) text_is in
          rw (w.text-is, w.notes-is) (record {
            one = one_more says c.args.limits.residual a stations place its old
                w.push_piece.new.text.items own here c.stations.invariant.one
                (w.in_ok-own.ensures.text, w.in_ok-own.ensures.held) put;
            told = note_more (g.E.EachAnswer.notes c.args.asked.now) stations place its
                c.stations.notes.items w.extend_from_slice.new.self.items note here
                c.stations.invariant.told w.in_ok-own.ensures.noted (search rules);
          })
      | in_default w ↦
          let inside : place < length stations = search rules in
          absurd (some_inside stations place inside
          (sym c.at.ensures ∙ ap option_copied w.in_default.is))
    ]

pub returns-in_err-own-clause-text : goal.returns-in_err-own-clause-text
returns-in_err-own-clause-text g c =
    let refused = c.in_err-own.field-0.0 in
    let is_its : c.from_residual-in_err-own.result ≡ Err refused = search rules in
    rw is_its (inr (record {
      place = c.stations.place;
      its = c.in-Some.surveyed.now;
      here = sym c.at.ensures ∙ ap option_copied c.in-Some.is;
      texts = c.stations.invariant.one.texts;
      before = c.stations.invariant.one.each;
      at = c.in_err-own.ensures.text;
    }))

pub returns : goal.returns
returns g c =
    let whole = take_all c.stations.place c.args.stations.now (search rules) in record {
      text = rw whole at c.stations.invariant.one;
      noted = rw whole at c.stations.invariant.told;
    }
