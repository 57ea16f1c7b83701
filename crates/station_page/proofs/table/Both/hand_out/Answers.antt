use Rattle.std.proofs.Common.{ℕ, ◌<◌, List, Result, Some, Ok, Err, ap, rules, subst, sym}
use Rattle.std.specs.Prelude.{MatchResult}
use Rattle.byte_ends.specs.Source.{Told}
use Rattle.direction_table.specs.declared.form.TableForm.{TableForm}
use Rattle.gsi_file.specs.FileAnswers.{FileAnswers, file_answers}
use Rattle.station_book.specs.ResultLimits.{of_faces}
use Rattle.station_book.specs.Stations.{SurveyedStation}
use Rattle.station_book.specs.declared.result_limits.ResultLimits.{ResultLimits}
use Rattle.station_check.specs.Came.{source_of}
use Rattle.station_compare.specs.Refusals.{by_fault}
use Rattle.station_compare.specs.declared.fault.CompareFault.{CompareFault}
use Rattle.table_answers.proofs.Given.{both_as_told}
use Rattle.table_answers.specs.Answers.{StatesBeside, TellsBeside}
use Rattle.table_answers.specs.Noting.{Noting}
use Rattle.table_answers.specs.Refusing.{HasNoAnswer}
use Rattle.table_answers.specs.declared.noted.Noted.{Noted}
use Rattle.station_page.specs.Texts.{noted_value}
use Rattle.station_page.proofs.table.Both.hand_out.Goals as goal

-- What is told of both, of what is said of them, without where it lies in memory.
tells : {T V W : Type 0} (value : T → V) (seen : T → W)
    (Says : SurveyedStation → List ℕ → V → Type 0) (Tells : SurveyedStation → List ℕ → W → Type 0)
    (Refuses : SurveyedStation → List ℕ → CompareFault → Type 0) (form : TableForm)
    (limits : ResultLimits) (file : FileAnswers) (stated : Told) (name : List ℕ)
    (r : Result (Noted T) CompareFault)
    → ((its : SurveyedStation) (bytes : List ℕ) (a : T) → Says its bytes (value a)
    → Tells its bytes (seen a))
    → MatchResult r (λ noted. StatesBeside (Noting Says form) limits file stated name
    (value noted.answer, noted.note.items)) (HasNoAnswer Refuses limits file stated name)
    → TellsBeside (Noting Tells form) Refuses limits file stated name (noted_value seen r)
tells value seen Says Tells Refuses form limits file stated name (Ok noted) said h = record {
  its = h.its;
  station = h.station;
  bytes = h.bytes;
  whole = h.whole;
  held = h.held;
  said = (said h.its h.bytes noted.answer h.said.0, h.said.1);
}
tells value seen Says Tells Refuses form limits file stated name (Err fault) said h = h

pub returns-clause-text : goal.returns-clause-text
returns-clause-text g c =
    let answer = by_fault c.table_answer_of-answer.result.0 in
    let limits = of_faces c.in-Some.faces in
    let asked = c.args.asked in
    let told = both_as_told _ _ answer _ c.table_answer_of-answer.ensures _ _
    (ap Some c.source_of.ensures) (ap Some c.source_of-2.ensures) in
    let note = rw c.without_note-answer.ensures.note at
    (rw c.deref.ensures.value at c.hand_out.ensures.shows) in
    record {
      shows = λ faces. record {
        limits = c.in-Some.faces;
        states = record { states_two_c = search rules; states_two_i = search rules };
        answer = noted_value g.A.Shown.seen answer;
        tells = tells g.A.TableAnswer.value g.A.Shown.seen (g.A.TableAnswer.says asked limits)
            (g.A.Shown.tells asked limits) (g.A.TableAnswer.refuses asked limits)
            (g.A.TableAnswer.form_of asked) limits
            (file_answers (source_of c.args.self.now.gsi.now))
            (source_of c.args.self.now.table.now) c.args.self.now.name.now answer
            (g.met.A.Shown.said asked limits) (rw c.of_faces-limits.ensures at told.0);
        status = c.show-status.result;
        hands_text_out = rw (← c.without_note-answer.ensures.answer)
            c.show-status.ensures.shows.shows;
        hands_note_out = note;
        answers = λ enough fits. subst (λ n. n < 2) (sym (note.fits fits).0)
            (c.show-status.ensures.answers enough);
      };
      beyond = search rules;
      leaves = search rules;
    }
