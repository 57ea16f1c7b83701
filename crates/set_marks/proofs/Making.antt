-- From what is kept and found to what is answered.
use Rattle.std.proofs.Common.{◌≡◌, ℕ, ◌+◌, List, length, None, Some, sym, ap, subst}
use Rattle.std.proofs.Common.{◌∙◌, All}
use Rattle.std.specs.Prelude.{Err, IsErr, Ok, Result}
use Rattle.std.specs.Result.{IsErrAnd}
use Rattle.gsi_file.specs.FileAnswers.{FileAnswers}
use Rattle.station_book.specs.Places.{History}
use Rattle.job_statements.specs.declared.beginnings.Beginnings.{Beginnings}
use Rattle.set_marks.specs.declared.fault.MarkFault.{MarkFault}
use Rattle.set_marks.specs.declared.fault.MarkFault.TheVariants.{Memory}
use Rattle.set_marks.specs.declared.refused.Refused.{Refused}
use Rattle.set_marks.specs.declared.readings.Readings.{Readings}
use Rattle.set_marks.specs.declared.marking.Marking.{Marking}
use Rattle.set_marks.specs.declared.marked.Marked.{Marked}
use Rattle.set_marks.specs.declared.mark.Mark.{Mark}
use Rattle.set_marks.specs.declared.flaw.Flaw.{Flaw}
use Rattle.set_marks.specs.declared.recognized.Recognized.{Recognized}
use Rattle.set_marks.specs.declared.refused.Refused.TheVariants as refused
use Rattle.job_statements.specs.Numbers.{Said, said_in}
use Rattle.set_marks.specs.Stations.{stations_of}
use Rattle.set_marks.specs.WrittenAgain.{written_again_of}
use Rattle.set_marks.specs.Marking.{marks_of, refusal}
use Rattle.set_marks.specs.Placing.{placed}
use Rattle.set_marks.specs.Copies.{woven, AreOrdered, BeginsLine}
use Rattle.set_marks.specs.Keeping.{Keeps, AreReadings, AnswersReadings, AreMarked}
use Rattle.set_marks.specs.Markings.{AnswersMark, IsMarking, IsRefused, copy_of}
use Rattle.set_marks.proofs.Identity.{made_is_copy}

-- All stations are judged, marked and told, of whatever is kept in these readings.
abbrev AllMarked : Readings → Marking → Type 0
AllMarked r m = (beginnings : Beginnings) (stated : Said) (h : History)
    → Keeps beginnings stated h r
    → AreMarked stated (stations_of beginnings h) (written_again_of beginnings h) m

-- The number after the last block is that of the blocks that came, and one more.
last_is : (beginnings : Beginnings) (stated : Said) (h : History) (r : Readings) (end : ℕ)
    → Keeps beginnings stated h r → end ≡ r.blocks + 1 → end ≡ length h + 1
last_is beginnings stated h r end kept is = is ∙ ap (λ (n : ℕ). n + 1) kept.blocks

-- The copy is made.
pub is_marking : (beginnings : Beginnings) (stated : Said) (bytes : List ℕ)
    (answers : FileAnswers) (r : Readings) (m : Marking) (found : List Mark) (made : Marked)
    (end : ℕ) → AreReadings beginnings stated answers r → AllMarked r m → end ≡ r.blocks + 1
    → refusal (said_in m.stated) end m.stations.items ≡ None → found ≡ placed bytes m.marks.items
    → AreOrdered 0 (length bytes) found → All (BeginsLine bytes) found
    → made.marks.items ≡ found → made.stations.items ≡ m.stations.items
    → IsMarking beginnings stated bytes answers made
is_marking beginnings stated bytes answers r m found made end are all last none is ordered begin
    kept told =
    let h = are.blocks in
    let marked = all beginnings stated h are.kept in
    let marks : made.marks.items ≡ placed bytes (marks_of beginnings stated h) =
    kept ∙ is ∙ ap (λ ms. placed bytes ms) marked.marks in
    record {
      blocks = h;
      are_blocks = are.are_blocks;
      clean = are.clean;
      marks = marks;
      ordered = subst (λ (ms : List Mark). AreOrdered 0 (length bytes) ms) (sym kept) ordered;
      begin = subst (λ (ms : List Mark). All (BeginsLine bytes) ms) (sym kept) begin;
      copy = ap (λ ms. woven 0 bytes ms) marks;
      identity = made_is_copy bytes (copy_of bytes made) found ordered begin
          (ap (λ ms. woven 0 bytes ms) kept);
      told = told ∙ marked.told;
      unrefused = ap (λ (rs : List Recognized). refusal stated (length h + 1) rs) told
          ∙ ap (λ (n : ℕ). refusal stated n m.stations.items)
          (sym (last_is beginnings stated h r end are.kept last))
          ∙ ap (λ (st : Said). refusal st end m.stations.items) (sym marked.same) ∙ none;
    }

-- The stations are refused.
pub is_refused : (beginnings : Beginnings) (stated : Said) (answers : FileAnswers)
    (r : Readings) (m : Marking) (flaw : Flaw) (end : ℕ) → AreReadings beginnings stated answers r
    → AllMarked r m → end ≡ r.blocks + 1 → refusal (said_in m.stated) end m.stations.items ≡ Some flaw
    → IsRefused beginnings stated answers flaw m.stations.items
is_refused beginnings stated answers r m flaw end are all last is =
    let h = are.blocks in
    let marked = all beginnings stated h are.kept in
    record {
      blocks = h;
      are_blocks = are.are_blocks;
      clean = are.clean;
      told_is = marked.told;
      fault_is = ap (λ (n : ℕ). refusal stated n m.stations.items)
          (sym (last_is beginnings stated h r end are.kept last))
          ∙ ap (λ (st : Said). refusal st end m.stations.items) (sym marked.same) ∙ is;
    }

-- There was no memory for the places of the code lines.
pub no_memory : (beginnings : Beginnings) (stated : Said) (bytes : List ℕ)
    (answers : FileAnswers) (r : Result Marked Refused) → IsErr r
    → IsErrAnd r (λ e. e ≡ refused.File Memory) → AnswersMark beginnings stated bytes answers r
no_memory beginnings stated bytes answers (Ok m) err is = cc
no_memory beginnings stated bytes answers (Err e) err is =
    subst (λ (f : Refused). AnswersMark beginnings stated bytes answers (Err f)) (sym is) tt

-- A fault of the lines or of a block.
pub refused_before : (beginnings : Beginnings) (stated : Said) (bytes : List ℕ)
    (answers : FileAnswers) (e : MarkFault) → AnswersReadings beginnings stated answers (Err e)
    → AnswersMark beginnings stated bytes answers (Err (refused.File e))
refused_before beginnings stated bytes answers e fault = fault

-- A copy, or why there is none.
pub ruleset as_answered = (is_marking, is_refused, refused_before)
