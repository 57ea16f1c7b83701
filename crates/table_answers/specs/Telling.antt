-- What a run tells on `err`: the note of a table that was read by a pair of its columns, before the
-- line of a refusal and its hint.
use Rattle.std.specs.Prelude.{◌≡◌, ℕ, List, [], ◌++◌, Result, Ok, Err}
use Rattle.byte_ends.specs.Sink.{WriterChange}
use Rattle.station_check.specs.RunEndings.{Tells, status_of}
use Rattle.station_compare.specs.Refusals.{refusal_text}
use Rattle.station_compare.specs.declared.refusal.Refusal.{Refusal}

-- The note of an answer; a refusal before there is one has none.
abbrev pub note_of : {V : Type 0} → Result (V × List ℕ) Refusal → List ℕ
note_of (Ok noted) = noted.1
note_of (Err refusal) = []

-- A note, and then the line of a refusal and its hint, where there is one.
abbrev pub told_text : {A : Type 0} → List ℕ → Result A Refusal → List ℕ
told_text note (Ok x) = note
told_text note (Err refusal) = note ++ refusal_text refusal

-- A run ended with an answer of which, with its note and what `out` got, this is so: its status is
-- that of the answer, and both were told.
pub record RunTold {A : Type 0} (So : Result A Refusal → List ℕ → WriterChange → Type 0)
    (status : ℕ) (out err : WriterChange) : Type 0 where
  pub answer : Result A Refusal
  pub note : List ℕ
  pub so : So answer note out
  pub exits : status ≡ status_of answer
  pub told : Tells (told_text note answer) err
