-- How a run ends: what it prints, its exit status, and the line of a refusal.
use Rattle.std.specs.Prelude.{◌≡◌, ◌⊎◌, ℕ, true, List, [], ◌∷◌, Result, Ok, Err}
use Rattle.std.specs.Io.KnownBytes.{Appends}
use Rattle.byte_ends.specs.Sink.{AppendsSome, WriterChange}

-- A writer got this text whole, and no call of it failed.
pub record IsWritten (text : List ℕ) (writer : WriterChange) : Type 0 where
  pub got : Appends writer.holds writer.holds' text
  pub unfailed : writer.failed' ≡ writer.failed

-- A call of a writer failed, and it got some of the first bytes of this text.
pub record IsCutShort (text : List ℕ) (writer : WriterChange) : Type 0 where
  pub got : AppendsSome writer.holds writer.holds' text
  pub call_failed : writer.failed' ≡ true

-- This text was written whole, or cut short by a failed call.
abbrev pub WritesOrFails : List ℕ → WriterChange → Type 0
WritesOrFails text writer = IsWritten text writer ⊎ IsCutShort text writer

-- What an answer makes of `out`, and what the run then answers: its text, whole and flushed, or
-- in part where a call of `out` failed; at a refusal nothing is asked of `out`, and the refusal is
-- answered. `write` is the fault of a failed call.
abbrev pub PrintsAnswer : {T A F : Type 0} → (T → List ℕ) → F → Result T F → Result A F
    → WriterChange → Type 0
PrintsAnswer text write (Ok a) (Ok x) out = IsWritten (text a) out × (out.is_flushed ≡ true)
PrintsAnswer text write (Ok a) (Err fault) out = (fault ≡ write) × IsCutShort (text a) out
PrintsAnswer text write (Err fault) r out = (r ≡ Err fault) × out.is_unasked

-- the exit status of an answer: 1 for a refusal of any kind, and else 0
abbrev pub status_of : {A F : Type 0} → Result A F → ℕ
status_of (Ok x) = 0
status_of (Err fault) = 1

-- What a writer got of a text: all of it, or some of its first bytes where a call failed; and where
-- there is no text, nothing was asked of it.
abbrev pub Tells : List ℕ → WriterChange → Type 0
Tells [] writer = writer.is_unasked
Tells (byte ∷ bytes) writer = WritesOrFails (byte ∷ bytes) writer

-- What `err` got of an answer: its notes, where it has some; and the line of a refusal, as its
-- fault has it.
abbrev pub Reports : {A F : Type 0} → (A → List ℕ) → (F → List ℕ) → Result A F → WriterChange
    → Type 0
Reports notes line (Ok x) err = Tells (notes x) err
Reports notes line (Err fault) err = WritesOrFails (line fault) err

-- A run ended with an answer of which, with what `out` got, this is so: its status is that of the
-- answer, and the answer's notes went to `err`, or the line of its refusal.
pub record RunWithNotes {A F : Type 0} (notes : A → List ℕ) (line : F → List ℕ)
    (So : Result A F → WriterChange → Type 0) (status : ℕ) (out err : WriterChange) : Type 0 where
  pub answer : Result A F
  pub so : So answer out
  pub exits : status ≡ status_of answer
  pub reports : Reports notes line answer err

-- no notes
abbrev pub no_notes : {A : Type 0} → A → List ℕ
no_notes x = []

-- A run of which nothing but a refusal is told.
abbrev pub Run : {A F : Type 0} → (F → List ℕ) → (Result A F → WriterChange → Type 0) → ℕ
    → WriterChange → WriterChange → Type 0
Run line So status out err = RunWithNotes no_notes line So status out err
