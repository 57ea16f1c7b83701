-- What the last answer of a file says of its source.
use Rattle.std.proofs.Common.{◌≡◌, ℕ, Bool, true, false, cond, List, Option, None, Some, refl}
use Rattle.std.specs.Prelude.{nat_lt}
use Rattle.gsi_file.specs.declared.file_fault.FileKind.TheVariants.{Read, FileTooLong, LineTooLong}
use Rattle.gsi_file.specs.Parts.{ended_lines}
use Rattle.gsi_file.specs.FileAnswers.{first_break, answers_by, answers_within}

-- A broken limit is no failed read.
no_read : (b : Bool) → Some (cond b FileTooLong LineTooLong) ≡ Some Read → ⊥
no_read true e = cc
no_read false e = cc

failing_by : (room : ℕ) (bytes : List ℕ) (fails : Bool) (place : Option ℕ)
    → (answers_by room bytes fails place).last ≡ Some Read → fails ≡ true
failing_by room bytes true front e = refl
failing_by room bytes false None e = cc
failing_by room bytes false (Some x) e = absurd (no_read (nat_lt room x) e)

all_by : (room : ℕ) (bytes : List ℕ) (fails : Bool) (place : Option ℕ)
    → (answers_by room bytes fails place).last ≡ Some Read
    → (answers_by room bytes fails place).lines ≡ ended_lines bytes
all_by room bytes true None e = refl
all_by room bytes false None e = cc
all_by room bytes fails (Some x) e = absurd (no_read (nat_lt room x) e)

-- Before a failed read all lines that the bytes end are answered.
pub all_answered : (room : ℕ) (bytes : List ℕ) (fails : Bool)
    → (answers_within room bytes fails).last ≡ Some Read
    → (answers_within room bytes fails).lines ≡ ended_lines bytes
unfolding answers_within
all_answered room bytes fails e = all_by room bytes fails (first_break room bytes) e

-- A failed read comes of a source that fails.
pub failing : (room : ℕ) (bytes : List ℕ) (fails : Bool)
    → (answers_within room bytes fails).last ≡ Some Read → fails ≡ true
unfolding answers_within
failing room bytes fails e = failing_by room bytes fails (first_break room bytes) e
