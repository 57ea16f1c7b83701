-- No failed read of a field file is passed over.
use Rattle.std.proofs.Common.{◌≡◌, ◌∙◌, ap, refl, Option, Some}
use Rattle.byte_ends.specs.Came.{Leaves}
use Rattle.byte_ends.specs.Source.{Told, ReaderChange, ended}
use Rattle.std.specs.Prelude.{Bool, true, false, Result, Ok, Err}
use Rattle.gsi_file.specs.Standing.{IsOverWith}
use Rattle.gsi_file.specs.declared.file_fault.FileFault.{FileFault}
use Rattle.gsi_file.specs.declared.file_fault.FileFault.TheVariants.{At, Memory}
use Rattle.gsi_file.specs.declared.file_fault.FileKind.TheVariants.{Read, FileTooLong, LineTooLong}
use Rattle.gsi_file.specs.declared.file_fault.FileKind.TheVariants.{Byte, Word, FirstWord}
use Rattle.gsi_file.specs.ToCome.{ToCome, Answers}
use Rattle.station_check.specs.declared.fault.Fault.{Fault}
use Rattle.station_check.specs.declared.fault.Fault.TheVariants as run
use Rattle.station_check.specs.Answerable.{of_lines, file_left, words_left}
use Rattle.gsi_file.specs.Failing.{failed_in}

-- No read failed in a call that gave a line or the end.
pub none_failed : (A : Type 0) (settled old new : Bool) (x : A)
    → new ≡ failed_in {A = A} settled old (Ok x) → new ≡ old
none_failed A true old new x e = e
none_failed A false old new x e = e

-- While lines come, the reader has ended where the end is settled.
pub over_still : {R : Type 0} (told : R → Option Told) (was is : Bool) (old new : R)
    → (was ≡ true → new ≡ old) → (was ≡ true → told old ≡ Some ended)
    → (was ≡ false → is ≡ true → told new ≡ Some ended)
    → is ≡ true → told new ≡ Some ended
over_still told true is old new unread over next settled = ap told (unread refl) ∙ over refl
over_still told false is old new unread over next settled = next refl settled

-- At the end the reader has ended.
pub over_here : {R : Type 0} (told : R → Option Told) (was : Bool) (old new : R)
    → (was ≡ true → new ≡ old) → (was ≡ true → told old ≡ Some ended)
    → (was ≡ false → told new ≡ Some ended)
    → told new ≡ Some ended
over_here told true old new unread over next = ap told (unread refl) ∙ over refl
over_here told false old new unread over next = next refl

-- A fault of the file leaves its reader as it says.
pub left_at : (A : Type 0) (fault : FileFault) (settled is now : Bool) (reader : ReaderChange)
    → (settled ≡ true → ⊥)
    → (settled ≡ false → IsOverWith {A = A} (Err fault) is reader.told')
    → reader.failed' ≡ failed_in {A = A} settled now (Err fault) → now ≡ reader.failed
    → Leaves {A = A} file_left (Err (of_lines fault)) reader
left_at A fault true is now reader never over failed kept = absurd (never refl)
left_at A (At number Read) false is now reader never over failed kept =
    record { broken = over refl tt; failed = failed }
left_at A (At number FileTooLong) false is now reader never over failed kept = failed ∙ kept
left_at A (At number LineTooLong) false is now reader never over failed kept = failed ∙ kept
left_at A (At number (Byte at)) false is now reader never over failed kept = failed ∙ kept
left_at A (At number (Word nth)) false is now reader never over failed kept = failed ∙ kept
left_at A (At number FirstWord) false is now reader never over failed kept = failed ∙ kept
left_at A Memory false is now reader never over failed kept = failed ∙ kept

-- The same of words.
pub words_left_at : (A : Type 0) (fault : FileFault) (settled is now : Bool)
    (reader : ReaderChange) → (settled ≡ true → ⊥)
    → (settled ≡ false → IsOverWith {A = A} (Err fault) is reader.told')
    → reader.failed' ≡ failed_in {A = A} settled now (Err fault) → now ≡ reader.failed
    → Leaves {A = A} words_left (Err (of_lines fault)) reader
words_left_at A (At number kind) settled is now reader never over failed kept =
    left_at A (At number kind) settled is now reader never over failed kept
words_left_at A Memory settled is now reader never over failed kept =
    left_at A Memory settled is now reader never over failed kept

-- No line is answered by out of memory.
pub not_of_memory : {A : Type 0} (r : Result A Fault) (fault : FileFault) (t t' : ToCome)
    → Answers t (Err fault) t' → r ≡ Err (of_lines fault) → r ≡ Err run.Memory → ⊥
not_of_memory r (At number kind) t t' h e memory = cc
not_of_memory r Memory t t' h e memory = absurd h
