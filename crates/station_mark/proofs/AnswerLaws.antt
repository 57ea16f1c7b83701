-- The answer of `mark` is one.
use Rattle.std.proofs.Common.{◌≡◌, ℕ, ◌+◌, List, [], length, Some, None, Result, Ok, Err}
use Rattle.std.proofs.Common.{sym, ap, ◌∙◌}
use Rattle.gsi_file.specs.FileAnswers.{FileAnswers}
use Rattle.gsi_file.specs.declared.file_fault.FileFault.TheVariants as file
use Rattle.station_book.specs.Places.{History}
use Rattle.job_statements.specs.declared.beginnings.Beginnings.{Beginnings}
use Rattle.set_marks.specs.declared.flaw.Flaw.{Flaw}
use Rattle.set_marks.specs.declared.recognized.Recognized.{Recognized}
use Rattle.set_marks.specs.declared.refused.Refused.{Refused}
use Rattle.set_marks.specs.declared.refused.Refused.TheVariants as refused
use Rattle.job_statements.specs.Numbers.{Said}
use Rattle.set_marks.specs.Stations.{fault_of_blocks}
use Rattle.set_marks.specs.Marking.{marks_of, recognized_of, refusal}
use Rattle.set_marks.specs.Markings.{AreBlocks, AnswersMark, IsBlockFault, IsFault, IsRefused}
use Rattle.set_marks.specs.Markings.{copy_of}
use Rattle.set_marks.specs.Placing.{placed}
use Rattle.set_marks.specs.Copies.{woven}
use Rattle.set_marks.specs.declared.fault.MarkFault.{MarkFault}
use Rattle.set_marks.specs.declared.fault.MarkFault.TheVariants.{File, Reading, At, Memory}
use Rattle.set_marks.specs.declared.marked.Marked.{Marked}
use Rattle.set_marks.proofs.OneFault.{one_history, one_file_fault, no_file_fault}
use Rattle.station_mark.specs.Notes.{notes_of, notes_text}
use Rattle.station_mark.specs.OneAnswer.{IsSettled, printed_of}
use Rattle.station_mark.specs.declared.fault.PrintFault.TheVariants.{Mark}

module _ (beginnings : Beginnings) (stated : Said) (bytes : List ℕ) (answers : FileAnswers)
  where
    -- What is answered.
    abbrev Tells : Result Marked Refused → Type 0
    Tells r = AnswersMark beginnings stated bytes answers r

    -- Two markings print the same.
    one_marking : (m n : Marked) → Tells (Ok m) → Tells (Ok n)
        → printed_of bytes (Ok m) ≡ printed_of bytes (Ok n)
    one_marking m n p h =
        let same = one_history answers p.blocks h.blocks p.are_blocks h.are_blocks in
        let copies : copy_of bytes m ≡ copy_of bytes n =
        p.copy
        ∙ ap (λ (g : History). woven 0 bytes (placed bytes (marks_of beginnings stated g))) same
        ∙ sym h.copy in
        let told : notes_of m ≡ notes_of n =
        ap notes_text (p.told ∙ ap (recognized_of beginnings stated) same ∙ sym h.told) in
        (λ i. Ok (record { copy = copies i; notes = told i }))

    -- What is told of two refusals of stations is one, and so is the fault.
    one_refusal : (a b : Flaw) (told more : List Recognized)
        → IsRefused beginnings stated answers a told → IsRefused beginnings stated answers b more
        → (told ≡ more) × (a ≡ b)
    one_refusal a b told more p h =
        let same = one_history answers p.blocks h.blocks p.are_blocks h.are_blocks in
        let list : told ≡ more =
        p.told_is ∙ ap (recognized_of beginnings stated) same ∙ sym h.told_is in
        let e : Some a ≡ Some b = sym p.fault_is
        ∙ (λ i. refusal stated (length (same i) + 1) (list i)) ∙ h.fault_is in
        (list, cc)

    -- Of one file stations aren't both refused and not.
    never_refused : (m : Marked) (flaw : Flaw) (told : List Recognized) → Tells (Ok m)
        → IsRefused beginnings stated answers flaw told → ⊥
    never_refused m flaw told p h =
        let same = one_history answers p.blocks h.blocks p.are_blocks h.are_blocks in
        let list : m.stations.items ≡ told =
        p.told ∙ ap (recognized_of beginnings stated) same ∙ sym h.told_is in
        let e : None ≡ Some flaw = sym p.unrefused
        ∙ (λ i. refusal stated (length (same i) + 1) (list i)) ∙ h.fault_is in cc

    -- Two faults of blocks are one.
    of_blocks : (a b : MarkFault) → IsBlockFault beginnings answers a
        → IsBlockFault beginnings answers b → a ≡ b
    of_blocks a b p h =
        let e : Some a ≡ Some b = sym p.fault_is
        ∙ ap (fault_of_blocks beginnings)
        (one_history answers p.blocks h.blocks p.are_blocks h.are_blocks) ∙ h.fault_is in cc

    -- Two faults of lines or blocks are one.
    one_of_faults : (a b : MarkFault) → IsSettled (Err (refused.File a))
        → IsSettled (Err (refused.File b)) → IsFault beginnings answers a
        → IsFault beginnings answers b → a ≡ b
    one_of_faults Memory b set also p h = absurd set
    one_of_faults (File file.Memory) b set also p h = absurd p
    one_of_faults a Memory set also p h = absurd also
    one_of_faults a (File file.Memory) set also p h = absurd h
    one_of_faults (File (file.At n a)) (File (file.At m b)) set also p h =
        let same = one_file_fault answers n m a b p h in
        (λ i. File (file.At (same.0 i) (same.1 i)))
    one_of_faults (File (file.At n a)) (Reading m b) set also p h =
        absurd (no_file_fault answers h.blocks n a h.are_blocks p)
    one_of_faults (File (file.At n a)) (At m b) set also p h =
        absurd (no_file_fault answers h.blocks n a h.are_blocks p)
    one_of_faults (Reading n a) (File (file.At m b)) set also p h =
        absurd (no_file_fault answers p.blocks m b p.are_blocks h)
    one_of_faults (At n a) (File (file.At m b)) set also p h =
        absurd (no_file_fault answers p.blocks m b p.are_blocks h)
    one_of_faults (Reading n a) (Reading m b) set also p h =
        of_blocks (Reading n a) (Reading m b) p h
    one_of_faults (Reading n a) (At m b) set also p h = of_blocks (Reading n a) (At m b) p h
    one_of_faults (At n a) (Reading m b) set also p h = of_blocks (At n a) (Reading m b) p h
    one_of_faults (At n a) (At m b) set also p h = of_blocks (At n a) (At m b) p h

    clean_or_not : (g : History) (e : MarkFault) → AreBlocks answers g
        → fault_of_blocks beginnings g ≡ None → IsBlockFault beginnings answers e → ⊥
    clean_or_not g e blocks clean h =
        let f : None ≡ Some e = sym clean
        ∙ ap (fault_of_blocks beginnings) (one_history answers g h.blocks blocks h.are_blocks)
        ∙ h.fault_is in cc

    -- A file whose stations are judged has no fault of its lines and blocks.
    never_faulty : (g : History) (e : MarkFault) → IsSettled (Err (refused.File e))
        → AreBlocks answers g → fault_of_blocks beginnings g ≡ None
        → IsFault beginnings answers e → ⊥
    never_faulty g Memory set blocks clean h = absurd set
    never_faulty g (File file.Memory) set blocks clean h = absurd h
    never_faulty g (File (file.At n kind)) set blocks clean h =
        no_file_fault answers g n kind blocks h
    never_faulty g (Reading n kind) set blocks clean h =
        clean_or_not g (Reading n kind) blocks clean h
    never_faulty g (At n kind) set blocks clean h = clean_or_not g (At n kind) blocks clean h

    -- One answer.
    pub one_answer : (r s : Result Marked Refused) → IsSettled r → IsSettled s → Tells r → Tells s
        → printed_of bytes r ≡ printed_of bytes s
    one_answer (Ok m) (Ok n) set also p h = one_marking m n p h
    one_answer (Ok m) (Err (refused.Stations flaw told)) set also p h =
        absurd (never_refused m flaw told.items p h)
    one_answer (Err (refused.Stations flaw told)) (Ok m) set also p h =
        absurd (never_refused m flaw told.items h p)
    one_answer (Ok m) (Err (refused.File e)) set also p h =
        absurd (never_faulty p.blocks e also p.are_blocks p.clean h)
    one_answer (Err (refused.File e)) (Ok m) set also p h =
        absurd (never_faulty h.blocks e set h.are_blocks h.clean p)
    one_answer (Err (refused.Stations a told)) (Err (refused.Stations b more)) set also p h =
        let same = one_refusal a b told.items more.items p h in
        (λ i. Err (record {
          fault = Mark (At (same.1 i).block (same.1 i).kind);
          stations = same.0 i;
        }))
    one_answer (Err (refused.Stations flaw told)) (Err (refused.File e)) set also p h =
        absurd (never_faulty p.blocks e also p.are_blocks p.clean h)
    one_answer (Err (refused.File e)) (Err (refused.Stations flaw told)) set also p h =
        absurd (never_faulty h.blocks e set h.are_blocks h.clean p)
    one_answer (Err (refused.File a)) (Err (refused.File b)) set also p h =
        (λ i. Err (record { fault = Mark (one_of_faults a b set also p h i); stations = [] }))
