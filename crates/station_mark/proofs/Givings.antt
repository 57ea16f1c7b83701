-- What a reader gave is all of the file, or enough for its answers.
use Rattle.std.proofs.Common.{◌≡◌, ℕ, Bool, true, false, List, [], length, Option, None}
use Rattle.std.proofs.Common.{Some}
use Rattle.std.proofs.Common.{Result, Ok, Err, ap, sym, subst, ◌∙◌, inl, inr, refl}
use Rattle.std.specs.Prelude.{IfOk}
use Rattle.std.proofs.lemmas.List.{append-nil}
use Rattle.byte_ends.proofs.Coming.{left_is}
use Rattle.byte_ends.specs.Came.{IsReadOut, HasBroken, Leaves}
use Rattle.byte_ends.specs.Source.{Told, ReaderChange, MayGive, HasGiven, given_then, ended}
use Rattle.gsi_file.specs.FileAnswers.{FileAnswers, file_answers}
use Rattle.gsi_file.specs.ToCome.{FaultIsNext}
use Rattle.gsi_file.specs.declared.bounds.TheConstants.{LONGEST_FILE}
use Rattle.gsi_file.specs.declared.file_fault.FileKind.{FileKind}
use Rattle.gsi_file.specs.declared.file_fault.FileFault.TheVariants as file
use Rattle.gsi_file.specs.declared.file_fault.FileKind.TheVariants as kind
use Rattle.job_statements.specs.declared.beginnings.Beginnings.{Beginnings}
use Rattle.set_marks.specs.Copies.{AreOrdered}
use Rattle.set_marks.specs.Markings.{AnswersMark, IsFileFault}
use Rattle.job_statements.specs.Numbers.{Said}
use Rattle.set_marks.specs.declared.fault.MarkFault.TheVariants.{File, Reading, At, Memory}
use Rattle.set_marks.specs.declared.refused.Refused.{Refused}
use Rattle.set_marks.specs.declared.refused.Refused.TheVariants as refused
use Rattle.station_mark.proofs.PastLimits.{past_limit, failed_at_end, past_at_end, no_read_at_end}
use Rattle.station_mark.proofs.PastLimits.{IsFaultAtEnd, IsNoRead}
use Rattle.station_mark.specs.Answers.{IsMarkAnswer, IsReadWhole, WasReadFor}
use Rattle.station_mark.specs.Answers.{marked_left, marking_in}
use Rattle.station_mark.specs.Giving.{IsAllGiven, IsLeft}
use Rattle.station_mark.specs.declared.marked_file.MarkedFile.{MarkedFile}

-- These bytes, and then a failed read or not.
abbrev pub told_of : List ℕ → Bool → Told
told_of bytes fails = record { bytes = bytes; fails = fails }

-- Where nothing is left, the bytes are all.
all_of : (bytes : List ℕ) (fails : Bool) (told : Option Told) (left : Told)
    → told ≡ Some (told_of [] fails) → MayGive told left
    → file_answers (given_then bytes left) ≡ file_answers (told_of bytes fails)
all_of bytes fails told left e may =
    ap (λ (t : Told). file_answers (given_then bytes t))
    (left_is told (told_of [] fails) left e may)
    ∙ ap (λ (b : List ℕ). file_answers (told_of b fails)) (append-nil bytes)

-- Whatever is left, the file's answers are those of the bytes that were kept.
same_answers : (reader : ReaderChange) (bytes : List ℕ) (fails : Bool)
    → IsLeft LONGEST_FILE (length bytes) fails reader → (left : Told) → MayGive reader.told' left
    → file_answers (given_then bytes left) ≡ file_answers (told_of bytes fails)
same_answers reader bytes true h left may = all_of bytes true reader.told' left h.broken may
same_answers reader bytes false (inl h) left may = all_of bytes false reader.told' left h.ended may
same_answers reader bytes false (inr h) left may =
    past_limit LONGEST_FILE bytes left.bytes left.fails false h.0

-- Where the file's lines end without a fault, the reader has ended.
ends : (reader : ReaderChange) (bytes : List ℕ) (fails : Bool)
    → IsLeft LONGEST_FILE (length bytes) fails reader
    → (file_answers (told_of bytes fails)).last ≡ None → IsReadOut reader
ends reader bytes true h e =
    absurd (subst (λ (o : Option FileKind). IsFaultAtEnd o) e (failed_at_end LONGEST_FILE bytes))
ends reader bytes false (inl h) e = h
ends reader bytes false (inr h) e =
    absurd (subst (λ (o : Option FileKind). IsFaultAtEnd o) e
    (past_at_end LONGEST_FILE bytes false h.0))

-- Where they end with a failed read, the reader has broken off.
breaks_off : (reader : ReaderChange) (bytes : List ℕ) (fails : Bool)
    → IsLeft LONGEST_FILE (length bytes) fails reader
    → (file_answers (told_of bytes fails)).last ≡ Some kind.Read → HasBroken reader
breaks_off reader bytes true h e = h
breaks_off reader bytes false h e =
    absurd (subst (λ (o : Option FileKind). IsNoRead o) e (no_read_at_end LONGEST_FILE bytes))

-- A failed read comes last.
read_is_last : (a : FileAnswers) (number : ℕ) → IsFileFault a number kind.Read
    → a.last ≡ Some kind.Read
read_is_last a number h = ap (λ (b : FileAnswers). b.last) h.split ∙ next h.left h.fault
  where
    next : (left : FileAnswers) → FaultIsNext left kind.Read → left.last ≡ Some kind.Read
    next left (inl e) = ap (λ (b : FileAnswers). b.last) e
    next left (inr (line, rest, e, none)) = absurd none

leaves : (reader : ReaderChange) (bytes : List ℕ) (fails : Bool) (beginnings : Beginnings)
    (stated : Said) (r : Result MarkedFile Refused)
    → IsLeft LONGEST_FILE (length bytes) fails reader
    → AnswersMark beginnings stated bytes (file_answers (told_of bytes fails)) (marking_in r)
    → Leaves marked_left r reader
leaves reader bytes fails beginnings stated (Ok m) h a =
    ends reader bytes fails h a.are_blocks.ended
leaves reader bytes fails beginnings stated (Err (refused.Stations flaw told)) h a =
    ends reader bytes fails h a.are_blocks.ended
leaves reader bytes fails beginnings stated (Err (refused.File (Reading number what))) h a =
    ends reader bytes fails h a.are_blocks.ended
leaves reader bytes fails beginnings stated (Err (refused.File (At number what))) h a =
    ends reader bytes fails h a.are_blocks.ended
leaves reader bytes fails beginnings stated (Err (refused.File (File
    (file.At number kind.Read)))) h a =
    breaks_off reader bytes fails h (read_is_last _ number a)
leaves reader bytes fails beginnings stated
    (Err (refused.File (File (file.At number kind.FileTooLong)))) h a = tt
leaves reader bytes fails beginnings stated
    (Err (refused.File (File (file.At number kind.LineTooLong)))) h a = tt
leaves reader bytes fails beginnings stated
    (Err (refused.File (File (file.At number (kind.Byte at))))) h a = tt
leaves reader bytes fails beginnings stated
    (Err (refused.File (File (file.At number (kind.Word nth))))) h a = tt
leaves reader bytes fails beginnings stated
    (Err (refused.File (File (file.At number kind.FirstWord)))) h a = tt
leaves reader bytes fails beginnings stated (Err (refused.File (File file.Memory))) h a = tt
leaves reader bytes fails beginnings stated (Err (refused.File Memory)) h a = tt

-- A reader of which all is kept was read whole.
read_whole : (reader : ReaderChange) (bytes : List ℕ) (fails : Bool)
    → IsLeft LONGEST_FILE (length bytes) fails reader → IsReadWhole (length bytes) reader
read_whole reader bytes true h = inr (inl h)
read_whole reader bytes false (inl h) = inl h
read_whole reader bytes false (inr h) = inr (inr h)

-- And so for any answer.
read_for : (r : Result MarkedFile Refused) (count : ℕ) (reader : ReaderChange)
    → IsReadWhole count reader → WasReadFor r count reader
read_for (Ok m) count reader h = h
read_for (Err (refused.Stations flaw told)) count reader h = h
read_for (Err (refused.File (File fault))) count reader h = h
read_for (Err (refused.File (Reading number what))) count reader h = h
read_for (Err (refused.File (At number what))) count reader h = h
read_for (Err (refused.File Memory)) count reader h = tt

-- What is answered of the bytes that were kept is the answer on what the reader gave.
pub answered : (beginnings : Beginnings) (stated : Said) (reader : ReaderChange)
    (bytes : List ℕ) (fails : Bool) (r : Result MarkedFile Refused)
    → IsAllGiven LONGEST_FILE reader bytes fails
    → AnswersMark beginnings stated bytes (file_answers (told_of bytes fails)) (marking_in r)
    → IfOk r (λ file. file.bytes.items ≡ bytes) → IsMarkAnswer beginnings stated reader r
answered beginnings stated reader bytes fails r h a kept = record {
  bytes = bytes;
  reads = h.reads;
  marks = λ left may.
      subst (λ (f : FileAnswers). AnswersMark beginnings stated bytes f (marking_in r))
      (sym (same_answers reader bytes fails h.left left may)) a;
  kept = kept;
  whole = read_for r (length bytes) reader (read_whole reader bytes fails h.left);
  reader = leaves reader bytes fails beginnings stated r h.left a;
}

-- Where memory ran out, nothing is said of the bytes that the reader gave.
pub out_of_memory : (beginnings : Beginnings) (stated : Said) (reader : ReaderChange)
    (bytes : List ℕ) → HasGiven reader bytes
    → IsMarkAnswer beginnings stated reader (Err (refused.File Memory))
out_of_memory beginnings stated reader bytes h = record {
  bytes = bytes;
  reads = h;
  marks = λ left may. tt;
  kept = tt;
  whole = tt;
  reader = tt;
}

-- The code lines of a marked file stand in order.
pub in_order : (beginnings : Beginnings) (stated : Said) (reader : ReaderChange)
    (file : MarkedFile) → IsMarkAnswer beginnings stated reader (Ok file)
    → AreOrdered 0 (length file.bytes.items) file.marked.marks.items
in_order beginnings stated reader file a =
    let may : MayGive reader.told' ended =
    subst (λ (o : Option Told). MayGive o ended) (sym a.reader.ended) refl in
    subst (λ (b : List ℕ). AreOrdered 0 (length b) file.marked.marks.items) (sym a.kept)
    (a.marks ended may).ordered
