-- How an answer leaves the two readers.
use Rattle.std.proofs.Common.{◌≡◌, ℕ, Result, Ok, Err, true, refl, subst, sym, ◌⊎◌, inl, inr}
use Rattle.std.specs.Prelude.{IfErr, ◌≢◌}
use Rattle.byte_ends.specs.Came.{IsReadOut, IsUnasked, Leaves}
use Rattle.byte_ends.specs.Sink.{WriterChange}
use Rattle.byte_ends.specs.Source.{ReaderChange}
use Rattle.station_check.specs.declared.fault.Fault.{Fault}
use Rattle.station_check.specs.declared.fault.Fault.TheVariants.{Gsi, Book, SheetRead, Sheet}
use Rattle.station_check.specs.declared.fault.Fault.TheVariants.{NoStation, Means, Kernel, Write}
use Rattle.station_check.specs.declared.fault.Fault.TheVariants.{Memory}
use Rattle.gsi_file.specs.declared.file_fault.FileFault.TheVariants as file
use Rattle.sheet_format.specs.declared.fault.WriteFault.{WriteFault}
use Rattle.sheet_format.specs.declared.fault.WriteFault.TheVariants as writing
use Rattle.sheet_means.specs.declared.fault.MeansFault.{MeansFault}
use Rattle.sheet_means.specs.declared.fault.MeansFault.TheVariants as means
use Rattle.station_check.specs.Answerable.{IsOfFile, IsOfSheet, IsOfReadSheet, file_left}
use Rattle.station_check.specs.Answerable.{words_left}
use Rattle.station_check.specs.Words.{MemoryWritesNothing}
use Rattle.station_check.specs.Answerable.{of_means, of_write, FailsAtWrite, IsUnwritten, IsOfList}
use Rattle.station_check.specs.Answerable.{IsOfMeans}
use Rattle.station_check.specs.SheetInput.{sheet_left}

-- A fault of the field file leaves the sheet's reader as it was.
pub left_alone : (A : Type 0) (fault : Fault) (sheet : ReaderChange) → IsOfFile fault
    → IsUnasked sheet → Leaves {A = A} sheet_left (Err fault) sheet
left_alone A (Gsi fault) sheet o h = h
left_alone A (Book fault) sheet o h = h
left_alone A SheetRead sheet o h = absurd o
left_alone A (Sheet fault) sheet o h = absurd o
left_alone A NoStation sheet o h = absurd o
left_alone A (Means fault) sheet o h = absurd o
left_alone A (Kernel fault) sheet o h = absurd o
left_alone A Write sheet o h = absurd o
left_alone A Memory sheet o h = h.unfailed

-- An answer from the sheet on leaves the field file's reader read to its end.
pub left_by_sheet : (A : Type 0) (r : Result A Fault) (gsi : ReaderChange)
    → IfErr r IsOfSheet → IsReadOut gsi → Leaves file_left r gsi
left_by_sheet A (Ok a) gsi o h = h
left_by_sheet A (Err (Gsi fault)) gsi o h = absurd o
left_by_sheet A (Err (Book fault)) gsi o h = absurd o
left_by_sheet A (Err SheetRead) gsi o h = h
left_by_sheet A (Err (Sheet fault)) gsi o h = h
left_by_sheet A (Err NoStation) gsi o h = h
left_by_sheet A (Err (Means fault)) gsi o h = absurd o
left_by_sheet A (Err (Kernel fault)) gsi o h = h
left_by_sheet A (Err Write) gsi o h = absurd o
left_by_sheet A (Err Memory) gsi o h = h.unfailed

-- A fault of the field file leaves its reader so, whatever else might be answered.
pub left_by : {A : Type 0} (B : Type 0) (r : Result A Fault) (fault : Fault) (gsi : ReaderChange)
    → r ≡ Err fault → Leaves file_left r gsi → Leaves {A = B} file_left (Err fault) gsi
left_by {A} B r fault gsi e h = subst (λ (x : Result A Fault). Leaves file_left x gsi) e h

-- Whatever stops a sheet of means leaves the field file read to its end, unless memory ran out.
pub left_by_means : (A : Type 0) (fault : MeansFault) (gsi : ReaderChange) → IsReadOut gsi
    → Leaves {A = A} file_left (Err (of_means fault)) gsi
left_by_means A means.Incomplete gsi h = h
left_by_means A means.Memory gsi h = h.unfailed

pub left_by_write : (A : Type 0) (fault : WriteFault) (gsi : ReaderChange) → IsReadOut gsi
    → Leaves {A = A} file_left (Err (of_write fault)) gsi
left_by_write A writing.Write gsi h = h
left_by_write A writing.Memory gsi h = h.unfailed

-- A fault of the field file is answered with nothing written.
pub none_written : (A : Type 0) (fault : Fault) (writer : WriterChange) → IsOfFile fault
    → writer.failed' ≡ writer.failed → FailsAtWrite {A = A} (Err fault) writer
none_written A (Gsi fault) writer o e = e
none_written A (Book fault) writer o e = e
none_written A SheetRead writer o e = absurd o
none_written A (Sheet fault) writer o e = absurd o
none_written A NoStation writer o e = absurd o
none_written A (Means fault) writer o e = absurd o
none_written A (Kernel fault) writer o e = absurd o
none_written A Write writer o e = absurd o
none_written A Memory writer o e = e

-- Nothing was asked of a writer that is as it was.
pub none_unasked : (A : Type 0) (fault : Fault) (writer : WriterChange) → writer.is_unasked
    → IsUnwritten {A = A} (Err fault) writer
none_unasked A (Gsi fault) writer e = e
none_unasked A (Book fault) writer e = e
none_unasked A SheetRead writer e = e
none_unasked A (Sheet fault) writer e = e
none_unasked A NoStation writer e = e
none_unasked A (Means fault) writer e = e
none_unasked A (Kernel fault) writer e = e
none_unasked A Write writer e = tt
none_unasked A Memory writer e = e

-- A list and a sheet of means may answer each fault of the field file.
pub of_list : (fault : Fault) → IsOfFile fault → IsOfList fault
of_list (Gsi fault) o = o
of_list (Book fault) o = o
of_list SheetRead o = absurd o
of_list (Sheet fault) o = absurd o
of_list NoStation o = absurd o
of_list (Means fault) o = absurd o
of_list (Kernel fault) o = absurd o
of_list Write o = tt
of_list Memory o = o

pub of_means_too : (fault : Fault) → IsOfFile fault → IsOfMeans fault
of_means_too (Gsi fault) o = o
of_means_too (Book fault) o = o
of_means_too SheetRead o = absurd o
of_means_too (Sheet fault) o = absurd o
of_means_too NoStation o = tt
of_means_too (Means fault) o = absurd o
of_means_too (Kernel fault) o = absurd o
of_means_too Write o = tt
of_means_too Memory o = o

-- Why there is no sheet of means, which is found before anything is written.
pub means_of_means : (fault : MeansFault) → IsOfMeans (of_means fault)
means_of_means means.Incomplete = tt
means_of_means means.Memory = tt

pub means_none_written : (A : Type 0) (fault : MeansFault) (writer : WriterChange)
    → writer.failed' ≡ writer.failed → FailsAtWrite {A = A} (Err (of_means fault)) writer
means_none_written A means.Incomplete writer e = e
means_none_written A means.Memory writer e = e

-- Why a sheet of means was not written whole.
pub means_of_write : (fault : WriteFault) → IsOfMeans (of_write fault)
means_of_write writing.Write = tt
means_of_write writing.Memory = tt

pub written_as : (A : Type 0) (fault : WriteFault) (writer : WriterChange)
    → (fault ≡ writing.Memory → writer.failed' ≡ writer.failed)
    → (fault ≡ writing.Write → writer.failed' ≡ true)
    → FailsAtWrite {A = A} (Err (of_write fault)) writer
written_as A writing.Write writer m w = w refl
written_as A writing.Memory writer m w = m refl

pub unwritten_as : (A : Type 0) (fault : WriteFault) (writer : WriterChange)
    → (fault ≡ writing.Memory → writer.is_unasked)
    → IsUnwritten {A = A} (Err (of_write fault)) writer
unwritten_as A writing.Write writer m = tt
unwritten_as A writing.Memory writer m = m refl

-- An answer by a station leaves the sheet's reader read to its end.
pub left_by_station : (A : Type 0) (r : Result A Fault) (sheet : ReaderChange)
    → IfErr r IsOfReadSheet → IsReadOut sheet → Leaves sheet_left r sheet
left_by_station A (Ok a) sheet o h = h
left_by_station A (Err (Gsi fault)) sheet o h = absurd o
left_by_station A (Err (Book fault)) sheet o h = absurd o
left_by_station A (Err SheetRead) sheet o h = absurd o
left_by_station A (Err (Sheet fault)) sheet o h = absurd o
left_by_station A (Err NoStation) sheet o h = h
left_by_station A (Err (Means fault)) sheet o h = absurd o
left_by_station A (Err (Kernel fault)) sheet o h = h
left_by_station A (Err Write) sheet o h = absurd o
left_by_station A (Err Memory) sheet o h = absurd o

-- An answer after words were printed leaves the field file's reader as the words did, unless the
-- writer failed.
pub left_as : (r answer : Result ℕ Fault) (gsi : ReaderChange)
    → (r ≡ answer) ⊎ (r ≡ Err Write) → Leaves words_left answer gsi → Leaves words_left r gsi
left_as r answer gsi (inl e) h =
    subst (λ (x : Result ℕ Fault). Leaves words_left x gsi) (sym e) h
left_as r answer gsi (inr e) h =
    subst (λ (x : Result ℕ Fault). Leaves words_left x gsi) (sym e) tt

-- Where memory did not run out nothing is said of it.
pub not_memory : (r : Result ℕ Fault) (writer : WriterChange) → r ≢ Err Memory
    → MemoryWritesNothing r writer
not_memory (Ok count) writer never = tt
not_memory (Err (Gsi fault)) writer never = tt
not_memory (Err (Book fault)) writer never = tt
not_memory (Err SheetRead) writer never = tt
not_memory (Err (Sheet fault)) writer never = tt
not_memory (Err NoStation) writer never = tt
not_memory (Err (Means fault)) writer never = tt
not_memory (Err (Kernel fault)) writer never = tt
not_memory (Err Write) writer never = tt
not_memory (Err Memory) writer never = absurd (never refl)
