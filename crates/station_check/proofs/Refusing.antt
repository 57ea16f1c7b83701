-- A fault of the field file, answered by the calls that write.
use Rattle.std.proofs.Common.{◌≡◌, ℕ, List, Option, refl}
use Rattle.std.specs.Prelude.{Err}
use Rattle.byte_ends.specs.Sink.{AppendsSome}
use Rattle.gsi_file.specs.FileAnswers.{FileAnswers}
use Rattle.sheet_format.specs.declared.fault.WriteFault.{WriteFault}
use Rattle.sheet_format.specs.declared.fault.WriteFault.TheVariants as writing
use Rattle.sheet_means.specs.declared.fault.MeansFault.{MeansFault}
use Rattle.sheet_means.specs.declared.fault.MeansFault.TheVariants as means
use Rattle.station_book.specs.Limits.{FaceLimits}
use Rattle.station_check.specs.declared.fault.Fault.{Fault}
use Rattle.station_check.specs.declared.fault.Fault.TheVariants.{Gsi, Book, SheetRead, Sheet}
use Rattle.station_check.specs.declared.fault.Fault.TheVariants.{NoStation, Means, Kernel, Write}
use Rattle.station_check.specs.declared.fault.Fault.TheVariants.{Memory}
use Rattle.station_check.specs.Answerable.{of_means, of_write, IsOfFile}
use Rattle.station_check.specs.Listing.{WritesList}
use Rattle.station_check.specs.Means.{HasIncomplete, IsMeansText, WritesMeans}
use Rattle.station_check.specs.Surveys.{Surveys}

-- A list of stations may be refused with a fault of the field file.
pub list_refused : (A : Type 0) (limits : FaceLimits) (answers : FileAnswers) (fault : Fault)
    (old new : Option (List ℕ)) → IsOfFile fault → Surveys limits answers (Err fault)
    → WritesList limits answers {A = A} (Err fault) old new
list_refused A limits answers (Gsi fault) old new o h = h
list_refused A limits answers (Book fault) old new o h = h
list_refused A limits answers SheetRead old new o h = absurd o
list_refused A limits answers (Sheet fault) old new o h = absurd o
list_refused A limits answers NoStation old new o h = absurd o
list_refused A limits answers (Means fault) old new o h = absurd o
list_refused A limits answers (Kernel fault) old new o h = absurd o
list_refused A limits answers Write old new o h = absurd o
list_refused A limits answers Memory old new o h = tt

-- So may a sheet of means.
pub means_refused : (A : Type 0) (limits : FaceLimits) (answers : FileAnswers) (name : List ℕ)
    (fault : Fault) (old new : Option (List ℕ)) → IsOfFile fault
    → Surveys limits answers (Err fault)
    → WritesMeans limits answers name {A = A} (Err fault) old new
means_refused A limits answers name (Gsi fault) old new o h = h
means_refused A limits answers name (Book fault) old new o h = h
means_refused A limits answers name SheetRead old new o h = absurd o
means_refused A limits answers name (Sheet fault) old new o h = absurd o
means_refused A limits answers name NoStation old new o h = absurd o
means_refused A limits answers name (Means fault) old new o h = absurd o
means_refused A limits answers name (Kernel fault) old new o h = absurd o
means_refused A limits answers name Write old new o h = absurd o
means_refused A limits answers name Memory old new o h = tt

-- There is no sheet of means of a station that has gaps, or no memory for one.
pub means_unmade : (A : Type 0) (limits : FaceLimits) (answers : FileAnswers) (name : List ℕ)
    (fault : MeansFault) (old new : Option (List ℕ))
    → (fault ≡ means.Incomplete → HasIncomplete limits answers name)
    → WritesMeans limits answers name {A = A} (Err (of_means fault)) old new
means_unmade A limits answers name means.Incomplete old new h = h refl
means_unmade A limits answers name means.Memory old new h = tt

-- A sheet of means is written in part where the writer failed, or there is no memory for its text.
pub means_unwritten : (A : Type 0) (limits : FaceLimits) (answers : FileAnswers) (name : List ℕ)
    (fault : WriteFault) (old new : Option (List ℕ))
    → (fault ≡ writing.Write
    → (text : List ℕ) × IsMeansText limits answers name text × AppendsSome old new text)
    → WritesMeans limits answers name {A = A} (Err (of_write fault)) old new
means_unwritten A limits answers name writing.Write old new h = h refl
means_unwritten A limits answers name writing.Memory old new h = tt
