-- A survey and a list, without what was counted beside them.
use Rattle.std.proofs.Common.{◌≡◌, ℕ, Result, Ok, Err, Bool, true}
use Rattle.std.specs.Prelude.{⊤, IfErr}
use Rattle.byte_ends.proofs.Coming.{came_so}
use Rattle.byte_ends.specs.Sink.{WriterChange}
use Rattle.byte_ends.specs.Source.{ReaderChange}
use Rattle.gsi_file.specs.FileAnswers.{FileAnswers, file_answers}
use Rattle.station_book.specs.Limits.{FaceLimits}
use Rattle.station_check.specs.Answerable.{FailsAtWrite, IsUnwritten, Flushes}
use Rattle.station_check.specs.Counting.{Counts}
use Rattle.station_check.specs.Listing.{WritesList}
use Rattle.station_check.specs.Runs.{IsListRun, IsNotedListRun}
use Rattle.station_check.specs.Surveys.{Surveys}
use Rattle.station_check.specs.declared.fault.Fault.{Fault}
use Rattle.station_check.specs.declared.fault.Fault.TheVariants.{Gsi, Book, SheetRead, Sheet}
use Rattle.station_check.specs.declared.fault.Fault.TheVariants.{NoStation, Means, Kernel, Write}
use Rattle.station_check.specs.declared.fault.Fault.TheVariants.{Memory}
use Rattle.station_check.specs.declared.survey.Survey.{Survey}

-- The stations alone.
pub stations_alone : (limits : FaceLimits) (answers : FileAnswers) (survey : Survey)
    → Counts limits answers (Ok survey) → Surveys limits answers (Ok survey.stations)
stations_alone limits answers survey h =
    record { blocks = h.blocks; file = h.file; stations_are = h.stations_are }

-- A fault is the same.
pub fault_alone : (limits : FaceLimits) (answers : FileAnswers) (fault : Fault)
    → Counts limits answers (Err fault) → Surveys limits answers (Err fault)
fault_alone limits answers (Gsi fault) h = h
fault_alone limits answers (Book fault) h = h
fault_alone limits answers SheetRead h = h
fault_alone limits answers (Sheet fault) h = h
fault_alone limits answers NoStation h = h
fault_alone limits answers (Means fault) h = h
fault_alone limits answers (Kernel fault) h = h
fault_alone limits answers Write h = h
fault_alone limits answers Memory h = tt

-- A list that is written, without its note.
pub list_alone : (limits : FaceLimits) (gsi : ReaderChange) (unchecked : ℕ) (out : WriterChange)
    → IsNotedListRun limits gsi (Ok unchecked) out → IsListRun {A = ⊤} limits gsi (Ok tt) out
list_alone limits gsi unchecked out h = record {
  list = record {
    came = came_so gsi _ _ h.list.came
        (λ t w. (
          w.0,
          record {
            stations = w.1.stations;
            survey = record {
              blocks = w.1.blocks;
              file = w.1.file;
              stations_are = w.1.stations_are;
            };
            text_is = w.1.text_is;
          },
          w.2,
        ));
    left = h.list.left;
  };
  of_list = tt;
  fails = h.fails;
  flushed = h.flushed;
  unwritten = tt;
}

same_list : (limits : FaceLimits) (answers : FileAnswers) (fault : Fault)
    (out : WriterChange) → WritesList limits answers {A = ℕ} (Err fault) out.holds out.holds'
    → WritesList limits answers {A = ⊤} (Err fault) out.holds out.holds'
same_list limits answers (Gsi fault) out h = h
same_list limits answers (Book fault) out h = h
same_list limits answers SheetRead out h = h
same_list limits answers (Sheet fault) out h = h
same_list limits answers NoStation out h = h
same_list limits answers (Means fault) out h = h
same_list limits answers (Kernel fault) out h = h
same_list limits answers Write out h = h
same_list limits answers Memory out h = tt

same_failure : (fault : Fault) (out : WriterChange) → FailsAtWrite {A = ℕ} (Err fault) out
    → FailsAtWrite {A = ⊤} (Err fault) out
same_failure (Gsi fault) out h = h
same_failure (Book fault) out h = h
same_failure SheetRead out h = h
same_failure (Sheet fault) out h = h
same_failure NoStation out h = h
same_failure (Means fault) out h = h
same_failure (Kernel fault) out h = h
same_failure Write out h = h
same_failure Memory out h = h

same_silence : (fault : Fault) (out : WriterChange) → IsUnwritten {A = ℕ} (Err fault) out
    → IsUnwritten {A = ⊤} (Err fault) out
same_silence (Gsi fault) out h = h
same_silence (Book fault) out h = h
same_silence SheetRead out h = h
same_silence (Sheet fault) out h = h
same_silence NoStation out h = h
same_silence (Means fault) out h = h
same_silence (Kernel fault) out h = h
same_silence Write out h = tt
same_silence Memory out h = h

-- The refusal of a list, likewise.
pub refusal_alone : (limits : FaceLimits) (gsi : ReaderChange) (fault : Fault) (out : WriterChange)
    → IsNotedListRun limits gsi (Err fault) out → IsListRun {A = ⊤} limits gsi (Err fault) out
refusal_alone limits gsi fault out h = record {
  list = record {
    came = came_so gsi _ _ h.list.came
        (λ t w. same_list limits (file_answers t) fault out w);
    left = h.list.left;
  };
  of_list = h.of_list;
  fails = same_failure fault out h.fails;
  flushed = tt;
  unwritten = same_silence fault out h.unwritten;
}
