use Rattle.byte_ends.proofs.Coming.{came_so}
use Rattle.gsi_file.specs.FileAnswers.{file_answers}
use Rattle.std.proofs.Common.{Err}
use Rattle.gsi_file.specs.FileAnswers.{FileAnswers}
use Rattle.station_book.specs.Limits.{FaceLimits}
use Rattle.station_check.specs.Counting.{Counts}
use Rattle.station_check.specs.NotedSurveys.{NotesSurvey}
use Rattle.station_check.specs.declared.fault.Fault.{Fault}
use Rattle.station_check.specs.declared.fault.Fault.TheVariants.{Gsi, Book, SheetRead, Sheet}
use Rattle.station_check.specs.declared.fault.Fault.TheVariants.{NoStation, Means, Kernel, Write}
use Rattle.station_check.specs.declared.fault.Fault.TheVariants.{Memory}
use Rattle.station_check.proofs.list.noted_stations_of_file.Goals as goal

-- A fault is the same.
fault_noted : (limits : FaceLimits) (answers : FileAnswers) (fault : Fault)
    → Counts limits answers (Err fault) → NotesSurvey limits answers (Err fault)
fault_noted limits answers (Gsi fault) h = h
fault_noted limits answers (Book fault) h = h
fault_noted limits answers SheetRead h = h
fault_noted limits answers (Sheet fault) h = h
fault_noted limits answers NoStation h = h
fault_noted limits answers (Means fault) h = h
fault_noted limits answers (Kernel fault) h = h
fault_noted limits answers Write h = h
fault_noted limits answers Memory h = tt

pub returns-in-Ok-clause-surveys : goal.returns-in-Ok-clause-surveys
returns-in-Ok-clause-surveys g c =
    let read = rw c.in-Ok.is at c.survey_of_file-surveyed.ensures.surveys in
    record {
      came = came_so _ _ _ read.came
          (λ t s. record {
            blocks = s.blocks;
            file = s.file;
            stations_are = s.stations_are;
            unchecked_is = c.unchecked-unchecked.ensures c.args.limits s.blocks s.stations_are
                s.counted;
          });
      left = read.left;
    }

pub returns-in-Err-clause-surveys : goal.returns-in-Err-clause-surveys
returns-in-Err-clause-surveys g c =
    let read = rw c.in-Err.is at c.survey_of_file-surveyed.ensures.surveys in
    record {
      came = came_so _ _ _ read.came
          (λ t h. fault_noted c.args.limits (file_answers t) c.in-Err.fault h);
      left = read.left;
    }
