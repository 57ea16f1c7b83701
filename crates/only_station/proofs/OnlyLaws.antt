-- What is refused of a file's stations.
use Rattle.std.proofs.Common.{Err, [], refl}
use Rattle.gsi_file.specs.FileAnswers.{FileAnswers}
use Rattle.station_book.specs.Limits.{FaceLimits}
use Rattle.station_check.specs.Answerable.{IsOfFile}
use Rattle.station_check.specs.NotedSurveys.{NotesSurvey}
use Rattle.station_check.specs.declared.fault.Fault.{Fault}
use Rattle.station_check.specs.declared.fault.Fault.TheVariants as file
use Rattle.station_compare.specs.Faults.{of_file}
use Rattle.only_station.specs.Only.{IsRefusedOnly}

-- A fault of the file is what is refused, and has no hint.
pub refused_by_file : (limits : FaceLimits) (lines : FileAnswers) (fault : Fault) → IsOfFile fault
    → NotesSurvey limits lines (Err fault) → IsRefusedOnly limits lines (of_file fault) []
refused_by_file limits lines file.NoStation o h = absurd o
refused_by_file limits lines file.Memory o h = refl
refused_by_file limits lines fault o h = (h, refl)
