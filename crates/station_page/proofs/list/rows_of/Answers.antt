use Rattle.std.proofs.Common.{◌≡◌, Err, Some, ap, rules}
use Rattle.byte_ends.proofs.Coming.{came_as_told}
use Rattle.gsi_file.specs.FileAnswers.{FileAnswers, file_answers}
use Rattle.list_rows.specs.Listing.{TellsRows}
use Rattle.row_forms.specs.declared.form.RowForm.TheVariants.{Commas}
use Rattle.station_book.specs.Limits.{FaceLimits}
use Rattle.station_check.specs.Came.{source_of}
use Rattle.station_check.specs.NotedSurveys.{NotesSurvey}
use Rattle.station_check.specs.declared.fault.Fault.{Fault}
use Rattle.station_check.specs.declared.fault.Fault.TheVariants.{Memory}
use Rattle.station_page.proofs.list.rows_of.Goals as goal

-- A fault of the file is told as it stands.
fault_told : (limits : FaceLimits) (file : FileAnswers) (fault : Fault)
    → NotesSurvey limits file (Err fault) → TellsRows Commas limits file (Err fault)
fault_told limits file Memory h = tt
fault_told limits file fault h = h

pub returns-in_err-stations : goal.returns-in_err-stations
returns-in_err-stations c =
    let fault = c.in_err-stations.field-0.0 in
    let is_its : c.from_residual.result ≡ Err fault = search rules in
    let read = rw c.in_err-stations.was at c.noted_stations_of_file-noted.ensures.surveys in
    rw is_its (fault_told c.args.limits (file_answers (source_of c.args.gsi.now)) fault
    (came_as_told _ _ read.came (source_of c.args.gsi.now) (ap Some c.source_of.ensures)))

pub returns : goal.returns
returns c =
    let read = rw c.in_ok-stations.was at c.noted_stations_of_file-noted.ensures.surveys in
    record {
      list = record { text = c.in-Ok.rows.items; unchecked = c.in_ok-stations.unchecked };
      is_list = record {
        stations = c.in_ok-stations.stations;
        survey = came_as_told _ _ read.came (source_of c.args.gsi.now)
            (ap Some c.source_of.ensures);
        text_is = search rules;
      };
      text_is = search rules;
    }
