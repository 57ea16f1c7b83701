use Rattle.std.proofs.Common.{◌≡◌, Err, Ok, refl, rules}
use Rattle.byte_ends.proofs.Coming.{came_so}
use Rattle.gsi_file.specs.FileAnswers.{file_answers, FileAnswers}
use Rattle.list_rows.specs.Listing.{TellsRows}
use Rattle.row_forms.specs.declared.form.RowForm.{RowForm}
use Rattle.station_book.specs.Limits.{FaceLimits}
use Rattle.station_check.specs.NotedSurveys.{NotesSurvey}
use Rattle.station_check.specs.declared.fault.Fault.{Fault}
use Rattle.station_check.specs.declared.fault.Fault.TheVariants.{Gsi, Book, SheetRead, Sheet}
use Rattle.station_check.specs.declared.fault.Fault.TheVariants.{NoStation, Means, Kernel, Write}
use Rattle.station_check.specs.declared.fault.Fault.TheVariants.{Memory}
use Rattle.list_rows.proofs.rows.write_rows.Goals as goal

-- A fault of the file is told as it stands.
fault-told : (form : RowForm) (limits : FaceLimits) (file : FileAnswers) (fault : Fault)
    → NotesSurvey limits file (Err fault) → TellsRows form limits file (Err fault)
fault-told form limits file (Gsi fault) h = h
fault-told form limits file (Book fault) h = h
fault-told form limits file SheetRead h = h
fault-told form limits file (Sheet fault) h = h
fault-told form limits file NoStation h = h
fault-told form limits file (Means fault) h = h
fault-told form limits file (Kernel fault) h = h
fault-told form limits file Write h = h
fault-told form limits file Memory h = tt

pub returns-in_err-stations : goal.returns-in_err-stations
returns-in_err-stations g c =
    let fault = c.in_err-stations.field-0.0 in
    let is_its : c.from_residual.result ≡ Err fault = search rules in
    let read = rw c.in_err-stations.was at c.noted_stations_of_file-noted.ensures.surveys in
    let of_file = rw c.in_err-stations.was at c.noted_stations_of_file-noted.ensures.of_file in
    rw is_its (
      c.noted_stations_of_file-noted.result.1,
      record {
        answer = Err fault;
        tells = record {
          came = came_so _ _ _ read.came
              (λ gsi s. fault-told c.args.form c.args.limits (file_answers gsi) fault s);
          left = read.left;
        };
        of_file = of_file;
        printed = (refl, refl);
        noted = tt;
      },
    )

pub returns-in_default : goal.returns-in_default
returns-in_default g c =
    let read = rw c.in_ok-stations.was at c.noted_stations_of_file-noted.ensures.surveys in (
      c.noted_stations_of_file-noted.result.1,
      record {
        answer = Err Memory;
        tells = record {
          came = came_so _ _ _ read.came (λ gsi s. tt);
          left = read.left.unfailed;
        };
        of_file = tt;
        printed = (refl, refl);
        noted = tt;
      },
    )

pub returns : goal.returns
returns g c =
    let read = rw c.in_ok-stations.was at c.noted_stations_of_file-noted.ensures.surveys in (
      c.noted_stations_of_file-noted.result.1,
      record {
        answer = Ok (record { text = c.in-Ok.text.items; unchecked = c.in_ok-stations.unchecked });
        tells = record {
          came = came_so _ _ _ read.came
              (λ gsi s. record {
                stations = c.in_ok-stations.stations;
                survey = s;
                text_is = search rules;
              });
          left = read.left;
        };
        of_file = tt;
        printed = (record { got = search rules; unfailed = search rules }, search rules);
        noted = refl;
      },
    )

pub returns-in_err-write_whole : goal.returns-in_err-write_whole
returns-in_err-write_whole g c =
    let is_its : c.from_residual-in_err-write_whole.result ≡ Err Write = search rules in
    let read = rw c.in_ok-stations.was at c.noted_stations_of_file-noted.ensures.surveys in
    rw is_its (
      c.noted_stations_of_file-noted.result.1,
      record {
        answer = Ok (record { text = c.in-Ok.text.items; unchecked = c.in_ok-stations.unchecked });
        tells = record {
          came = came_so _ _ _ read.came
              (λ gsi s. record {
                stations = c.in_ok-stations.stations;
                survey = s;
                text_is = search rules;
              });
          left = read.left;
        };
        of_file = tt;
        printed = (refl, record { got = search rules; call_failed = search rules });
        noted = tt;
      },
    )
