use Rattle.std.proofs.Common.{◌≡◌, Err, refl, rules}
use Rattle.byte_ends.proofs.Coming.{came_so}
use Rattle.gsi_file.specs.FileAnswers.{file_answers}
use Rattle.station_check.specs.declared.fault.Fault.TheVariants.{Write}
use Rattle.station_check.proofs.Leaving.{left_by, none_written, none_unasked, of_list}
use Rattle.station_check.proofs.Refusing.{list_refused}
use Rattle.station_check.proofs.list.write_noted_list.Goals as goal

pub returns-in_err-survey : goal.returns-in_err-survey
returns-in_err-survey g c =
    let fault = c.in_err-survey.field-0.0 in
    let is_its : c.from_residual.result ≡ Err fault = search rules in
    let read = rw c.in_err-survey.was at c.survey_of_file-surveyed.ensures.surveys in
    let of_file = rw c.in_err-survey.was at c.survey_of_file-surveyed.ensures.of_file in
    rw is_its (
      c.survey_of_file-surveyed.result.1,
      record {
        list = record {
          came = came_so _ _ _ read.came
              (λ gsi s. list_refused (Unit {0}) c.args.limits (file_answers gsi) _ _ _ of_file s);
          left = left_by (Unit {0}) _ fault _ c.in_err-survey.was
              c.survey_of_file-surveyed.ensures.surveys.left;
        };
        of_list = of_list fault of_file;
        fails = none_written (Unit {0}) fault _ of_file refl;
        flushed = tt;
        unwritten = none_unasked (Unit {0}) fault _ refl;
      },
    )

pub returns : goal.returns
returns g c =
    let read = rw c.in_ok-survey.was at c.survey_of_file-surveyed.ensures.surveys in (
      c.survey_of_file-surveyed.result.1,
      record {
        list = record {
          came = came_so _ _ _ read.came
              (λ gsi s. (
                _,
                record {
                  blocks = s.blocks;
                  file = s.file;
                  stations = _;
                  stations_are = s.stations_are;
                  text_is = refl;
                  unchecked_is = c.unchecked.ensures c.args.limits s.blocks s.stations_are
                      s.counted;
                },
                c.in_ok-write_stations.ensures.ok,
              ));
          left = read.left;
        };
        of_list = tt;
        fails = c.in_ok-write_stations.ensures.failed;
        flushed = c.in_ok-write_stations.ensures.flushed;
        unwritten = tt;
      },
    )

pub returns-in_err-write_stations : goal.returns-in_err-write_stations
returns-in_err-write_stations g c =
    let is_its : c.from_residual-in_err-write_stations.result ≡ Err Write = search rules in
    let read = rw c.in_ok-survey.was at c.survey_of_file-surveyed.ensures.surveys in
    rw is_its (
      c.survey_of_file-surveyed.result.1,
      record {
        list = record {
          came = came_so _ _ _ read.came
              (λ gsi s. (
                _,
                record {
                  stations = _;
                  survey = record {
                    blocks = s.blocks;
                    file = s.file;
                    stations_are = s.stations_are;
                  };
                  text_is = refl;
                },
                c.in_err-write_stations.ensures.cut_short,
              ));
          left = read.left;
        };
        of_list = tt;
        fails = c.in_err-write_stations.ensures.failed;
        flushed = tt;
        unwritten = tt;
      },
    )
