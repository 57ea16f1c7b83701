use Rattle.std.proofs.Common.{◌≡◌, ◌∙◌, ℕ, List, Err, Ok, refl, rules, sym}
use Rattle.byte_ends.proofs.Coming.{came_so}
use Rattle.gsi_file.specs.FileAnswers.{file_answers}
use Rattle.station_compare.proofs.Comparisons.{left_by_file}
use Rattle.station_compare.specs.Faults.{of_file}
use Rattle.station_compare.specs.Refusals.{unhinted}
use Rattle.only_station.proofs.OnlyLaws.{refused_by_file}
use Rattle.only_station.proofs.only.only_station.Goals as goal

pub returns-in-Some : goal.returns-in-Some
returns-in-Some g c =
    let found = c.in-Ok.found in
    let file = rw c.in-Ok.is at c.noted_stations_of_file-noted.ensures.surveys in (
      c.noted_stations_of_file-noted.result.1,
      record {
        came = came_so _ _ _ file.came
            (λ gsi survey. record {
              stations = found.0;
              unchecked = found.1;
              survey = survey;
              named = sym c.only_name.ensures ∙ c.in-Some.is;
            });
        left = file.left;
      },
    )

pub returns : goal.returns
returns g c =
    let found = c.in-Ok.found in
    let file = rw c.in-Ok.is at c.noted_stations_of_file-noted.ensures.surveys in (
      c.noted_stations_of_file-noted.result.1,
      record {
        came = came_so _ _ _ file.came
            (λ gsi survey. record {
              stations = found.0;
              unchecked = found.1;
              survey = survey;
              unnamed = sym c.only_name.ensures ∙ c.in-None.is;
              hint_is = c.stations_hint.ensures;
            });
        left = file.left;
      },
    )

pub returns-in-Err : goal.returns-in-Err
returns-in-Err g c =
    let limits = c.args.limits in
    let fault = c.in-Err.fault in
    let file = rw c.in-Err.is at c.noted_stations_of_file-noted.ensures.surveys in
    let own = rw c.in-Err.is at c.noted_stations_of_file-noted.ensures.of_file in
    let is_its : c.from-in-Err.result ≡ unhinted (of_file fault) = search rules in
    rw is_its (
      c.noted_stations_of_file-noted.result.1,
      record {
        came = came_so _ _ _ file.came
            (λ gsi survey. refused_by_file limits (file_answers gsi) fault own survey);
        left = left_by_file {B = List ℕ} c.noted_stations_of_file-noted.result.0 fault
            (Err (of_file fault)) _ c.in-Err.is refl
            c.noted_stations_of_file-noted.ensures.surveys.left;
      },
    )
