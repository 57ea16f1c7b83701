use Rattle.byte_ends.proofs.Coming.{came_so}
use Rattle.gsi_file.specs.FileAnswers.{file_answers}
use Rattle.station_check.proofs.Counted.{stations_alone, fault_alone}
use Rattle.station_check.proofs.survey.stations_of_file.Goals as goal

pub returns-in-Ok-clause-surveys : goal.returns-in-Ok-clause-surveys
returns-in-Ok-clause-surveys g c =
    let read = rw c.in-Ok.is at c.survey_of_file-survey.ensures.surveys in
    record {
      came = came_so _ _ _ read.came
          (λ t h. stations_alone c.args.limits (file_answers t) c.in-Ok.survey h);
      left = read.left;
    }

pub returns-in-Err-clause-surveys : goal.returns-in-Err-clause-surveys
returns-in-Err-clause-surveys g c =
    let read = rw c.in-Err.is at c.survey_of_file-survey.ensures.surveys in
    record {
      came = came_so _ _ _ read.came
          (λ t h. fault_alone c.args.limits (file_answers t) c.in-Err.fault h);
      left = read.left;
    }
