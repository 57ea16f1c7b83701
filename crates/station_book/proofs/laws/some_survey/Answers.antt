use Rattle.station_book.proofs.histories.SomeSurvey.{some_survey}
use Rattle.station_book.proofs.laws.some_survey.Goals as goal

pub returns : goal.returns
returns c = some_survey
