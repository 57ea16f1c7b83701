use Rattle.station_answers.proofs.SomeAnswer.{some_answer}
use Rattle.station_answers.proofs.laws.some_answer.Goals as goal

pub returns : goal.returns
returns g c = λ asked limits file name small.
    some_answer (g.A.StationAnswer.says asked limits) limits small file name
