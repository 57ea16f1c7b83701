use Rattle.station_answers.proofs.AnswerLaws.{one_answer}
use Rattle.station_answers.proofs.laws.one_answer.Goals as goal

pub returns : goal.returns
returns g c = λ asked limits file name r s small set also p h.
    one_answer (g.A.StationAnswer.says asked limits) limits file name small
    (g.met.A.StationAnswer.adjusts asked limits) (g.met.A.StationAnswer.one asked limits)
    r s set also p h
