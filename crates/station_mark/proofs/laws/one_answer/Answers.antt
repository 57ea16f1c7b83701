use Rattle.station_mark.proofs.AnswerLaws.{one_answer}
use Rattle.station_mark.proofs.laws.one_answer.Goals as goal

pub returns : goal.returns
returns c = λ beginnings stated bytes file r s set also p h.
    one_answer beginnings stated bytes file r s set also p h
