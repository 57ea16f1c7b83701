use Rattle.table_answers.proofs.AnswerLaws.{one_answer}
use Rattle.table_answers.proofs.laws.one_answer.Goals as goal

pub returns : goal.returns
returns g c = λ asked limits file stated name r s small set also p h.
    one_answer (g.A.TableAnswer.says asked limits) (g.A.TableAnswer.refuses asked limits)
    (g.met.A.TableAnswer.one asked limits) (g.met.A.TableAnswer.one_fault asked limits) limits
    (g.met.A.TableAnswer.never_both asked limits) small file stated name r s set also p h
