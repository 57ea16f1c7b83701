use Rattle.instrument_reports.proofs.LawLemmas.{one_text}
use Rattle.instrument_reports.specs.Answers.{SaysRowsOf}
use Rattle.instrument_reports.specs.Rows.{with_recorded_rows}
use Rattle.station_answers.proofs.AnswerLaws.{one_answer}
use Rattle.station_answers.specs.OneTexts.{one_rows}
use Rattle.instrument_reports.proofs.laws.one_answer.Goals as goal

pub returns : goal.returns
returns c = λ form limits file name r s small set also p h.
    one_answer (SaysRowsOf file form) limits file name small
    (λ its text said. said.is_own.adjusted.adjustable)
    (λ its a b x y. one_text (with_recorded_rows form) file _
    (λ v w. one_rows form its v w) a b x y) r s set also p h
