use Rattle.instrument_reports.proofs.LawLemmas.{one_text}
use Rattle.instrument_reports.specs.Answers.{SaysReportOf}
use Rattle.instrument_words.specs.Below.{on_pages}
use Rattle.station_answers.proofs.AnswerLaws.{one_answer}
use Rattle.station_answers.specs.OneTexts.{one_report}
use Rattle.instrument_reports.proofs.laws.one_report.Goals as goal

pub returns : goal.returns
returns c = λ head limits file name r s small set also p h.
    one_answer (SaysReportOf file head limits) limits file name small
    (λ its text said. said.is_own.computed.adjusted.adjustable)
    (λ its a b x y. one_text (on_pages head.notes.language) file _
    (λ v w. one_report head limits its v w) a b x y) r s set also p h
