use Rattle.std.proofs.Common.{inr, subst}
use Rattle.byte_ends.specs.Writers.{writer_change}
use Rattle.command_run.specs.Answering.{TellsHindrance}
use Rattle.command_run.proofs.status.status_of_words.Goals as goal

-- Nothing was asked of `err` before what is told of the hindrance.
pub returns-in-Err-clause-status : goal.returns-in-Err-clause-status
returns-in-Err-clause-status g c = record {
  asked = c.in_ok-request.request;
  of_words = c.in_ok-request.ensures.asked;
  answered = inr (record {
    hindrance = c.in-Err.hindrance;
    why = c.in-Err.ensures.hindered;
    told = subst
        (λ e. TellsHindrance c.in-Err.hindrance c.report_hindrance.result
        (writer_change g.E.Sink e c.report_hindrance.new.err))
        c.in-Err.ensures.unchanged.1 c.report_hindrance.ensures.told;
    unwritten = c.in-Err.ensures.unchanged.0;
  });
}
