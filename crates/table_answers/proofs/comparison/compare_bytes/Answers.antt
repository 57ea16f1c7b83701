use Rattle.table_answers.proofs.ComparisonRuns.{is_comparison}
use Rattle.table_answers.proofs.comparison.compare_bytes.Goals as goal

pub returns : goal.returns
returns g c = (
  c.table_answer_of-answer.result.1,
  rw c.verdict_of.ensures
      (is_comparison c.args.form c.args.limits c.args.within _ _ c.args.name.now
      c.table_answer_of-answer.result.0 c.table_answer_of-answer.ensures),
)
