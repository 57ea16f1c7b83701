use Rattle.table_answers.proofs.ComparisonRuns.{is_compare_run}
use Rattle.table_answers.proofs.comparison.run_compare.Goals as goal

pub returns : goal.returns
returns g c =
    let (dropped, run) = c.run_table_answer.ensures in (
      dropped,
      record {
        answer = run.answer;
        note = run.note;
        so = is_compare_run c.args.form c.args.limits c.args.within _ _ c.args.name.now run.answer
            run.note _ run.so;
        exits = run.exits;
        told = run.told;
      },
    )
