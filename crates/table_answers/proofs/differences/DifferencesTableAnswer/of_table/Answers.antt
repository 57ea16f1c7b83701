use Rattle.std.proofs.Common.{rules}
use Rattle.table_answers.proofs.differences.DifferencesTableAnswer.of_table.Goals as goal

pub returns-clause-tells : goal.returns-clause-tells
returns-clause-tells c =
    let told = c.in_ok-lines.ensures.tells in (
      record {
        stated = told.0.stated;
        states = told.0.states;
        enough = told.0.enough;
        lines = c.in_ok-lines.lines.answer.items;
        are_lines = told.0.are_lines;
        text_is = search rules;
      },
      told.1,
    )
