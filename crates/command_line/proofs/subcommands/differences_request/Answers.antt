use Rattle.command_line.proofs.TableLaws.{lacks-table}
use Rattle.command_line.proofs.subcommands.differences_request.Goals as goal

pub returns-in_default-clause-none : goal.returns-in_default-clause-none
returns-in_default-clause-none c = lacks-table _ c.in_default.ensures.none

pub returns-in_default-table_of_one-clause-none : goal.returns-in_default-table_of_one-clause-none
returns-in_default-table_of_one-clause-none c =
    lacks-table _ c.in_default-table_of_one.ensures.none
