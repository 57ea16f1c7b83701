use Rattle.direction_table.proofs.Prefixes.{prefix-is}
use Rattle.direction_table.specs.Degrees.{is_of_seconds}
use Rattle.direction_table.proofs.degrees.end_of_seconds.Goals as goal

pub returns-clause-value : goal.returns-clause-value
returns-clause-value c =
    prefix-is is_of_seconds c.args.bytes.now c.first_other.result c.unwrap_or.result
    c.first_other.ensures.value c.unwrap_or.ensures
