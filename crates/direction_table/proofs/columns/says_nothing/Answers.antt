use Rattle.std.proofs.Common.{refl}
use Rattle.csv.specs.Records.{fields_of}
use Rattle.direction_table.specs.Directions.{is_direction}
use Rattle.direction_table.proofs.TwoColumns.{number_by, silent_tidy}
use Rattle.direction_table.proofs.columns.says_nothing.Goals as goal

pub returns-then-not-has_target : goal.returns-then-not-has_target
returns-then-not-has_target c =
    rw (
      silent_tidy c.args.unit c.args.targets.now (fields_of c.args.row.now),
      ← c.field.ensures,
      ← c.named.ensures,
      ← c.has_target.ensures,
      c.if-not-has_target.true,
      ← c.field-then-not-has_target.ensures,
      ← c.without_blanks.ensures,
    ) (number_by c.of.result (is_direction c.args.unit c.without_blanks.result.now)
    c.is_none.result c.of.ensures.some c.of.ensures.none c.is_none.ensures)

pub returns-else-not-has_target : goal.returns-else-not-has_target
returns-else-not-has_target c =
    rw (
      silent_tidy c.args.unit c.args.targets.now (fields_of c.args.row.now),
      ← c.field.ensures,
      ← c.named.ensures,
      ← c.has_target.ensures,
      c.if-not-has_target.false,
    ) refl
