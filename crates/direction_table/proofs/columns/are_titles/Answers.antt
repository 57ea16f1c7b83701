use Rattle.std.proofs.Common.{arith, length}
use Rattle.std.proofs.lemmas.Bool.{le-leb}
use Rattle.csv.specs.Records.{fields_of}
use Rattle.direction_table.specs.Directions.{is_direction}
use Rattle.direction_table.proofs.TwoColumns.{number_by, titles_tidy}
use Rattle.direction_table.proofs.columns.are_titles.Goals as goal

pub returns : goal.returns
returns c =
    rw (
      titles_tidy c.args.unit c.args.targets.now (fields_of c.args.row.now),
      le-leb 2 (length (fields_of c.args.row.now))
          (omega (arith, c.if-len-lt-COLUMNS.false, c.len.ensures)),
      ← c.field.ensures,
      ← c.named.ensures,
      ← c.has_target.ensures,
      c.if-has_target.false,
      ← c.field-2.ensures,
      ← c.without_blanks.ensures,
    ) (number_by c.of.result (is_direction c.args.unit c.without_blanks.result.now)
    c.is_none.result c.of.ensures.some c.of.ensures.none c.is_none.ensures)
