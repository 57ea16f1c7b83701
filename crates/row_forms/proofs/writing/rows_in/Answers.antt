use Rattle.std.proofs.Common.{refl, rules}
use Rattle.row_forms.proofs.writing.rows_in.Goals as goal

pub returns : goal.returns
returns g c empty = record {
  setup = search rules;
  fields = c.from_writer.ensures.fields;
  between = c.from_writer.ensures.wrote;
  whole = rw (c.from_writer.ensures.wtr, c.from_writer.ensures.empty, empty) refl;
}
