use Rattle.std.proofs.Common.{refl, sym, ◌∙◌}
use Rattle.sheet_format.proofs.FiveColumns.{five}
use Rattle.sheet_format.proofs.columns.Columns.parse.Goals as goal

pub returns : goal.returns
returns c =
    let e = five _ (sym c.len.ensures ∙ c.if-len-ne-COLUMNS.false) in
    rw (
      c.field.ensures,
      c.field-2.ensures,
      c.field-3.ensures,
      c.field-4.ensures,
      c.field-5.ensures,
      e,
    ) refl
