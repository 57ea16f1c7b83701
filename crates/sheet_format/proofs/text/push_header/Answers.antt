use Rattle.std.proofs.Common.{◌∙◌}
use Rattle.sheet_format.proofs.text.push_header.Goals as goal

pub returns : goal.returns
returns g c =
    let number = c.as_bytes.ensures.value ∙ c.format.ensures.text in
    rw (
      c.as_slice.ensures,
      c.text.ensures,
      c.bytes.ensures.value,
      number,
      c.as_slice-2.ensures,
    ) at c.push_row.ensures
