use Rattle.std.proofs.Common.{◌∙◌, ap, FitsSigned, rules}
use Rattle.std.proofs.lemmas.Int.{to_z-of_z}
use Rattle.std.specs.Fmt.{signed_decimal}
use Rattle.std.specs.Int.{w128}
use Rattle.sheet_format.proofs.text.push_set.Goals as goal

pub returns : goal.returns
returns g c =
    let fits : FitsSigned w128 c.args.orientation.now.value = search rules in
    let number = c.as_bytes.ensures.value ∙ c.format.ensures.text in
    let value = c.as_bytes-2.ensures.value ∙ c.format-2.ensures.text
    ∙ ap signed_decimal (to_z-of_z w128 c.args.orientation.now.value fits) in
    rw (
      c.as_slice.ensures,
      number,
      c.as_slice-2.ensures,
      value,
      c.as_slice-3.ensures,
    ) at c.push_row.ensures
