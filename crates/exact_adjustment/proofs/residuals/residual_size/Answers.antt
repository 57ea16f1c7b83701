use Rattle.std.proofs.Common.{FitsSigned, ap, rules, ◌∙◌}
use Rattle.std.proofs.Math.IntN.{+ℤ_idl}
use Rattle.std.specs.Int.RustNames.{unsigned_abs}
use Rattle.std.proofs.lemmas.Int.{to_z-of_z}
use mir.Syntax.{w8}
use Rattle.exact_adjustment.proofs.residuals.residual_size.Goals as goal

pub returns : goal.returns
returns c =
    let fits : FitsSigned w8 c.args.turn = search rules in
    c.difference.ensures ∙ ap unsigned_abs (simp (
      to_z-of_z,
      c.denominator.ensures.value,
      c.directions.ensures.value,
      c.orientations.ensures.value,
      c.zero-left.ensures,
      c.zero-right.ensures,
      +ℤ_idl,
    ) at c.add_residual.ensures.sum)
