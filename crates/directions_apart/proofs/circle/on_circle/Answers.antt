use Rattle.std.proofs.Common.{◌≡◌, pos, arith, FitsSigned}
use Rattle.std.proofs.Math.IntN.{◌-ℤ◌}
use Rattle.std.proofs.lemmas.Int.{ints, to_z-of_z}
use mir.Syntax.{w64}
use Rattle.directions_apart.proofs.ArcLaws.{way_round_is}
use Rattle.directions_apart.proofs.circle.on_circle.Goals as goal

pub returns : goal.returns
returns c =
    let fits : FitsSigned w64 c.rem_euclid.result = record { sfits = c.rem_euclid.type_inv } in
    let stated : FitsSigned w64 c.args.stated = c.ranges.stated in
    let from_0 : c.args.stated -ℤ pos 0 ≡ c.args.stated = omega (arith, ints) in
    simp to_z-of_z (simp (c.rem_euclid.ensures.value, to_z-of_z)
    (simp from_0 at (way_round_is 32_400_000_000_000 (pos 0) c.args.stated (omega arith))))
