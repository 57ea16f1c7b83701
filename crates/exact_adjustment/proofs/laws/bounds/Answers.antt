use Rattle.std.proofs.Common.{◌≡◌, ◌^◌, refl, arith}
use Rattle.wide_number.specs.Limbs.{WIDE_LIMIT, limb_weight}
use Rattle.exact_adjustment.proofs.laws.bounds.Goals as goal

pub returns-clause-room : goal.returns-clause-room
unfolding WIDE_LIMIT limb_weight
returns-clause-room c = let wide : WIDE_LIMIT ≡ 2 ^ 832 = refl in omega (arith, wide)
