use Rattle.std.proofs.Common.{◌≡◌, ◌<◌, ◌≤◌, pos, FitsSigned, arith, sym, subst, ◌∙◌}
use mir.Syntax.{w64, w128}
use mir.Val.{to_z, of_z}
use Rattle.std.proofs.Math.IntN.{◌*ℤ◌}
use Rattle.std.specs.Int.RustNames.{unsigned_abs}
use Rattle.std.proofs.lemmas.Int.{to_z-of_z, to_z_pos, fits_signed_mul, unsigned_abs-mul}
use Rattle.std.proofs.lemmas.Nat.{mul-le}
use Rattle.adjust_kernel.specs.Within.{IsWithin}
use Rattle.adjust_kernel.proofs.GreatestLaws.{size_within, within_size}
use Rattle.adjust_kernel.proofs.residual.scaled.Goals as goal

pub overflow_cast-denominator : goal.overflow_cast-denominator
overflow_cast-denominator c =
    let few = c.requires.denominator in
    let small : c.args.denominator < 9223372036854775808 = omega (arith, few) in
    record { sfits = small }

observation_size : (c : goal.After-from-2) → unsigned_abs c.args.observation ≤ 800000000
observation_size c = size_within 800000000 c.args.observation c.requires.observation

-- The two numbers that are multiplied are the call's.
product : (c : goal.After-from-2)
    → to_z w128 (of_z w128 c.from.result) *ℤ to_z w128 (of_z w128 c.from-2.result)
    ≡ pos c.args.denominator *ℤ c.args.observation
product c =
    let few = c.requires.denominator in
    let small : c.args.denominator < 9223372036854775808 = omega (arith, few) in
    let denominator : to_z w128 (of_z w128 c.from.result) ≡ pos c.args.denominator =
    to_z-of_z w128 c.from.result (record { sfits = c.from.type_inv }) ∙ c.from.ensures
    ∙ to_z_pos w64 c.args.denominator small in
    let observation : to_z w128 (of_z w128 c.from-2.result) ≡ c.args.observation =
    to_z-of_z w128 c.from-2.result (record { sfits = c.from-2.type_inv }) ∙ c.from-2.ensures
    ∙ to_z-of_z w64 c.args.observation c.ranges.observation in
    λ i. denominator i *ℤ observation i

fits : (c : goal.After-from-2) → FitsSigned w128 (pos c.args.denominator *ℤ c.args.observation)
fits c = fits_signed_mul w128 (pos c.args.denominator) c.args.observation 1000000000000 800000000
    c.requires.denominator (observation_size c) (omega arith)

pub overflow_mul-result : goal.overflow_mul-result
overflow_mul-result c = subst (λ z. FitsSigned w128 z) (sym (product c)) (fits c)

value : (c : goal.After-from-2)
    → to_z w128 (of_z w128 (to_z w128 (of_z w128 c.from.result)
    *ℤ to_z w128 (of_z w128 c.from-2.result))) ≡ pos c.args.denominator *ℤ c.args.observation
value c = to_z-of_z w128 _ (overflow_mul-result c) ∙ product c

pub returns-clause-value : goal.returns-clause-value
returns-clause-value c = value c

pub returns-clause-bound : goal.returns-clause-bound
returns-clause-bound c =
    let most = mul-le c.args.denominator (unsigned_abs c.args.observation) 1000000000000 800000000
    c.requires.denominator (observation_size c) in
    let size = unsigned_abs-mul (pos c.args.denominator) c.args.observation in
    subst (λ z. IsWithin (pos 800000000000000000000) z) (sym (value c))
    (within_size 800000000000000000000 (pos c.args.denominator *ℤ c.args.observation)
    (λ above. omega (arith, most, size, above)))
