-- Which of two steps is finer, and the limits by the number of decimals.
use Rattle.std.proofs.Common.{◌≡◌, ℕ, zero, suc, ◌+◌, ◌*◌, ◌≤◌, refl, arith}
use Rattle.std.specs.Prelude.{◌-◌, ◌^◌}
use Rattle.std.proofs.Math.Nat.{pow-le-pow_right}
use Rattle.direction_table.specs.Texts.{step_of}
use Rattle.direction_table.specs.UsualLimits.{finer, limit_of_step}

-- 0 is none.
pub finer-none : (step : ℕ) → finer step 0 ≡ step
finer-none step = grind arith

-- Of three steps the finest is one, in whichever order they are told.
pub finer-again : (a b c : ℕ) → finer a (finer b c) ≡ finer (finer a b) c
finer-again a b c = grind arith

pub finer-other : (a b : ℕ) → finer a b ≡ finer b a
finer-other a b = grind arith

-- A step is finer than those that are no smaller.
pub finer-first : (a b : ℕ) → 1 ≤ a → a ≤ b → finer a b ≡ a
finer-first a b some more = grind arith

-- The finer of two steps is no larger than both may be.
pub finer-small : (a b most : ℕ) → a ≤ most → b ≤ most → finer a b ≤ most
finer-small a b most h k = grind arith

pub few : (decimals : ℕ) → 1 ≤ decimals → decimals ≤ 4
    → 2000 * limit_of_step (81 * step_of decimals) ≡ step_of decimals + 10000
few zero some most = absurd (omega (arith, some))
few (suc zero) some most = refl
few (suc (suc zero)) some most = refl
few (suc (suc (suc zero))) some most = refl
few (suc (suc (suc (suc zero)))) some most = refl
few (suc (suc (suc (suc (suc k))))) some most = absurd (omega (arith, most))

pub many : (decimals : ℕ) → 5 ≤ decimals → limit_of_step (81 * step_of decimals) ≤ 10
many decimals enough =
    let few : 9 - decimals ≤ 4 = omega (arith, enough) in
    let small : 10 ^ (9 - decimals) ≤ 10 ^ 4 = pow-le-pow_right (omega arith) few in
    omega (arith, small)
