-- What powers of ten leave of a number of at most thirty digits.
use Rattle.std.proofs.Common.{◌≡◌, ℕ, ◌≤◌, ◌<◌, ◌/◌, ◌%◌, ◌^◌, ◌==◌, ap, sym, arith}
use Rattle.std.proofs.Math.Nat.{div-eq_of_lt, mod-eq_of_lt, one-le-pow, pow-le-pow_right}

pub divisor-some : (power : ℕ) → 1 ≤ 10 ^ power
divisor-some power = one-le-pow power 10 (omega arith)

pub small-divisor : (power : ℕ) → power ≤ 30
    → 10 ^ power < 340282366920938463463374607431768211456
small-divisor power few =
    let most : 10 ^ power ≤ 10 ^ 30 = pow-le-pow_right (omega arith) few in
    omega (arith, most)

module _ (value power : ℕ) (small : value < 10 ^ 30) (more : 30 < power) where
  large : value < 10 ^ power
  large =
      let few : 30 ≤ power = omega (arith, more) in
      let least : 10 ^ 30 ≤ 10 ^ power = pow-le-pow_right (omega arith) few in
      omega (arith, small, least)

  -- A larger power is in none.
  pub none-of : value / 10 ^ power ≡ 0
  none-of = div-eq_of_lt large

  -- All of it is left over.
  pub whole-of : (value == 0) ≡ (value % 10 ^ power == 0)
  whole-of = ap (λ n. n == 0) (sym (mod-eq_of_lt large))
