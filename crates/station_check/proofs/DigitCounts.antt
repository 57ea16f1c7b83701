-- How many digits a number has.
use Rattle.std.proofs.Common.{◌≡◌, ℕ, ◌+◌, ◌/◌, ◌^◌, ◌<◌, ◌≤◌, length, ap, ◌∙◌, arith}
use Rattle.std.specs.Fmt.{decimal}
use Rattle.itoa.proofs.Decimal.{length_one, length_two, length_pair, length_four}

pub one_digit : (n : ℕ) → n < 10 → length (decimal n) ≡ 1
one_digit n h = length_one n h

pub two_digits : (n : ℕ) → 10 ≤ n → n < 100 → length (decimal n) ≡ 2
two_digits n low high = length_two n low high

pub three_digits : (n : ℕ) → 100 ≤ n → n < 1000 → length (decimal n) ≡ 3
three_digits n low high =
    length_pair n low (omega arith)
    ∙ ap (λ (k : ℕ). k + 2) (length_one (n / 100) (omega arith))

pub four_digits : (n : ℕ) → 1000 ≤ n → n < 10000 → length (decimal n) ≡ 4
four_digits n low high =
    length_pair n (omega arith) (omega arith)
    ∙ ap (λ (k : ℕ). k + 2) (length_two (n / 100) (omega arith) (omega arith))

pub four_more : (n : ℕ) → 10000 ≤ n → n < 2 ^ 64
    → length (decimal n) ≡ length (decimal (n / 10000)) + 4
four_more n low high = length_four n low high

pub eight_more : (n : ℕ) → 100000000 ≤ n → n < 2 ^ 64
    → length (decimal n) ≡ length (decimal (n / 100000000)) + 8
eight_more n low high =
    let twice : n / 10000 / 10000 ≡ n / 100000000 = omega arith in
    length_four n (omega arith) high
    ∙ ap (λ (k : ℕ). k + 4) (length_four (n / 10000) (omega arith) (omega arith)
    ∙ ap (λ (m : ℕ). length (decimal m) + 4) twice)
    ∙ omega arith

-- Of a number below 10,000.
pub ruleset few_digits = (one_digit, two_digits, three_digits, four_digits)

-- Of a larger one.
pub ruleset more_digits = (four_more, eight_more)
