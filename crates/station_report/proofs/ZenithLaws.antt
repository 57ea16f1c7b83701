-- The zenith angles of a target: the rounded root, and the standard deviation of their mean.
use Rattle.std.proofs.Common.{◌≡◌, ℕ, zero, suc, ◌+◌, ◌-◌, ◌*◌, ◌/◌, ◌≤◌, ◌<◌, List, [], ◌∷◌, ◌++◌}
use Rattle.std.proofs.Common.{ℤ, pos, negsuc, ◌≤ℤ◌, Bool, arith, ap, length, refl, subst}
use Rattle.std.proofs.Common.{sym, ◌∙◌}
use native.Mathlib.Decide.{dec_le}
use Rattle.std.proofs.Math.IntN.{◌*ℤ◌, ◌-ℤ◌}
use Rattle.std.proofs.Math.Nat.{le_of_mul-le-mul_left, mul-le-mul, mul-le-mul_left}
use Rattle.std.proofs.Math.Nat.{mul-le-mul_right}
use Rattle.std.proofs.lemmas.Bool.{eq-eqb, le-leb, lt-leb}
use Rattle.std.proofs.lemmas.Int.{ints}
use Rattle.std.proofs.lemmas.List.{get_or-map, length-append}
use Rattle.std.proofs.lemmas.List.Sums.{sum_by-cons}
use Rattle.std.specs.List.{sum, sum_by}
use Rattle.std.specs.Prelude.{if◌then◌else◌, unsigned_abs}
use Rattle.adjust_kernel.specs.Sums.{int_sum_by, squared}
use Rattle.adjust_kernel.proofs.LeastLaws.{squared-not_negative}
use Rattle.adjust_kernel.proofs.Ring.{num, ◌⊖◌, ◌⊗◌, same_value}
use Rattle.adjust_kernel.proofs.SumLaws.{int_sum_by-not_negative}
use Rattle.adjust_kernel.specs.Stations.{IsStation}
use Rattle.adjust_kernel.specs.declared.obs.Obs.{Obs}
use Rattle.station_book.specs.Stations.{SurveyedStation}
use Rattle.station_report.specs.Columns.{each_place}
use Rattle.station_report.specs.Deviations.{square_above, square_below}
use Rattle.station_report.specs.Readings.{target_at}
use Rattle.station_report.specs.ZenithSums.{AreSumsOf}
use Rattle.station_report.specs.Zeniths.{IsZenithDeviation, parts_of_mean, root_up_to, rounded_root}
use Rattle.station_report.specs.Zeniths.{zenith_deviation, zenith_mean_at, zenith_of}
use Rattle.station_report.specs.Zeniths.{zenith_residual, zenith_squares, zeniths_of}
use Rattle.station_report.specs.declared.zenith_sums.ZenithSums.{ZenithSums}
use Rattle.station_report.proofs.DeviationLaws.{one_number, rounded_by_quotient, squares_apart}
use Rattle.station_report.proofs.PlaceLaws.{each_place-more}

-- This is what is found up to a bound: no larger than it, and where it is less, the next number's
-- square is too large.
record IsRootTo (n parts quarters root : ℕ) : Type 0 where
  order : root ≤ n
  low : parts * square_below root ≤ quarters
  high : root < n → quarters < parts * square_above root

square_next : (n : ℕ) → square_below (suc n) ≡ square_above n
square_next n = let k : 2 * suc n - 1 ≡ 2 * n + 1 = omega arith in ap (λ m. m * m) k

-- One number more.
root_to_next : (n parts quarters : ℕ) → IsRootTo n parts quarters (root_up_to n parts quarters)
    → IsRootTo (suc n) parts quarters (root_up_to (suc n) parts quarters)
root_to_next n parts quarters before =
    by (dec_le (parts * square_below (suc n)) quarters)
  where
    next : quarters < parts * square_below (suc n) → Dec (n ≤ root_up_to n parts quarters)
        → quarters < parts * square_above (root_up_to n parts quarters)
    next more (yes l) =
        let order = before.order in
        let e : n ≡ root_up_to n parts quarters = omega (arith, l, order) in
        subst (λ r. quarters < parts * square_above r) e
        (subst (λ s. quarters < parts * s) (square_next n) more)
    next more (no m) = before.high (omega (arith, m))

    by : Dec (parts * square_below (suc n) ≤ quarters)
        → IsRootTo (suc n) parts quarters (root_up_to (suc n) parts quarters)
    by (yes l) =
        let e : suc n ≡ root_up_to (suc n) parts quarters =
        sym (ap (λ (b : Bool). if b then suc n else root_up_to n parts quarters)
        (le-leb (parts * square_below (suc n)) quarters l)) in
        subst (IsRootTo (suc n) parts quarters) e (record {
          order = omega arith;
          low = l;
          high = λ less. absurd (omega (arith, less));
        })
    by (no m) =
        let more : quarters < parts * square_below (suc n) = omega (arith, m) in
        let order = before.order in
        let e : root_up_to n parts quarters ≡ root_up_to (suc n) parts quarters =
        sym (ap (λ (b : Bool). if b then suc n else root_up_to n parts quarters)
        (lt-leb (parts * square_below (suc n)) quarters more)) in
        subst (IsRootTo (suc n) parts quarters) e (record {
          order = omega (arith, order);
          low = before.low;
          high = λ less. next more (dec_le n (root_up_to n parts quarters));
        })

root_up_to_is : (n parts quarters : ℕ) → IsRootTo n parts quarters (root_up_to n parts quarters)
root_up_to_is zero parts quarters = record {
  order = omega arith;
  low = omega arith;
  high = λ less. absurd (omega (arith, less));
}
root_up_to_is (suc n) parts quarters =
    root_to_next n parts quarters (root_up_to_is n parts quarters)

-- The rounded root is as large as that, and no larger.
rounded_root_is : (parts quarters : ℕ) → 1 ≤ parts
    → (parts * square_below (rounded_root parts quarters) ≤ quarters)
    × (quarters < parts * square_above (rounded_root parts quarters))
rounded_root_is parts quarters some = (
  found.low,
  high (dec_le quarters (rounded_root parts quarters)),
)
  where
    found : IsRootTo quarters parts quarters (rounded_root parts quarters)
    found = root_up_to_is quarters parts quarters

    high : Dec (quarters ≤ rounded_root parts quarters)
        → quarters < parts * square_above (rounded_root parts quarters)
    high (yes l) =
        let root = rounded_root parts quarters in
        let one : 1 * (2 * root + 1) ≤ (2 * root + 1) * (2 * root + 1) =
        mul-le-mul_right (2 * root + 1) (omega arith) in
        let times : 1 * square_above root ≤ parts * square_above root =
        mul-le-mul_right (square_above root) some in
        omega (arith, l, one, times)
    high (no m) = found.high (omega (arith, m))

-- No sum of squares is negative.
not_negative : (zeniths : List ℕ) → pos 0 ≤ℤ zenith_squares zeniths
not_negative zeniths =
    int_sum_by-not_negative (λ one. squared (zenith_residual zeniths one))
    (λ one. squared-not_negative (zenith_residual zeniths one)) zeniths

same_as_size : (z : ℤ) → pos 0 ≤ℤ z → pos (unsigned_abs z) ≡ z
same_as_size (pos n) h = refl
same_as_size (negsuc n) h = absurd (omega (arith, ints, h))

some_parts : (n : ℕ) → 2 ≤ n → 1 ≤ (n - 1) * n * (n * n)
some_parts n h =
    let one : 1 ≤ n = omega (arith, h) in
    let free : 1 ≤ n - 1 = omega (arith, h) in
    let less : 1 * 1 ≤ (n - 1) * n = mul-le-mul free one in
    let square : 1 * 1 ≤ n * n = mul-le-mul one one in
    let both : (1 * 1) * (1 * 1) ≤ (n - 1) * n * (n * n) = mul-le-mul less square in
    omega (arith, both)

-- The deviation is that of the mean, and no other number is.
pub is_deviation : (zeniths : List ℕ) → 2 ≤ length zeniths
    → IsZenithDeviation zeniths (zenith_deviation zeniths)
is_deviation zeniths some =
    let n = length zeniths in
    let root = rounded_root_is (parts_of_mean zeniths * (n * n))
    (100 * unsigned_abs (zenith_squares zeniths)) (some_parts n some) in
    let low = root.0 in
    let high = root.1 in
    let same = same_as_size (zenith_squares zeniths) (not_negative zeniths) in
    record { low = omega (arith, ints, low, same); high = omega (arith, ints, high, same) }

pub one_deviation : (zeniths : List ℕ) (units : ℕ) → 2 ≤ length zeniths
    → IsZenithDeviation zeniths units → units ≡ zenith_deviation zeniths
one_deviation zeniths units some is =
    let n = length zeniths in
    let the = is_deviation zeniths some in
    one_number square_below square_above squares_apart (parts_of_mean zeniths * (n * n)) units
    (zenith_deviation zeniths) (pos 100 *ℤ zenith_squares zeniths) is.high is.low the.high the.low

-- The squares of residuals, by the sum and the sum of the squares.
residual_squared : (s n x : ℕ) → squared (pos s -ℤ pos (n * x))
    ≡ pos (s * s + n * n * (x * x)) -ℤ pos (2 * s * n * x)
residual_squared s n x =
    let r = num (pos s) ⊖ num (pos (n * x)) in
    same_value (r ⊗ r) (num (pos (s * s + n * n * (x * x))) ⊖ num (pos (2 * s * n * x)))
    (omega arith)

sum_of_residuals : (s n : ℕ) (zeniths : List ℕ)
    → int_sum_by (λ x. squared (pos s -ℤ pos (n * x))) zeniths
    ≡ pos (length zeniths * (s * s) + n * n * sum_by (λ x. x * x) zeniths)
    -ℤ pos (2 * s * n * sum zeniths)
sum_of_residuals s n [] = omega (arith, ints)
sum_of_residuals s n (x ∷ xs) =
    let one = residual_squared s n x in
    let more = sum_of_residuals s n xs in
    let squares = sum_by-cons (λ (x : ℕ). x * x) x xs in
    let total = sum_by-cons (λ (x : ℕ). x) x xs in
    let squares2 : n * n * sum_by (λ x. x * x) (x ∷ xs)
    ≡ n * n * (x * x + sum_by (λ x. x * x) xs) = ap (λ q. n * n * q) squares in
    let total2 : 2 * s * n * sum (x ∷ xs) ≡ 2 * s * n * (x + sum xs) =
    ap (λ q. 2 * s * n * q) total in
    omega (arith, ints, one, more, squares2, total2)

module _ (zeniths : List ℕ) (some : 2 ≤ length zeniths) where
  abbrev n : ℕ
  n = length zeniths

  abbrev s : ℕ
  s = sum zeniths

  abbrev q : ℕ
  q = sum_by (λ x. x * x) zeniths

  times_is : zenith_squares zeniths ≡ pos (n * (n * q)) -ℤ pos (n * (s * s))
  times_is =
      let all = sum_of_residuals s n zeniths in
      omega (arith, ints, all)

  in_order : s * s ≤ n * q
  in_order =
      let is = times_is in
      let low = not_negative zeniths in
      let times : n * (s * s) ≤ n * (n * q) = omega (arith, ints, is, low) in
      le_of_mul-le-mul_left times (omega (arith, some))

  squares_are : pos (n * (n * q - s * s)) ≡ zenith_squares zeniths
  squares_are =
      let is = times_is in
      let order = in_order in
      let apart : n * q ≡ (n * q - s * s) + s * s = omega (arith, order) in
      let times : n * (n * q) ≡ n * ((n * q - s * s) + s * s) = ap (λ k. n * k) apart in
      omega (arith, ints, is, times)

  -- The root of the quotient is the deviation.
  pub root_of_quotient : (units : ℕ)
      → square_below units ≤ 100 * (n * q - s * s) / (n * ((n - 1) * n))
      → 100 * (n * q - s * s) / (n * ((n - 1) * n)) < square_above units
      → units ≡ zenith_deviation zeniths
  root_of_quotient units below above =
      let parts = n * ((n - 1) * n) in
      let m = n * q - s * s in
      let y = 100 * m / parts in
      let one : 1 ≤ n = omega (arith, some) in
      let free : 1 ≤ n - 1 = omega (arith, some) in
      let less : 1 * 1 ≤ (n - 1) * n = mul-le-mul free one in
      let positive : 1 * 1 ≤ parts = mul-le-mul one less in
      let from : parts * y ≤ m * 100 = omega (arith, positive) in
      let to : m * 100 < parts * (y + 1) = omega (arith, positive) in
      let both = rounded_by_quotient n ((n - 1) * n) m y units (zenith_squares zeniths) one
      squares_are from to below above in
      one_deviation zeniths units some (record { low = both.0; high = both.1 })

-- Of each target of a station there is a zenith angle.
some_more : (n k : ℕ) (text : ℕ → List ℕ) → Dec (n ≤ k) → k < suc n → 1 ≤ length (text k)
    → (k < n → 1 ≤ length (each_place n text)) → 1 ≤ length (each_place n text ++ text n)
some_more n k text (yes l) less some before =
    let e : k ≡ n = omega (arith, l, less) in
    let here : 1 ≤ length (text n) = subst (λ m. 1 ≤ length (text m)) e some in
    omega (arith, length-append (each_place n text) (text n), here)
some_more n k text (no m) less some before =
    let there = before (omega (arith, m)) in
    omega (arith, length-append (each_place n text) (text n), there)

some_at : (n k : ℕ) (text : ℕ → List ℕ) → k < n → 1 ≤ length (text k)
    → 1 ≤ length (each_place n text)
some_at zero k text less some = absurd (omega (arith, less))
some_at (suc n) k text less some =
    some_more n k text (dec_le n k) less some (λ before. some_at n k text before some)

zenith_of-same : (its : SurveyedStation) (target place : ℕ) → target_at its.station place ≡ target
    → zenith_of its target place ≡ zenith_mean_at its place ∷ []
zenith_of-same its target place same =
    ap (λ (b : Bool). if b then zenith_mean_at its place ∷ [] else [])
    (eq-eqb (target_at its.station place) target same)

pub some_zeniths : (its : SurveyedStation) (target : ℕ) → IsStation its.station
    → target < length its.station.targets → 1 ≤ length (zeniths_of its target)
some_zeniths its target is inside =
    let obs = its.station.obs in
    let any = is.obs.each_target target inside in
    let place = any.0 in
    let one = any.1 in
    let there : target_at its.station place ≡ target =
    get_or-map (λ (o : Obs). o.target) obs place one 0 any.2
    ∙ ap (λ (o : Obs). o.target) any.3
    ∙ any.4 in
    let of = zenith_of-same its target place there in
    some_at (length obs) place (zenith_of its target) any.2
    (subst (λ (xs : List ℕ). 1 ≤ length xs) (sym of) (omega arith))

-- One zenith angle more.
pub sums_more : (its : SurveyedStation) (target place one : ℕ) (sums : ZenithSums)
    → target_at its.station place ≡ target → one ≡ zenith_mean_at its place
    → AreSumsOf (each_place place (zenith_of its target) ++ one ∷ []) sums
    → AreSumsOf (each_place (place + 1) (zenith_of its target)) sums
sums_more its target place one sums same is more =
    let of = zenith_of-same its target place same in
    let all : each_place (place + 1) (zenith_of its target)
    ≡ each_place place (zenith_of its target) ++ one ∷ [] =
    each_place-more place (zenith_of its target)
    ∙ ap (λ (xs : List ℕ). each_place place (zenith_of its target) ++ xs) of
    ∙ ap (λ m. each_place place (zenith_of its target) ++ m ∷ []) (sym is) in
    subst (λ (xs : List ℕ). AreSumsOf xs sums) (sym all) more

-- The quotient is no larger than 100 squares of a full circle.
pub quotient_within : (n q m : ℕ) → 2 ≤ n → m ≤ n * q → q ≤ 6_400_000_000_000_000 * n
    → 100 * m / (n * ((n - 1) * n)) ≤ 640_000_000_000_000_000
quotient_within n q m some less bound =
    let parts = n * ((n - 1) * n) in
    let one : 1 ≤ n = omega (arith, some) in
    let free : 1 ≤ n - 1 = omega (arith, some) in
    let square : 1 * 1 ≤ n * n = mul-le-mul one one in
    let cube : (n * n) * 1 ≤ (n * n) * (n - 1) = mul-le-mul_left (n * n) free in
    let times : n * q ≤ n * (6_400_000_000_000_000 * n) = mul-le-mul_left n bound in
    let y = 100 * m / parts in
    let some_parts : 1 ≤ parts = omega (arith, square, cube) in
    let down : parts * y ≤ 100 * m = omega (arith, some_parts) in
    let all : parts * y ≤ parts * 640_000_000_000_000_000 =
    omega (arith, down, less, times, cube) in
    le_of_mul-le-mul_left all some_parts
