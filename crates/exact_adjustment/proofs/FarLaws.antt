-- Where some directions and orientations, with whatever full turns, have all sums of residuals 0
-- and keep a limit that is not above the largest, an exact adjustment with nearest full turns keeps
-- it.
use Rattle.std.proofs.Common.{◌≡◌, ℕ, ◌*◌, ◌≤◌, ◌<◌, List, length, ℤ, pos, arith, ap, sym, ◌∙◌}
use Rattle.std.proofs.Math.IntN.{◌*ℤ◌, ◌-ℤ◌}
use Rattle.std.proofs.Math.Nat.{mul-le-mul_left, mul-le-mul_right}
use Rattle.std.specs.Int.RustNames.{unsigned_abs}
use Rattle.std.proofs.lemmas.Int.{ints, unsigned_abs-mul}
use Rattle.std.proofs.lemmas.List.Elements.{All-weaker}
use Rattle.adjust_kernel.specs.declared.bounds.TheConstants.{LARGEST_RESIDUAL_LIMIT}
use Rattle.adjust_kernel.specs.Residuals.{Choice, residual}
use Rattle.adjust_kernel.specs.Stations.{StationValue, IsStation}
use Rattle.adjust_kernel.specs.Turns.{IsLimited}
use Rattle.adjust_kernel.specs.Within.{IsWithin}
use Rattle.adjust_kernel.proofs.GreatestLaws.{size_within, within_size}
use Rattle.exact_adjustment.specs.Adjustments.{AdjustmentValue, choice_by}
use Rattle.exact_adjustment.specs.Exact.{AddsUp, IsExact, KeepsLimit, observed_by}
use Rattle.exact_adjustment.specs.LeastOf.{AreTied, observed_with}
use Rattle.exact_adjustment.specs.Nearest.{HasNearestTurns, IsNearest, place_of}
use Rattle.exact_adjustment.proofs.ObservedLaws.{of_all, of_each, place_inside, turned_at}
use Rattle.exact_adjustment.proofs.NearTurns.{turned_whole}
use Rattle.exact_adjustment.proofs.Products.{times_within}
use Rattle.exact_adjustment.proofs.SameLaws.{same_residual}

-- What keeps the limit is close to what is nearest.
within_both : (e : ℕ) (x y : ℤ) → IsWithin (pos (2_000 * e)) x → IsNearest y
    → IsWithin (pos (40_002_000 * e)) (x -ℤ pos e *ℤ y)
within_both e x y h g =
    let w = times_within e 40_000_000 y (omega (arith, ints)) in omega (arith, ints)

-- A residual that is the same but for the denominators is as large.
pub same_size : (d e : ℕ) (x y : ℤ) → pos e *ℤ x ≡ pos d *ℤ y
    → e * unsigned_abs x ≡ d * unsigned_abs y
same_size d e x y h =
    sym (unsigned_abs-mul (pos e) x) ∙ ap unsigned_abs h ∙ unsigned_abs-mul (pos d) y

-- So it keeps the same limit.
pub same_limit : (d e m : ℕ) (x y : ℤ) → 1 ≤ e → pos e *ℤ x ≡ pos d *ℤ y → IsWithin (pos (m * e)) y
    → IsWithin (pos (m * d)) x
same_limit d e m x y some h w =
    let g = mul-le-mul_left d (size_within (m * e) y w) in
    within_size (m * d) x (λ above. let l = mul-le-mul_left e above in
    omega (arith, some, same_size d e x y h, g, l))

-- What keeps a limit keeps a larger one.
wider : (m n d : ℕ) (x : ℤ) → m ≤ n → IsWithin (pos (m * d)) x → IsWithin (pos (n * d)) x
wider m n d x h w = within_size (n * d) x (λ above.
    omega (arith, above, size_within (m * d) x w, mul-le-mul_right d h))

pub keeps_wider : (station : StationValue) (a : AdjustmentValue) (m n : ℕ) → m ≤ n
    → KeepsLimit station a m → KeepsLimit station a n
keeps_wider station a m n h = All-weaker
    (λ r. IsWithin (pos (m * a.denominator)) (residual (choice_by a) r))
    (λ r. IsWithin (pos (n * a.denominator)) (residual (choice_by a) r))
    (λ r. wider m n a.denominator (residual (choice_by a) r) h) (observed_by station a)

pub keeps_limit_too : (station : StationValue) (a : AdjustmentValue) (limit : ℕ)
    → limit ≤ LARGEST_RESIDUAL_LIMIT → IsStation station
    → AreTied station → IsExact station a → HasNearestTurns station a.turns → (c : Choice)
    (turns : List ℤ) → length turns ≡ length station.obs → 1 ≤ c.denominator
    → AddsUp station c turns → IsLimited limit c (observed_with station turns)
    → KeepsLimit station a limit
keeps_limit_too station a limit small is_station tied exact near c turns each some sums limited =
    let kept = of_each station turns each
    (λ r. IsWithin (pos (limit * c.denominator)) (residual c r)) limited in
    let all_kept : (n : ℕ) → n < length station.obs
    → IsWithin (pos (2_000 * c.denominator)) (residual c (turned_at station turns n)) =
    λ n h. wider limit 2_000 c.denominator _ small (kept n h) in
    let nearest = of_each station a.turns exact.each
    (λ r. IsNearest (residual near.angles r)) near.nearest.each in
    let turned = turned_whole station is_station a.turns turns exact.each near c some 2_000
    40_002_000 (omega arith)
    (λ step h. all_kept (place_of station step) (place_inside station is_station step))
    (λ n h. within_both c.denominator _ _ (all_kept n h) (nearest n h)) in
    of_all station a.turns exact.each
    (λ r. IsWithin (pos (limit * a.denominator)) (residual (choice_by a) r))
    (λ n h. same_limit a.denominator c.denominator limit _ _ some
    (same_residual station a is_station tied exact c turns each some sums turned n h) (kept n h))
