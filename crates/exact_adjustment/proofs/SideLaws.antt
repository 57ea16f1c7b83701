-- The two sides of a sum of residuals, one observation more.
use Rattle.std.proofs.Common.{◌↔◌, ◌≤◌, take_all, ◌≡◌, ℕ, zero, suc, ◌+◌, ◌*◌, ◌<◌, List, [], ◌∷◌}
use Rattle.std.proofs.Common.{map, length, get_or, Bool, cond, take, ℤ, pos, arith, ap, refl, ◌∙◌}
use Rattle.std.proofs.Math.IntN.{◌*ℤ◌, ◌-ℤ◌, ◌+ℤ◌}
use Rattle.std.proofs.lemmas.Int.{ints}
use Rattle.adjust_kernel.specs.declared.bounds.TheConstants.{TURN}
use Rattle.adjust_kernel.specs.declared.obs.Obs.{Obs}
use Rattle.adjust_kernel.specs.Pairs.{turned_by}
use Rattle.adjust_kernel.specs.Sums.{int_sum_where}
use Rattle.adjust_kernel.specs.TurnedObservations.{TurnedObservation}
use Rattle.adjust_kernel.proofs.SumLaws.{int_sum_by_more}
use Rattle.std.proofs.Common.{ap₂}
use Rattle.adjust_kernel.specs.Residuals.{residual}
use Rattle.exact_adjustment.specs.Adjustments.{AdjustmentValue, choice_by}
use Rattle.exact_adjustment.proofs.Products.{products}
use Rattle.exact_adjustment.specs.Sides.{turned}

pub length-turned : (obs : List Obs) (ks : List ℤ) → length ks ≡ length obs
    → length (turned obs ks) ≡ length obs
length-turned [] ks h = refl
length-turned (o ∷ obs) [] h = absurd (omega (arith, h))
length-turned (o ∷ obs) (k ∷ ks) h = omega (arith, length-turned obs ks (omega (arith, h)))

pub get_or-turned : (obs : List Obs) (ks : List ℤ) (n : ℕ) (o : Obs) (k : ℤ)
    (d : TurnedObservation) → length ks ≡ length obs → n < length obs
    → get_or (turned obs ks) n d ≡ turned_by (get_or obs n o) (get_or ks n k)
get_or-turned [] ks n o k d h l = absurd (omega (arith, l))
get_or-turned (p ∷ obs) [] n o k d h l = absurd (omega (arith, h))
get_or-turned (p ∷ obs) (j ∷ ks) zero o k d h l = refl
get_or-turned (p ∷ obs) (j ∷ ks) (suc n) o k d h l =
    get_or-turned obs ks n o k d (omega (arith, h)) (omega (arith, l))

-- One observation more, in a sum over those that pass a test.
pub sum_more : (p : TurnedObservation → Bool) (f : TurnedObservation → ℤ) (obs : List Obs)
    (ks : List ℤ) (n : ℕ) (o : Obs) (k : ℤ) → length ks ≡ length obs → n < length obs
    → int_sum_where p f (take (n + 1) (turned obs ks)) ≡ int_sum_where p f (take n (turned obs ks))
    +ℤ (let r = turned_by (get_or obs n o) (get_or ks n k) in cond (p r) (f r) (pos 0))
sum_more p f obs ks n o k each inside =
    let d : TurnedObservation = record { set = 0; target = 0; value = 0; turn = pos 0 } in
    int_sum_by_more (λ x. cond (p x) (f x) (pos 0)) (turned obs ks) n d
    (omega (arith, inside, length-turned obs ks each))
    ∙ ap (λ r. int_sum_where p f (take n (turned obs ks)) +ℤ cond (p r) (f r) (pos 0))
    (get_or-turned obs ks n o k d each inside)

pub get_or-pos : (xs : List ℕ) (n : ℕ) → get_or (map pos xs) n (pos 0) ≡ pos (get_or xs n 0)
get_or-pos [] n = refl
get_or-pos (x ∷ xs) zero = refl
get_or-pos (x ∷ xs) (suc n) = get_or-pos xs n

pub same_inside : (xs : List ℕ) (n a b : ℕ) → n < length xs → get_or xs n a ≡ get_or xs n b
same_inside [] n a b l = absurd (omega (arith, l))
same_inside (x ∷ xs) zero a b l = refl
same_inside (x ∷ xs) (suc n) a b l = same_inside xs n a b (omega (arith, l))

-- What a residual adds to both sides.
pub sides_step : (left right a o d v lifted lift left2 right2 : ℕ) (k : ℤ)
    → left2 ≡ left + a + d * lift → right2 ≡ right + o + d * lifted
    → pos lifted ≡ (pos v +ℤ pos TURN *ℤ k) +ℤ pos lift
    → (pos left2 -ℤ pos right2)
    ≡ (pos left -ℤ pos right) +ℤ (pos a -ℤ pos o -ℤ pos d *ℤ (pos v +ℤ pos TURN *ℤ k))
sides_step left right a o d v lifted lift left2 right2 k e f g =
    let h = simp products at (ap (λ x. pos d *ℤ x) g) in simp products (omega (arith, ints))

-- The two sides of all of them are equal where the sum is 0.
pub even_is : (p : TurnedObservation → Bool) (f : TurnedObservation → ℤ) (obs : List Obs)
    (ks : List ℤ) (n left right : ℕ) → length ks ≡ length obs → length obs ≤ n
    → (pos left -ℤ pos right) ≡ int_sum_where p f (take n (turned obs ks))
    → (left ≡ right) ↔ (int_sum_where p f (turned obs ks) ≡ pos 0)
even_is p f obs ks n left right each all sum =
    let many : length (turned obs ks) ≤ n = omega (arith, length-turned obs ks each) in
    let e = rw (take_all n (turned obs ks) many) at sum in
    (λ same. omega (arith, ints), λ none. omega (arith, ints))

-- A residual by the parts of an adjustment.
pub residual_is : (a : AdjustmentValue) (o : Obs) (k : ℤ)
    → residual (choice_by a) (turned_by o k)
    ≡ (pos (get_or a.directions o.target 0) -ℤ pos (get_or a.orientations o.set 0)
    -ℤ pos a.denominator *ℤ (pos o.value +ℤ pos TURN *ℤ k))
residual_is a o k =
    ap₂ (λ x y. x -ℤ y -ℤ pos a.denominator *ℤ (pos o.value +ℤ pos TURN *ℤ k))
    (get_or-pos a.directions o.target) (get_or-pos a.orientations o.set)

-- The sides of one residual.
pub one_step : (a o d v lifted lift left right : ℕ) (k : ℤ) → left ≡ a + d * lift
    → right ≡ o + d * lifted → pos lifted ≡ (pos v +ℤ pos TURN *ℤ k) +ℤ pos lift
    → (pos left -ℤ pos right) ≡ (pos a -ℤ pos o -ℤ pos d *ℤ (pos v +ℤ pos TURN *ℤ k))
one_step a o d v lifted lift left right k e f g =
    let h = sides_step 0 0 a o d v lifted lift left right k (omega (arith, e)) (omega (arith, f)) g
    in omega (arith, ints, h)

-- What agrees with an observation, by angles in whole half units.
pub whole_residual : (x y v : ℤ) → x -ℤ y -ℤ v ≡ x -ℤ y -ℤ pos 1 *ℤ v
whole_residual x y v = omega (arith, ints)
