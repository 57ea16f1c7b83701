-- The first of the narrowest arcs, start by start.
use Rattle.std.proofs.Common.{◌≡◌, ℕ, zero, suc, ◌+◌, ◌≤◌, ◌<◌, ℤ, arith, refl, subst}
use Rattle.std.specs.Prelude.{min}
use Rattle.directions_apart.specs.Arcs.{IsExtent}
use Rattle.directions_apart.specs.Bounded.{IsNoWider}
use Rattle.directions_apart.proofs.SpreadLaws.{IsNarrowest, all_starts, next_start, no_start}
use Rattle.directions_apart.proofs.SpreadLaws.{wide_start}
use Rattle.station_differences.specs.BestArcs.{IsBestArc}

module _ (circle : ℕ) (angle : ℕ → ℤ) (count : ℕ) where
  -- Of the arcs from the first so many angles the narrowest is so wide, and begins at this angle
  -- and at none before it. Where there is no arc yet it is the circle.
  pub record IsFirstSoFar (starts start spread : ℕ) : Type 0 where
    pub narrowest : IsNarrowest circle angle count starts spread
    pub none_yet : starts ≡ 0 → spread ≡ circle
    pub inside : 1 ≤ starts → start < starts
    pub here : 1 ≤ starts → IsExtent circle angle count start spread
    pub before : (m : ℕ) → m < start → IsExtent circle angle count m spread → ⊥

  pub none_so_far : IsFirstSoFar 0 0 circle
  none_so_far = record {
    narrowest = no_start circle angle count;
    none_yet = λ e. refl;
    inside = λ h. absurd (omega (arith, h));
    here = λ h. absurd (omega (arith, h));
    before = λ m h x. absurd (omega (arith, h));
  }

  -- A narrower arc is the first.
  pub narrower : (starts start spread extent : ℕ) → 1 ≤ circle → extent < spread
      → IsFirstSoFar starts start spread → IsExtent circle angle count starts extent
      → IsFirstSoFar (starts + 1) starts extent
  narrower starts start spread extent some less f x =
      let least : min spread extent ≡ extent = omega (arith, less) in
      record {
        narrowest = subst (IsNarrowest circle angle count (starts + 1)) least
            (next_start circle angle count starts spread extent some f.narrowest x);
        none_yet = λ e. absurd (omega (arith, e));
        inside = λ h. omega arith;
        here = λ h. x;
        before = λ m h y. (let wide = f.narrowest.least m h extent y.held in
            absurd (omega (arith, wide, less)));
      }

  -- Where none from it is narrower, what was first is.
  pub no_narrower : (starts start spread : ℕ) → 1 ≤ circle
      → IsFirstSoFar starts start spread → IsNoWider circle angle count starts spread
      → IsFirstSoFar (starts + 1) start spread
  no_narrower starts start spread some f wide =
      let next = wide_start circle angle count starts spread some f.narrowest wide in
      let some_yet = had starts (next.below (omega arith)) f.none_yet in
      record {
        narrowest = next;
        none_yet = λ e. absurd (omega (arith, e));
        inside = λ h. (let first = f.inside some_yet in omega (arith, first));
        here = λ h. f.here some_yet;
        before = f.before;
      }
    where
      had : (n : ℕ) → spread < circle → (n ≡ 0 → spread ≡ circle) → 1 ≤ n
      had zero less whole = let e = whole refl in absurd (omega (arith, less, e))
      had (suc n) less whole = omega arith

  -- With all starts it is the best arc.
  pub best_so_far : (start spread : ℕ) → 1 ≤ count → IsFirstSoFar count start spread
      → IsBestArc circle angle count start spread
  best_so_far start spread some f = record {
    is_spread = all_starts circle angle count spread some f.narrowest;
    first = record { inside = f.inside some; here = f.here some; before = f.before };
  }
