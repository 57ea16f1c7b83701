-- Where the observations of a station begin that don't stand before a set and a target.
use Rattle.std.specs.Prelude.{◌≡◌, ℕ, ◌≤◌, Bool, true, false, List, length, ◌==◌, ◌&&◌, ◌||◌, nat_lt}
use Rattle.std.specs.List.{AllWithin}
use Rattle.adjust_kernel.specs.declared.obs.Obs.{Obs}

-- whether an observation stands before those of a set and a target
abbrev pub stands_before : ℕ → ℕ → Obs → Bool
stands_before set target o = nat_lt o.set set || (o.set == set && nat_lt o.target target)

-- The observations before this place stand before a set and a target, and no others do.
pub record IsFront (obs : List Obs) (set target place : ℕ) : Type 0 where
  pub inside : place ≤ length obs
  pub before : AllWithin (λ o. stands_before set target o ≡ true) obs 0 place
  pub from : AllWithin (λ o. stands_before set target o ≡ false) obs place (length obs)
