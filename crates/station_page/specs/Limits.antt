-- What a page states by numbers (profile).
use Rattle.std.specs.Prelude.{◌≡◌, ◌≤◌, ℕ, Bool, true, false, Option, Some, None, ⊤}
use Rattle.adjust_kernel.specs.declared.bounds.TheConstants.{LARGEST_RESIDUAL_LIMIT}
use Rattle.direction_table.specs.declared.limit.TheConstants.{LARGEST_WITHIN}
use Rattle.station_book.specs.Limits.{FaceLimits}
use Rattle.station_book.specs.declared.limits.TheConstants.{LARGEST_LIMIT}

-- Neither limit of face differences is above the largest.
abbrev pub AreFaceLimits : ℕ → ℕ → Type 0
AreFaceLimits two_c two_i = (two_c ≤ LARGEST_LIMIT) × (two_i ≤ LARGEST_LIMIT)

-- The residual limit, where it is said that one is stated, is not above the largest.
abbrev pub IsResidualLimit : Bool → ℕ → Type 0
IsResidualLimit true residual = residual ≤ LARGEST_RESIDUAL_LIMIT
IsResidualLimit false residual = ⊤

-- The limit of a comparison, where it is said that one is stated, is at most 1 gon.
abbrev pub IsWithin : Bool → ℕ → Type 0
IsWithin true within = within ≤ LARGEST_WITHIN
IsWithin false within = ⊤

-- These are the limits of face differences that the numbers state.
pub record States (two_c two_i : ℕ) (limits : FaceLimits) : Type 0 where
  pub states_two_c : limits.two_c ≡ two_c
  pub states_two_i : limits.two_i ≡ two_i

-- the limit that a number states, where it is said that one is stated
abbrev pub stated_limit : Bool → ℕ → Option ℕ
stated_limit true limit = Some limit
stated_limit false limit = None
