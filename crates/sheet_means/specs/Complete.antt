-- Stations whose sets are all complete.
use Rattle.std.specs.Prelude.{◌≡◌, ℕ, ◌<◌, length, Any}
use Rattle.adjust_kernel.specs.Stations.{StationValue}

-- every target was observed in every set
abbrev pub IsComplete : StationValue → Type 0
IsComplete station =
    (s t : ℕ) → s < length station.sets → t < length station.targets
    → Any (λ o. (o.set ≡ s) × (o.target ≡ t)) station.obs
