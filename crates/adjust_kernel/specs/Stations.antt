-- Stations: what was observed at one place, as contracts see it, and the rules that it keeps.
use Rattle.std.specs.Prelude.{◌≡◌, ◌≢◌, ◌⊎◌, ℕ, List, ◌≤◌, ◌<◌, length, All, Any, AllPairs}
use Rattle.adjust_kernel.specs.declared.bounds.TheConstants.{MOST_SETS, MOST_TARGETS, TURN}
use Rattle.adjust_kernel.specs.declared.obs.Obs.{Obs}
use Rattle.adjust_kernel.specs.Names.{IsName}
use Rattle.adjust_kernel.specs.Sheets.{IsSetNumber}

-- A station as contracts see it: its name, the names of its targets, the numbers of its sets, and
-- its observations.
pub record StationValue : Type 0 where
  pub name : List ℕ
  pub targets : List (List ℕ)
  pub sets : List ℕ
  pub obs : List Obs

-- The station with these parts.
abbrev pub station_of : List ℕ → List (List ℕ) → List ℕ → List Obs → StationValue
station_of name targets sets obs = record { name = name; targets = targets; sets = sets; obs = obs }

-- An observation of one of this many sets and one of this many targets, with a direction on the
-- circle.
pub record IsObs (sets targets : ℕ) (o : Obs) : Type 0 where
  pub set : o.set < sets
  pub target : o.target < targets
  pub value : o.value < TURN

-- The first observation is of an earlier set, or of the same set and an earlier target.
abbrev pub IsBefore : Obs → Obs → Type 0
IsBefore a b = (a.set < b.set) ⊎ ((a.set ≡ b.set) × (a.target < b.target))

-- Every one of this many sets was observed.
abbrev pub EachSetObserved : ℕ → List Obs → Type 0
EachSetObserved sets obs = (s : ℕ) → s < sets → Any (λ o. o.set ≡ s) obs

-- Every one of this many targets was observed.
abbrev pub EachTargetObserved : ℕ → List Obs → Type 0
EachTargetObserved targets obs = (t : ℕ) → t < targets → Any (λ o. o.target ≡ t) obs

-- The names of a station's targets (profile): some, not too many, and no two alike.
pub record AreTargets (targets : List (List ℕ)) : Type 0 where
  pub some : 1 ≤ length targets
  pub few : length targets ≤ MOST_TARGETS
  pub names : All IsName targets
  pub different : AllPairs (λ a b. a ≢ b) targets

-- The numbers of a station's sets (profile): some, not too many, and no two alike.
pub record AreSets (sets : List ℕ) : Type 0 where
  pub some : 1 ≤ length sets
  pub few : length sets ≤ MOST_SETS
  pub numbers : All IsSetNumber sets
  pub different : AllPairs (λ a b. a ≢ b) sets

-- The observations of this many sets and targets (profile): in order, by set and within a set by
-- target, so that none stands twice; and no set and no target is without one.
pub record AreObs (sets targets : ℕ) (obs : List Obs) : Type 0 where
  pub within : All (IsObs sets targets) obs
  pub ordered : AllPairs IsBefore obs
  pub each_set : EachSetObserved sets obs
  pub each_target : EachTargetObserved targets obs

-- A station: a name, its targets, its sets and their observations.
pub record IsStation (s : StationValue) : Type 0 where
  pub name : IsName s.name
  pub targets : AreTargets s.targets
  pub sets : AreSets s.sets
  pub obs : AreObs (length s.sets) (length s.targets) s.obs
