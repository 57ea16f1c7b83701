-- What was read of a table in a form, and whether it is near its station.
use Rattle.std.specs.Prelude.{◌≡◌, ◌≤◌, ◌↔◌, ℕ, ℤ, Bool, IsTrue, List, None}
use Rattle.adjust_kernel.specs.Stations.{StationValue}
use Rattle.direction_table.specs.Tables.{IsTableText}
use Rattle.direction_table.specs.declared.form.TableForm.{TableForm}
use Rattle.directions_apart.specs.Apart.{stated_by}
use Rattle.least_directions.specs.LeastDirections.{AreApart}
use Rattle.station_compare.specs.LimitInForce.{limit_in_force, off_in}

-- The bytes state these directions, their numbers may be off from them by so many parts, and their
-- usual limit is this.
pub record IsReadAs (form : TableForm) (station : StationValue) (bytes : List ℕ)
    (directions : List ℤ) (off limit : ℕ) : Type 0 where
  pub states : IsTableText form station.targets bytes directions
  pub off_is : off ≡ off_in form station.targets bytes
  pub limit_is : limit ≡ limit_in_force form None station.targets bytes

-- Whether directions, with numbers off by so many parts, are apart by no more than a limit.
abbrev pub IsNear : StationValue → List ℤ → ℕ → ℕ → Bool → Type 0
IsNear station directions off limit near =
    (apart : ℕ) × AreApart station (stated_by directions) off apart
    × (IsTrue near ↔ (apart ≤ limit))
