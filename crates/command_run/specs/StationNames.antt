-- The name of a station that a run is of.
use Rattle.std.specs.Prelude.{ℕ, List}
use Rattle.command_run.specs.declared.station_name.StationName.{StationName}
use Rattle.command_run.specs.declared.station_name.StationName.TheVariants as name

-- Its bytes.
abbrev pub name_bytes : StationName → List ℕ
name_bytes (name.Stated text) = text.now
name_bytes (name.Only own) = own
