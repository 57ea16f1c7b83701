-- How a table of directions and a station compare.
use Rattle.std.specs.Prelude.{◌≡◌, ◌⊎◌, ℕ, ◌≤◌, ◌<◌, List, length, ℤ, Result, Ok, Err, ⊤}
use Rattle.std.specs.Prelude.{Option}
use Rattle.adjust_kernel.specs.Stations.{StationValue}
use Rattle.byte_ends.specs.Input.{Input, Ended, BrokeOff, RanPast}
use Rattle.direction_table.specs.Tables.{IsTableFault, IsTableText}
use Rattle.direction_table.specs.declared.fault.TableFault.TheVariants.{TooLong}
use Rattle.directions_apart.specs.Apart.{stated_by}
use Rattle.exact_adjustment.specs.Faults.{IsAdjustFault}
use Rattle.exact_adjustment.specs.LeastOf.{HasResidualsWithin}
use Rattle.exact_adjustment.specs.declared.fault.AdjustFault.{AdjustFault}
use Rattle.least_directions.specs.LeastDirections.{AreApart}
use Rattle.station_compare.specs.LimitInForce.{limit_in_force, off_in}
use Rattle.station_compare.specs.declared.agreement.Agreement.{Agreement}
use Rattle.station_compare.specs.declared.fault.CompareFault.{CompareFault}
use Rattle.station_compare.specs.declared.fault.CompareFault.TheVariants.{TableRead, Table}
use Rattle.station_compare.specs.declared.fault.CompareFault.TheVariants.{Adjust, Apart, Memory}
use Rattle.station_compare.specs.declared.how_far.HowFar.{HowFar}
use Rattle.station_results.specs.Greatest.{IsGreatestSize}
use Rattle.direction_table.specs.declared.form.TableForm.{TableForm}

-- So far are the directions of a table, and the numbers that its rows write, apart from the
-- least-squares directions of a station: one rotation brings every stated direction, with each
-- number that may be off from it, within so many units of 0.000001 gon of every least-squares
-- choice, and none brings them nearer by a unit.
pub record IsComparedWith (form : TableForm) (station : StationValue) (bytes : List ℕ)
    (apart : ℕ) : Type 0 where
  pub directions : List ℤ
  pub states : IsTableText form station.targets bytes directions
  pub are_apart : AreApart station (stated_by directions) (off_in form station.targets bytes) apart

-- No least-squares residual is above the limit of residuals, in half units; how far the table is
-- apart is this, and the limit is the one in force.
pub record IsHowFar (form : TableForm) (station : StationValue) (residual : ℕ) (bytes : List ℕ)
    (within : Option ℕ) (h : HowFar) : Type 0 where
  pub held : HasResidualsWithin station residual
  pub compared : IsComparedWith form station bytes h.apart
  pub limit : h.limit ≡ limit_in_force form within station.targets bytes

-- The table agrees: its directions are no further apart than the limit in force. The greatest
-- residual of the station has this size.
pub record IsAgreement (form : TableForm) (station : StationValue) (residual : ℕ) (bytes : List ℕ)
    (within : Option ℕ) (a : Agreement) : Type 0 where
  pub how_far : IsHowFar form station residual bytes within a.how_far
  pub agrees : a.how_far.apart ≤ a.how_far.limit
  pub greatest : IsGreatestSize station a.greatest
  pub named : a.name ≡ station.name
  pub counted_sets : a.sets ≡ length station.sets
  pub counted : a.targets ≡ length station.targets

-- The bytes are a table of the station's directions, and its adjustment has this fault.
pub record IsUnadjusted (form : TableForm) (station : StationValue) (residual : ℕ)
    (bytes : List ℕ) (fault : AdjustFault) : Type 0 where
  pub directions : List ℤ
  pub states : IsTableText form station.targets bytes directions
  pub fault_stands : IsAdjustFault station residual fault

-- What is answered of a station, whose residuals are held to a limit in half units, and the bytes of
-- a table. Where memory runs out in the adjustment, that is no fault of it.
abbrev pub ByTable : TableForm →
    StationValue → ℕ → Option ℕ → List ℕ → Result Agreement CompareFault → Type 0
ByTable form station residual within bytes (Ok a) =
    IsAgreement form station residual bytes within a
ByTable form station residual within bytes (Err (Table fault)) =
    IsTableFault form station.targets bytes fault
ByTable form station residual within bytes (Err (Adjust fault)) =
    IsUnadjusted form station residual bytes fault
ByTable form station residual within bytes (Err (Apart h)) =
    (h.limit < h.apart) × IsHowFar form station residual bytes within h
ByTable form station residual within bytes (Err Memory) = ⊤
ByTable form station residual within bytes (Err fault) = ⊥

-- This fault is answered, or that memory ran out.
abbrev pub IsFaultOrMemory : Result Agreement CompareFault → CompareFault → Type 0
IsFaultOrMemory result fault = (result ≡ Err fault) ⊎ (result ≡ Err Memory)

-- The same of what came of the table's reader.
abbrev pub ByInput : TableForm →
    StationValue → ℕ → Option ℕ → Input → Result Agreement CompareFault → Type 0
ByInput form station residual within (Ended bytes) result =
    ByTable form station residual within bytes result
ByInput form station residual within (BrokeOff bytes) result = IsFaultOrMemory result TableRead
ByInput form station residual within RanPast result = IsFaultOrMemory result (Table TooLong)
