-- What a comparison answers of the table of the station's own directions, with 6 decimals or more.
use Rattle.std.specs.Prelude.{◌≡◌, ℕ, Option, Some, ⊤}
use Rattle.exact_adjustment.specs.declared.fault.AdjustFault.TheVariants.{NotFound}
use Rattle.station_compare.specs.declared.fault.CompareFault.{CompareFault}
use Rattle.station_compare.specs.declared.fault.CompareFault.TheVariants.{Adjust, Apart, Memory}

-- Why it may be refused: it is apart by 1 unit, and 0 was stated; or no adjustment was found, or
-- memory ran out, which no contract excludes. Nothing else comes.
abbrev pub MayRefuse : Option ℕ → CompareFault → Type 0
MayRefuse within (Apart h) = (within ≡ Some 0) × (h.apart ≡ 1)
MayRefuse within (Adjust NotFound) = ⊤
MayRefuse within Memory = ⊤
MayRefuse within fault = ⊥
