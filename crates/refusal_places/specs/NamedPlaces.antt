-- What the line of a refusal names.
use Rattle.std.specs.Prelude.{ℕ, List, Option, Some, None, codes, if◌then◌else◌, option_map}
use Rattle.std.specs.Option.{option_or}
use Rattle.refusal_places.specs.Numbers.{begins_with, number_after}
use Rattle.refusal_places.specs.declared.named.Named.{Named}
use Rattle.refusal_places.specs.declared.named.Named.TheVariants.{Block, SheetRow, TableRow, Target}
use Rattle.refusal_places.specs.declared.named.Named.TheVariants.{Set, Observation, StationTarget}
use Rattle.refusal_places.specs.declared.named.Named.TheVariants.{StationObservation}

-- What the number names that stands after these words, or else what comes next.
abbrev pub after_or : List ℕ → (ℕ → Named) → List ℕ → Option Named → Option Named
after_or words named line next = option_or (option_map named (number_after words line)) next

-- The block of the field file, or the row of the sheet or of the table.
abbrev pub in_files : List ℕ → Option Named
in_files line =
    after_or (codes "refused: block ") Block line
    (after_or (codes "refused: sheet row ") SheetRow line
    (option_map TableRow (number_after (codes "refused: table row ") line)))

-- Of the sheet's rows of a kind, one.
abbrev pub in_kinds : List ℕ → Option Named
in_kinds line =
    after_or (codes "refused: kernel: TargetRow ") Target line
    (after_or (codes "refused: kernel: TargetSum ") Target line
    (after_or (codes "refused: kernel: SetRow ") Set line
    (after_or (codes "refused: kernel: SetSum ") Set line
    (after_or (codes "refused: kernel: ObsRow ") Observation line
    (option_map Observation (number_after (codes "refused: kernel: Residual ") line))))))

-- The target or the observation of the station.
abbrev pub in_station : List ℕ → Option Named
in_station line =
    after_or (codes "refused: table: Missing ") StationTarget line
    (option_map StationObservation (number_after (codes "refused: adjust: Residual ") line))

-- The first row of the sheet, which names its station, or of its targets, whose direction is to be 0.
abbrev pub in_first_row : List ℕ → Option Named
in_first_row line =
    if begins_with (codes "refused: no station") line then Some (SheetRow 1) else
    (if begins_with (codes "refused: kernel: Datum") line then Some (Target 1) else None)

-- What the line names: something in the files, of the sheet's rows of a kind, or of the station.
abbrev pub named_in : List ℕ → Option Named
named_in line =
    option_or (in_files line) (option_or (in_kinds line)
    (option_or (in_station line) (in_first_row line)))
