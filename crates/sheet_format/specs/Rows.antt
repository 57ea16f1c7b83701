-- The rows of a sheet, as fields, and the bytes that stand for a sheet.
use Rattle.std.specs.Prelude.{◌≡◌, ℕ, ◌≤◌, List, [], ◌∷◌, ◌++◌, length, map, All, codes}
use Rattle.std.specs.Fmt.{decimal, signed_decimal}
use Rattle.csv.specs.Reading.{default_config, records, strip_bom}
use Rattle.adjust_kernel.specs.Sheets.{IsSheet, SheetValue}
use Rattle.adjust_kernel.specs.Within.{IsWithin}
use Rattle.adjust_kernel.specs.declared.row.Direction.{Direction}
use Rattle.adjust_kernel.specs.declared.row.Orientation.{Orientation}
use Rattle.adjust_kernel.specs.declared.row.Row.{Row}
use Rattle.sheet_format.specs.Versions.{largest_angle, largest_denominator, version_text}
use Rattle.sheet_format.specs.declared.reading.TheConstants.{LONGEST_SHEET}
use Rattle.sheet_format.specs.declared.version.Version.{Version}

-- the first row: the version, the station and the denominator
abbrev pub sheet_fields : Version → List ℕ → ℕ → List (List ℕ)
sheet_fields version name denominator =
    codes "sheet" ∷ version_text version ∷ name ∷ decimal denominator ∷ [] ∷ []

-- the row of a target: its name and direction
abbrev pub target_fields : Direction → List (List ℕ)
target_fields d = codes "target" ∷ [] ∷ d.name ∷ signed_decimal d.value ∷ [] ∷ []

-- the row of a set: its number and orientation
abbrev pub set_fields : Orientation → List (List ℕ)
set_fields o = codes "set" ∷ decimal o.set ∷ [] ∷ signed_decimal o.value ∷ [] ∷ []

-- the row of an observation: set, target, direction and full turns
abbrev pub obs_fields : Row → List (List ℕ)
obs_fields r = codes "obs" ∷ decimal r.set ∷ r.target ∷ decimal r.value ∷ signed_decimal r.turn ∷ []

-- the rows after the first: the targets, the sets and the observations, each in the sheet's order
abbrev pub body_rows : List Direction → List Orientation → List Row → List (List (List ℕ))
body_rows directions orientations rows =
    map target_fields directions ++ (map set_fields orientations ++ map obs_fields rows)

-- all rows of a sheet
abbrev pub rows_of : Version → SheetValue → List (List (List ℕ))
rows_of version s = sheet_fields version s.name s.denominator
    ∷ body_rows s.directions s.orientations s.rows

-- a sheet whose denominator, directions and orientations are within the ranges of a version
pub record IsOfVersion (version : Version) (s : SheetValue) : Type 0 where
  pub denominator : s.denominator ≤ largest_denominator version
  pub directions : All (λ d. IsWithin (largest_angle version) d.value) s.directions
  pub orientations : All (λ o. IsWithin (largest_angle version) o.value) s.orientations

-- the records of a text, as `csv` reads them where no row is a header and rows may differ in their
-- number of fields: it drops a byte order mark at the start, and passes over lines without a byte
abbrev pub records_of : List ℕ → List (List (List ℕ))
records_of bytes = records default_config (strip_bom bytes)

-- Bytes stand for a sheet: they are not too many, and their records are the sheet's rows of some
-- version, within whose ranges the sheet is. So the text is fixed but for quotes, line ends and
-- empty lines, which `csv` reads alike, and for the version of a small sheet.
pub record IsSheetText (bytes : List ℕ) (s : SheetValue) : Type 0 where
  pub short : length bytes ≤ LONGEST_SHEET
  pub version : Version
  pub rows : records_of bytes ≡ rows_of version s
  pub within : IsOfVersion version s
  pub sheet : IsSheet s
