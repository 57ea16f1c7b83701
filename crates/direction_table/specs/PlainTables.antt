-- Plain tables: commas between names and directions in gon, a decimal point, at most nine decimals,
-- and nothing loose. So the program itself writes tables.
use Rattle.std.specs.Prelude.{◌≡◌, ℕ, ◌+◌, ◌-◌, ◌*◌, ◌^◌, ◌≤◌, ◌<◌, Bool, true, List, []}
use Rattle.std.specs.Prelude.{◌∷◌, ◌++◌, length, map, All, ℤ, Some, if◌then◌else◌}
use Rattle.std.specs.Char.{is_ascii_digit}
use Rattle.std.specs.List.{list_all}
use Rattle.std.specs.Str.Parse.{digits_value}
use Rattle.sheet_format.specs.Rows.{records_of}
use Rattle.sheet_format.specs.Numbers.{minus}
use Rattle.direction_table.specs.DecimalNumbers.{point}
use Rattle.direction_table.specs.Faults.{HasNoFault}
use Rattle.direction_table.specs.Gons.{signed}
use Rattle.direction_table.specs.Rows.{beside_name}
use Rattle.direction_table.specs.Tables.{stated_by}
use Rattle.adjust_kernel.specs.declared.units.TheConstants.{CIRCLE, PARTS}
use Rattle.direction_table.specs.declared.reading.TheConstants.{LONGEST_TABLE}
use Rattle.direction_table.specs.declared.unit.AngleUnit.TheVariants.{Gon}

-- A minus, or nothing.
abbrev pub plain_sign : Bool → List ℕ
plain_sign negative = if negative then minus ∷ [] else []

-- A point and the decimals after it, or nothing.
abbrev pub after_point : List ℕ → List ℕ
after_point [] = []
after_point (digit ∷ digits) = point ∷ digit ∷ digits

-- The number of digits before and after a point, in units of the ninth decimal.
abbrev pub plain_size : List ℕ → List ℕ → ℕ
plain_size whole decimals =
    digits_value 10 whole * 10 ^ 9 + digits_value 10 decimals * 10 ^ (9 - length decimals)

-- A field writes a direction plainly: an optional minus, 1 to 3 digits, and optionally a point and
-- 1 to 9 digits; it is less than a full circle in size. The direction is in parts.
pub record IsPlainDirection (field : List ℕ) (direction : ℤ) : Type 0 where
  pub negative : Bool
  pub whole : List ℕ
  pub decimals : List ℕ
  pub spelled : field ≡ plain_sign negative ++ (whole ++ after_point decimals)
  pub some : 1 ≤ length whole
  pub short : length whole ≤ 3
  pub few : length decimals ≤ 9
  pub whole_digits : list_all is_ascii_digit whole ≡ true
  pub decimal_digits : list_all is_ascii_digit decimals ≡ true
  pub below : plain_size whole decimals < CIRCLE
  pub value : direction ≡ signed negative (PARTS * plain_size whole decimals)

-- A row is plain: it has two fields, and the second writes a direction plainly.
pub record IsPlainRow (row : List (List ℕ)) : Type 0 where
  pub two : length row ≡ 2
  pub direction : ℤ
  pub plain : IsPlainDirection (beside_name row) direction

-- Bytes are a plain table of these targets and directions: all records, as `csv` reads them by
-- default, are plain rows, none has a fault, and of each target a row states its direction.
pub record IsPlainTable (targets : List (List ℕ)) (bytes : List ℕ) (directions : List ℤ)
    : Type 0 where
  pub short : length bytes ≤ LONGEST_TABLE
  pub plain : All IsPlainRow (records_of bytes)
  pub faultless : HasNoFault Gon targets (records_of bytes)
  pub stated : stated_by Gon (records_of bytes) targets ≡ map Some directions
