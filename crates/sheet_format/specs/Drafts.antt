-- What the rows that were read so far say of the sheet, and what one more row adds: how the code
-- reads. No public clause cites it.
use Rattle.std.specs.Prelude.{◌≡◌, ℕ, ◌==◌, if◌then◌else◌, List, [], ◌∷◌, ◌++◌, ◌≤◌, length, All}
use Rattle.std.specs.Prelude.{Option, Some, None, IfSome, unwrap_or, ⊤}
use Rattle.adjust_kernel.specs.Names.{IsName}
use Rattle.adjust_kernel.specs.Sheets.{IsDenominator, IsDirection, IsOrientation, IsRow, SheetValue}
use Rattle.adjust_kernel.specs.declared.bounds.TheConstants.{MOST_ROWS, MOST_SETS, MOST_TARGETS}
use Rattle.adjust_kernel.specs.declared.row.Direction.{Direction}
use Rattle.adjust_kernel.specs.declared.row.Orientation.{Orientation}
use Rattle.adjust_kernel.specs.declared.row.Row.{Row}
use Rattle.sheet_format.specs.Columns.{Fields, columns_of}
use Rattle.sheet_format.specs.Faults.{Before}
use Rattle.sheet_format.specs.RowTypes.{row_type_of}
use Rattle.sheet_format.specs.Numbers.{natural_of, value_of}
use Rattle.sheet_format.specs.Rows.{body_rows, sheet_fields}
use Rattle.sheet_format.specs.Versions.{version_of}
use Rattle.sheet_format.specs.declared.draft.Refusal.{Refusal}
use Rattle.sheet_format.specs.declared.draft.Refusal.TheVariants.{Fault, Memory}
use Rattle.sheet_format.specs.declared.entry.Header.{Header}
use Rattle.sheet_format.specs.declared.fault.RowKind.{RowKind}
use Rattle.sheet_format.specs.declared.row_type.RowType.{RowType}
use Rattle.sheet_format.specs.declared.row_type.RowType.TheVariants as row_type
use Rattle.sheet_format.specs.declared.version.Version.{Version}
use Rattle.sheet_format.specs.declared.version.Version.TheVariants as version

-- the first row, if it was read, and the entries of the others
pub record DraftValue : Type 0 where
  pub header : Option Header
  pub directions : List Direction
  pub orientations : List Orientation
  pub rows : List Row

-- the draft with these parts
abbrev pub draft_of : Option Header → List Direction → List Orientation → List Row → DraftValue
draft_of header directions orientations rows = record {
  header = header;
  directions = directions;
  orientations = orientations;
  rows = rows;
}

-- what the first row states is within the limits of a sheet
pub record IsHeader (h : Header) : Type 0 where
  pub name : IsName h.name
  pub denominator : IsDenominator h.denominator

-- The entries of a draft keep the rules of a sheet's, each by itself, and none are too many: so
-- where a draft has all parts of a sheet, they are one.
pub record KeepsRules (d : DraftValue) : Type 0 where
  pub header : IfSome d.header IsHeader
  pub directions : All IsDirection d.directions
  pub orientations : All IsOrientation d.orientations
  pub rows : All IsRow d.rows
  pub few_directions : length d.directions ≤ MOST_TARGETS
  pub few_orientations : length d.orientations ≤ MOST_SETS
  pub few_rows : length d.rows ≤ MOST_ROWS

-- the draft before any row
abbrev pub blank : DraftValue
blank = record { header = None; directions = []; orientations = []; rows = [] }

-- the row that a header stands for
abbrev pub header_rows : Option Header → List (List (List ℕ))
header_rows None = []
header_rows (Some h) = sheet_fields h.version h.name h.denominator ∷ []

-- the rows that a draft stands for
abbrev pub rows_of_draft : DraftValue → List (List (List ℕ))
rows_of_draft d = header_rows d.header ++ body_rows d.directions d.orientations d.rows

-- the sheet of a header and the parts of a draft
abbrev pub sheet_of_draft : Header → DraftValue → SheetValue
sheet_of_draft h d = record {
  name = h.name;
  denominator = h.denominator;
  directions = d.directions;
  orientations = d.orientations;
  rows = d.rows;
}

-- the sheet is that of this header and the parts of the draft: no sheet, where there is no header
abbrev pub HasParts : Option Header → DraftValue → SheetValue → Type 0
HasParts None d s = ⊥
HasParts (Some h) d s = s ≡ sheet_of_draft h d

-- the sheet has the parts of the draft
abbrev pub IsOfDraft : DraftValue → SheetValue → Type 0
IsOfDraft d s = HasParts d.header d s

-- the type of the last row, where a header alone may have been read
abbrev pub last_of_header : Option Header → Option RowType
last_of_header None = None
last_of_header (Some h) = Some row_type.Sheet

-- the type of the draft's last row
abbrev pub last_of_draft : DraftValue → Option RowType
last_of_draft d =
    if length d.rows == 0
    then (if length d.orientations == 0
    then (if length d.directions == 0 then last_of_header d.header else Some row_type.Target)
    else Some row_type.Set)
    else Some row_type.Obs

-- the version that a header states; 1 where there is no header yet
abbrev pub version_of_header : Option Header → Version
version_of_header None = version.One
version_of_header (Some h) = h.version

-- what its rows say of the next
abbrev pub said_by_draft : DraftValue → Before
said_by_draft d = record {
  last = last_of_draft d;
  version = version_of_header d.header;
  targets = length d.directions;
  sets = length d.orientations;
  obs = length d.rows;
}

-- the header that the columns of a row without a fault state
abbrev pub header_of : Fields → Header
header_of c = record {
  version = unwrap_or (version_of c.number) version.One;
  name = c.name;
  denominator = natural_of (value_of c.value);
}

-- the direction that they state
abbrev pub direction_of : Fields → Direction
direction_of c = record { name = c.name; value = value_of c.value }

-- the orientation that they state
abbrev pub orientation_of : Fields → Orientation
orientation_of c = record { set = natural_of (value_of c.number); value = value_of c.value }

-- the observation with its turns that they state
abbrev pub obs_row_of : Fields → Row
obs_row_of c = record {
  set = natural_of (value_of c.number);
  target = c.name;
  value = natural_of (value_of c.value);
  turn = value_of c.turn;
}

-- the draft with the entry of one more row of this type
abbrev pub with_columns : RowType → DraftValue → Fields → DraftValue
with_columns row_type.Sheet d c =
    record {
      header = Some (header_of c);
      directions = d.directions;
      orientations = d.orientations;
      rows = d.rows;
    }
with_columns row_type.Target d c =
    record {
      header = d.header;
      directions = d.directions ++ (direction_of c ∷ []);
      orientations = d.orientations;
      rows = d.rows;
    }
with_columns row_type.Set d c =
    record {
      header = d.header;
      directions = d.directions;
      orientations = d.orientations ++ (orientation_of c ∷ []);
      rows = d.rows;
    }
with_columns row_type.Obs d c =
    record {
      header = d.header;
      directions = d.directions;
      orientations = d.orientations;
      rows = d.rows ++ (obs_row_of c ∷ []);
    }

-- the same, where the row has a type
abbrev pub with_row_type : Option RowType → DraftValue → Fields → DraftValue
with_row_type None d c = d
with_row_type (Some k) d c = with_columns k d c

-- the same, where the row has its five columns
abbrev pub with_fields : DraftValue → Option Fields → DraftValue
with_fields d None = d
with_fields d (Some c) = with_row_type (row_type_of c.row_type) d c

-- the draft with the entry of one more row
unfoldable pub with_row : DraftValue → List (List ℕ) → DraftValue
with_row d row = with_fields d (columns_of row)

-- why a row was not taken: its fault, or that memory ran out
abbrev pub ExplainsRow : Refusal → Option RowKind → Type 0
ExplainsRow (Fault k) found = found ≡ Some k
ExplainsRow Memory found = ⊤
