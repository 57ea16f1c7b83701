-- Where what the line of a refusal names stands in the files.
use Rattle.std.specs.Prelude.{◌≡◌, ℕ, List, Option, Some, None, codes}
use Rattle.refusal_places.specs.Kinds.{row_of_kind_at}
use Rattle.refusal_places.specs.Lines.{HasNoLine, IsLineAt}
use Rattle.refusal_places.specs.MeantParts.{IsMeant}
use Rattle.refusal_places.specs.NamedPlaces.{named_in}
use Rattle.refusal_places.specs.Rows.{IsRowHowever, row_at}
use Rattle.refusal_places.specs.declared.kind.KindRow.{KindRow}
use Rattle.refusal_places.specs.declared.named.Named.{Named}
use Rattle.refusal_places.specs.declared.named.Named.TheVariants.{Block, SheetRow, TableRow, Target}
use Rattle.refusal_places.specs.declared.named.Named.TheVariants.{Set, Observation, StationTarget}
use Rattle.refusal_places.specs.declared.named.Named.TheVariants.{StationObservation}
use Rattle.refusal_places.specs.declared.place.Found.{Found}
use Rattle.refusal_places.specs.declared.place.Place.{Place}
use Rattle.refusal_places.specs.declared.row.TheConstants.{COMMA}
use Rattle.refusal_places.specs.declared.span.Span.{Span}

-- The line of this number stands here, or the file has none.
abbrev pub IsLineOf : List ℕ → ℕ → Option Span → Type 0
IsLineOf field number (Some span) = IsLineAt field number span
IsLineOf field number None = HasNoLine field number

-- The row of this number stands here by each separator of tables, or by them it stands nowhere.
abbrev pub IsRowOfTable : List ℕ → ℕ → Option Span → Type 0
IsRowOfTable table number (Some span) = IsRowHowever table number span
IsRowOfTable table number None = (span : Span) → ¬ (IsRowHowever table number span)

-- This row of a kind is found, or none.
abbrev pub IsFoundAt : Option KindRow → Found → Type 0
IsFoundAt (Some r) found = (found.row ≡ Some r.row) × (found.span ≡ Some r.span)
IsFoundAt None found = (found.row ≡ None) × (found.span ≡ None)

-- So it stands in a field file, or in the sheet or the table beside it; of what stands in a station,
-- in neither.
abbrev pub Stands : Named → List ℕ → List ℕ → Found → Type 0
Stands (Block number) field other found = (found.row ≡ None) × IsLineOf field number found.span
Stands (SheetRow number) field other found =
    (found.row ≡ None) × (found.span ≡ row_at COMMA other number)
Stands (TableRow number) field other found =
    (found.row ≡ None) × IsRowOfTable other number found.span
Stands (Target number) field other found =
    IsFoundAt (row_of_kind_at (codes "target") other number) found
Stands (Set number) field other found =
    IsFoundAt (row_of_kind_at (codes "set") other number) found
Stands (Observation number) field other found =
    IsFoundAt (row_of_kind_at (codes "obs") other number) found
Stands (StationTarget number) field other found = (found.row ≡ None) × (found.span ≡ None)
Stands (StationObservation number) field other found =
    (found.row ≡ None) × (found.span ≡ None)

-- The line of a refusal names this, so it stands in these files, and this part of it is meant.
pub record IsPlace (line field other : List ℕ) (p : Place) : Type 0 where
  pub named : named_in line ≡ Some p.named
  pub stands : Stands p.named field other p.found
  pub meant : IsMeant line field p.named p.found.span p.meant
