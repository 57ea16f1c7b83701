-- The table of a station's least-squares directions, as it is printed.
use Rattle.std.specs.Prelude.{◌≡◌, ℕ, List, All, map, slice_index_or}
use Rattle.adjust_kernel.specs.Stations.{StationValue}
use Rattle.direction_table.specs.TableRows.{unstated}
use Rattle.direction_table.specs.TableTexts.{directions_of, names_of, table_text}
use Rattle.direction_table.specs.Tables.{IsTableText}
use Rattle.direction_table.specs.Texts.{IsWhole, step_of}
use Rattle.direction_table.specs.declared.table.TargetDirection.{TargetDirection}
use Rattle.least_directions.specs.LeastDirections.{AreRounded}
use Rattle.direction_table.specs.declared.unit.AngleUnit.TheVariants.{Gon}
use Rattle.row_forms.specs.declared.form.RowForm.{RowForm}
use Rattle.row_forms.specs.declared.form.RowForm.TheVariants.{Commas}

-- the numbers of rows: their directions, in units of 0.000000001 gon
abbrev pub numbers_of : List TargetDirection → List ℕ
numbers_of stated = map (λ row. row.direction) stated

-- This is the text of the table of a station's least-squares directions, in a form, with so many
-- decimals.
pub record IsDirectionsText (form : RowForm) (station : StationValue) (count : ℕ) (text : List ℕ)
    : Type 0 where
  -- A row for each target, in their order.
  pub stated : List TargetDirection
  pub text_is : text ≡ table_text form count stated
  pub named : names_of stated ≡ station.targets
  -- The first direction is 0; and each is from 0 and below a full circle, and written exactly.
  pub first : slice_index_or (numbers_of stated) 0 0 ≡ 0
  pub whole : All (IsWhole count) (numbers_of stated)
  -- Each is the least-squares direction, counted from the first and rounded to its last decimal,
  -- the middle of two upwards, whichever choice of directions, orientations and full turns, over
  -- any denominator, is least.
  pub rounded : AreRounded station (step_of count) (numbers_of stated)
  -- And with commas between its cells the text is read as the table of these very directions.
  pub reads : form ≡ Commas
      → IsTableText (unstated Gon) station.targets text (directions_of stated)
