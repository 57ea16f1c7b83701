-- The text of the differences of a table from its station, in a form (profile).
use Rattle.std.specs.Prelude.{ℕ, ◌+◌, ◌*◌, ◌/◌, ◌%◌, ◌==◌, Bool, if◌then◌else◌, List, [], ◌∷◌, map}
use Rattle.std.specs.Prelude.{codes, ℤ, ◌-ℤ◌}
use Rattle.std.specs.List.{list_all}
use Rattle.angle_texts.specs.MgonTexts.{mgon_text}
use Rattle.direction_table.specs.Texts.{direction_text}
use Rattle.adjust_kernel.specs.declared.units.TheConstants.{CIRCLE, PARTS, UNIT}
use Rattle.row_forms.specs.Forms.{number_in, rows_text}
use Rattle.row_forms.specs.declared.form.RowForm.{RowForm}
use Rattle.station_differences.specs.Lines.{compared_of}
use Rattle.station_differences.specs.Medians.{median_of}
use Rattle.station_differences.specs.declared.compared.TargetDifference.{TargetDifference}
use Rattle.station_differences.specs.declared.line.TargetLine.{TargetLine}
use Rattle.station_differences.specs.declared.line.TargetLine.TheVariants.{Compared, Lacking}

-- six decimals of a gon write each stated direction of these rows exactly
abbrev pub are_short : List TargetDifference → Bool
are_short rows = list_all (λ row. row.stated % (PARTS * UNIT) == 0) rows

-- A stated direction, in parts, rounded to 0.000000001 gon: on the circle, in that unit. The middle
-- of two is none, since the parts of that unit are odd. What is stated in gon is exact.
abbrev pub rounded : ℕ → ℕ
rounded direction = (2 * direction + PARTS) / (2 * PARTS) % CIRCLE

-- A direction in gon as text: with six decimals, or with nine where some row needs more.
abbrev pub gon_text : Bool → ℕ → List ℕ
gon_text short direction = direction_text (if short then 6 else 9) direction

-- A stated direction, in parts, as text.
abbrev pub stated_text : Bool → ℕ → List ℕ
stated_text short direction = gon_text short (rounded direction)

-- the titles
abbrev pub titles : List (List ℕ)
titles =
    codes "target" ∷ codes "stated" ∷ codes "least squares" ∷ codes "difference"
    ∷ codes "from the median" ∷ []

-- A difference less the median of all, in mgon, as text.
abbrev pub from_median_text : ℤ → ℤ → List ℕ
from_median_text median difference = mgon_text (difference -ℤ median)

-- The row of a target: its name, its stated direction and its least-squares direction in gon, and
-- their difference in mgon, as it is and less the median. Where no direction is stated, its field
-- and those of the differences are empty.
abbrev pub row_of : RowForm → Bool → ℤ → TargetLine → List (List ℕ)
row_of form short median (Compared row) =
    row.target ∷ number_in form (stated_text short row.stated)
    ∷ number_in form (direction_text 6 row.least) ∷ number_in form (mgon_text row.difference)
    ∷ number_in form (from_median_text median row.difference) ∷ []
row_of form short median (Lacking target) =
    target.target ∷ [] ∷ number_in form (direction_text 6 target.least) ∷ [] ∷ [] ∷ []

-- The rows of the targets, in their order. Decimals and median are those of the stated ones.
abbrev pub rows_of : RowForm → List TargetLine → List (List (List ℕ))
rows_of form lines =
    map (row_of form (are_short (compared_of lines)) (median_of (compared_of lines))) lines

-- The text: the titles, and the rows.
abbrev pub differences_text : RowForm → List TargetLine → List ℕ
differences_text form lines = rows_text form (titles ∷ rows_of form lines)
