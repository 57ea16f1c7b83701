-- What printed differences say, in the order of the sentence: of a station, and of the bytes of a
-- table that states a direction of all its targets, or of two or more, the text has a row of titles
-- and a row for each target: with its least-squares direction, least over all directions,
-- orientations and full turns; and, where the table states one, with its stated direction and the
-- difference of the two after the rotation that makes the largest difference of the stated targets
-- smallest, each rounded once, and that difference less the lower median of these. As JSON lines it
-- has the same of each target, and no titles.
use Rattle.std.specs.Prelude.{◌≡◌, ℕ, List, ℤ, Option}
use Rattle.adjust_kernel.specs.Stations.{StationValue}
use Rattle.direction_table.specs.Tables.{IsPartText}
use Rattle.direction_table.specs.declared.form.TableForm.{TableForm}
use Rattle.station_differences.specs.DifferenceTexts.{differences_text}
use Rattle.station_differences.specs.JsonLines.{json_lines}
use Rattle.station_differences.specs.Lines.{AreLines}
use Rattle.station_differences.specs.StatedTargets.{IsEnough}
use Rattle.station_differences.specs.declared.line.TargetLine.{TargetLine}
use Rattle.station_differences.specs.declared.line_form.LineForm.{LineForm}
use Rattle.station_differences.specs.declared.line_form.LineForm.TheVariants.{JsonLines, Rows}

-- The text of lines, as they are written.
abbrev pub written_text : LineForm → List TargetLine → List ℕ
written_text (Rows form) = differences_text form
written_text JsonLines = json_lines

-- This is what is written of the lines of the differences of a table's bytes from a station.
pub record IsTextOfRows (written : List TargetLine → List ℕ) (form : TableForm)
    (station : StationValue) (bytes text : List ℕ) : Type 0 where
  -- The bytes state this of the targets of the station: of each a direction, or none.
  pub stated : List (Option ℤ)
  pub states : IsPartText form station.targets bytes stated
  pub enough : IsEnough stated
  -- The lines of the targets, with these directions and the least-squares ones.
  pub lines : List TargetLine
  pub are_lines : AreLines station stated lines
  pub text_is : text ≡ written lines

-- This is the text, with lines written so, of the differences of a table's bytes from a station.
abbrev pub IsDifferencesText : TableForm → LineForm → StationValue → List ℕ → List ℕ → Type 0
IsDifferencesText form written = IsTextOfRows (written_text written) form
