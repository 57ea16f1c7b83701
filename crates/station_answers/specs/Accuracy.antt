-- How accurate a station's directions are, as a row for other programs (profile).
use Rattle.std.specs.Prelude.{◌≡◌, ℕ, ◌*◌, List, [], ◌++◌, Option, Some, None, codes, decimal, pos}
use Rattle.adjust_kernel.specs.Stations.{StationValue}
use Rattle.angle_texts.specs.MgonTexts.{mgon_text}
use Rattle.direction_table.specs.Texts.{direction_text}
use Rattle.least_directions.specs.LeastDirections.{IsAdjustable}
use Rattle.station_report.specs.Deviations.{IsAccuracy, degrees_of}
use Rattle.station_report.specs.declared.accuracy.Accuracy.{Accuracy}

-- the standard deviation of each adjusted direction in mgon, with three decimals; nothing where a set
-- lacks a target, so that not all have the same
abbrev pub of_adjusted_text : Option ℕ → List ℕ
of_adjusted_text None = []
of_adjusted_text (Some units) = mgon_text (pos units)

-- the sum of the squares of all residuals in mgon^2, with six decimals: of squares of 0.001 mgon
abbrev pub squares_text : ℕ → List ℕ
squares_text squares = direction_text 6 (1_000 * squares)

-- The standard deviation of one two-face direction in mgon, that of each adjusted direction, and the
-- sum of squares, with commas between them; of no accuracy the commas alone.
abbrev pub numbers_text : Option Accuracy → List ℕ
numbers_text None = codes ",,"
numbers_text (Some accuracy) =
    mgon_text (pos accuracy.of_one)
    ++ (codes ","
    ++ (of_adjusted_text accuracy.of_adjusted ++ (codes "," ++ squares_text accuracy.squares)))

-- The titles, and a row of the degrees of freedom of a station's adjustment and of how accurate its
-- directions are.
abbrev pub accuracy_text : StationValue → Option Accuracy → List ℕ
accuracy_text station accuracy =
    codes "degrees,deviation,of adjusted,squares\n"
    ++ (decimal (degrees_of station) ++ (codes "," ++ (numbers_text accuracy ++ codes "\n")))

-- This is that text of a station whose directions can be adjusted: only such a one has an accuracy.
pub record IsAccuracyText (station : StationValue) (text : List ℕ) : Type 0 where
  pub adjustable : IsAdjustable station
  pub accuracy : Option Accuracy
  pub is_accuracy : IsAccuracy station accuracy
  pub text_is : text ≡ accuracy_text station accuracy
