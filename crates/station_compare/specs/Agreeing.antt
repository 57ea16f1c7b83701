-- What an agreement says, in the order of the sentence: of the station of this name in the field
-- file, whose observations are its two-face directions within the limits, and whose residuals keep
-- theirs, one rotation brings every direction that the table states, and the number that its row
-- writes, within so many units of 0.000001 gon of the least-squares one, least over all directions,
-- orientations and full turns, and none brings them nearer by a unit.
use Rattle.std.specs.Prelude.{◌≡◌, ℕ, ◌≤◌, ◌<◌, List, length, ℤ, Option}
use Rattle.adjust_kernel.specs.Residuals.{Choice}
use Rattle.byte_ends.specs.Input.{input_within, Ended}
use Rattle.byte_ends.specs.Source.{Told}
use Rattle.direction_table.specs.Tables.{IsTableText}
use Rattle.direction_table.specs.declared.reading.TheConstants.{LONGEST_TABLE}
use Rattle.directions_apart.specs.Apart.{AreBroughtWithin, stated_by}
use Rattle.exact_adjustment.specs.LeastOf.{HasResidualsWithin, IsLeastOf}
use Rattle.gsi_file.specs.FileAnswers.{FileAnswers}
use Rattle.least_directions.specs.LeastDirections.{IsAdjustable}
use Rattle.station_book.specs.declared.result_limits.ResultLimits.{ResultLimits}
use Rattle.station_book.specs.Stations.{SurveyedStation}
use Rattle.station_check.specs.StationOfFile.{IsStationOfFile}
use Rattle.station_compare.specs.LimitInForce.{limit_in_force, off_in}
use Rattle.station_compare.specs.declared.agreement.Agreement.{Agreement}
use Rattle.station_results.specs.Greatest.{IsGreatestSize}
use Rattle.direction_table.specs.declared.form.TableForm.{TableForm}

-- Of these lines of a field file, and of these bytes of a table and how they end, this is the
-- agreement for the station of this name; `within` is the limit that is stated, or none.
pub record Agrees (form : TableForm) (limits : ResultLimits) (file : FileAnswers) (stated : Told)
    (name : List ℕ)
    (within : Option ℕ) (a : Agreement) : Type 0 where
  -- The station of this name: its observations are exactly its two-face directions, and every face
  -- difference is within the limits.
  pub its : SurveyedStation
  pub station : IsStationOfFile limits.faces file name its
  -- The table was read to its end, and its bytes state these directions, one for each target.
  pub bytes : List ℕ
  pub whole : input_within LONGEST_TABLE stated ≡ Ended bytes
  pub directions : List ℤ
  pub states : IsTableText form its.station.targets bytes directions
  -- The station's observations hold all sets and targets together, and its exact adjustment keeps
  -- the largest residual limit: so a least-squares choice of directions, orientations and full
  -- turns, over any denominator, is there.
  pub adjustable : IsAdjustable its.station
  -- And no residual is above the limit of residuals, whichever choice is least.
  pub held : HasResidualsWithin its.station limits.residual
  -- One rotation brings every stated direction so near to the least-squares one, whichever choice
  -- is least, with each number that may be off from it.
  pub brought : (c : Choice) (turns : List ℤ) → IsLeastOf its.station c turns
      → AreBroughtWithin (length its.station.targets) c (stated_by directions)
      (off_in form its.station.targets bytes) a.how_far.apart
  -- And no rotation brings them nearer by a unit.
  pub no_nearer : (nearer : ℕ) → nearer < a.how_far.apart → (c : Choice) (turns : List ℤ)
      → IsLeastOf its.station c turns
      → ¬ AreBroughtWithin (length its.station.targets) c (stated_by directions)
      (off_in form its.station.targets bytes) nearer
  -- That is no further than the limit that it says: the one in force, which is the stated one, or
  -- the usual one for the steps to which the table's rows round their directions.
  pub agrees : a.how_far.apart ≤ a.how_far.limit
  pub limit : a.how_far.limit ≡ limit_in_force form within its.station.targets bytes
  -- The greatest residual of the station is this in size, in units of 0.001 mgon: of its
  -- observations, adjusted by least squares, each rounded from the exact fraction.
  pub greatest : IsGreatestSize its.station a.greatest
  pub named : a.name ≡ its.station.name
  pub counted_sets : a.sets ≡ length its.station.sets
  pub counted : a.targets ≡ length its.station.targets
