-- The lemmas of the laws, by the names of the laws: what proofs of other crates cite.
use Rattle.std.proofs.Common.{ℕ, List}
use Rattle.std.specs.Prelude.{◌↔◌}
use Rattle.gsi_file.specs.FileAnswers.{FileAnswers}
use Rattle.station_book.specs.Limits.{FaceLimits, AreLimits}
use Rattle.station_book.specs.Stations.{SurveyedStation}
use Rattle.station_check.specs.Means.{HasStation}
use Rattle.station_check.specs.StationOfFile.{IsStationOfFile}
use Rattle.station_check.proofs.Acceptance.{station_found}
use Rattle.station_check.proofs.FoundStation.{has_station}
pub use Rattle.station_check.proofs.Acceptance.{acceptance}
pub use Rattle.station_check.proofs.OneVerdict.{some_outcome, one_outcome, one_verdict}
pub use Rattle.station_check.proofs.Refusals.{refusal}
pub use Rattle.station_check.proofs.SomeVerdict.{some_verdict}

-- The station that is found under a name is exactly the one that the file's lines define.
pub station_of_file : (limits : FaceLimits) (file : FileAnswers) (name : List ℕ)
    (its : SurveyedStation) → AreLimits limits
    → HasStation limits file name its ↔ IsStationOfFile limits file name its
station_of_file limits file name its small =
    (station_found limits file name its small, has_station limits file name its)
