-- The lemmas of the laws, by the names of the laws: what proofs of other crates cite.
pub use Rattle.station_book.proofs.names.StationNames.{its_station}
pub use Rattle.station_book.proofs.recorded.SomeObservation.{some_observation}
pub use Rattle.station_book.proofs.histories.OneSurvey.{one_survey}
pub use Rattle.station_book.proofs.recorded.Recorded.{recorded, recorded_faces}
pub use Rattle.station_book.proofs.histories.SomeSurvey.{some_survey}
