-- The lemmas of the laws, by the names of the laws: what proofs of other crates cite.
pub use Rattle.least_directions.proofs.LeastLaws.{one_distance, one_list}
pub use Rattle.least_directions.proofs.LeastLaws.{rounded_is_apart as rounded}
