-- The lemmas of the laws, by the names of the laws: what proofs of other crates cite.
pub use Rattle.gsi_word.proofs.LineLaws.{same_block as one_block, same_fault as one_fault}
pub use Rattle.gsi_word.proofs.LineLaws.{no_fault as no_fault_in_a_block}
pub use Rattle.gsi_word.proofs.LineCases.{block_or_fault}
