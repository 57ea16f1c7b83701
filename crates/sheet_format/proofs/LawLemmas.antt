-- The lemmas of the laws, by the names of the laws: what proofs of other crates cite.
pub use Rattle.sheet_format.proofs.OneAnswer.{one-sheet as one_sheet, one-fault as one_fault}
pub use Rattle.sheet_format.proofs.OneAnswer.{never-both as never_both}
pub use Rattle.sheet_format.proofs.OneAnswer.{sheet-or-fault as some_answer}
