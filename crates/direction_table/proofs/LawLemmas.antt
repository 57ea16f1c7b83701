-- The lemmas of the laws, by the names of the laws: what proofs of other crates cite.
pub use Rattle.direction_table.proofs.OneAnswer.{one-table as one_table}
pub use Rattle.direction_table.proofs.OneAnswer.{one-fault as one_fault}
pub use Rattle.direction_table.proofs.OneAnswer.{never-both as never_both}
pub use Rattle.direction_table.proofs.OneAnswer.{table-or-fault as some_answer}
pub use Rattle.direction_table.proofs.TableAgain.{table-again as table_reads_back}
pub use Rattle.direction_table.proofs.PlainRows.{plain-stands as plain_tables_stand}
