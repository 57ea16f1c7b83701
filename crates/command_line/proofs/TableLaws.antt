-- What is lacking where a table can't be asked for, beside what else may be.
use Rattle.std.proofs.Common.{◌⊎◌, inl, inr}

-- One of three is one of four.
pub lacks-table : {A B C : Type 0} (Other : Type 0) → A ⊎ B ⊎ C → A ⊎ B ⊎ C ⊎ Other
lacks-table Other (inl result) = inl result
lacks-table Other (inr (inl table)) = inr (inl table)
lacks-table Other (inr (inr columns)) = inr (inr (inl columns))
