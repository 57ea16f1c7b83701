-- The two columns of a table by their titles, as they are handed out (profile).
use Rattle.std.specs.Prelude.{◌≡◌, ◌⊎◌, ◌+◌, ◌++◌, ℕ, List, Result, Ok, Err, codes, decimal}
use Rattle.direction_table.specs.declared.form.ColumnPair.{ColumnPair}
use Rattle.table_titles.specs.Titles.{columns_by_titles}
use Rattle.table_titles.specs.declared.fault.TitlesFault.{TitlesFault}
use Rattle.table_titles.specs.declared.fault.TitlesFault.TheVariants.{Memory}

-- The text of two columns, counted from 1, that of targets first.
abbrev pub pair_text : ColumnPair → List ℕ
pair_text pair = decimal (pair.names + 1) ++ codes "," ++ decimal (pair.directions + 1)

-- The same where there are two.
abbrev pub pair_or_fault : Result ColumnPair TitlesFault → Result (List ℕ) TitlesFault
pair_or_fault (Ok pair) = Ok (pair_text pair)
pair_or_fault (Err fault) = Err fault

-- The answer is the columns of a table with these titles of targets and of directions, or why it has
-- none; or that memory ran out.
abbrev pub TellsColumns : List ℕ → List ℕ → List ℕ → Result (List ℕ) TitlesFault → Type 0
TellsColumns targets directions table answer =
    (answer ≡ pair_or_fault (columns_by_titles targets directions table)) ⊎ (answer ≡ Err Memory)
