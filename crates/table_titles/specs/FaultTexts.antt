-- The line of a refusal for the titles of a table (profile).
use Rattle.std.specs.Prelude.{ℕ, List, [], ◌++◌, codes}
use Rattle.table_titles.specs.Faults.{titles_fault_name}
use Rattle.table_titles.specs.declared.fault.TitlesFault.{TitlesFault}
use Rattle.table_titles.specs.declared.fault.TitlesFault.TheVariants as fault
use Rattle.table_titles.specs.declared.titles.TitleOf.{TitleOf}
use Rattle.table_titles.specs.declared.titles.TitleOf.TheVariants as title

-- Where a fault is: in the table, unless memory ran out.
abbrev pub place_text : TitlesFault → List ℕ
place_text fault.Memory = []
place_text other = codes "table: "

-- Which title it is of: the first is that of targets, the second that of directions.
abbrev pub title_text : TitleOf → List ℕ
title_text title.Targets = codes " 1"
title_text title.Directions = codes " 2"

abbrev pub carried_text : TitlesFault → List ℕ
carried_text (fault.NoTitle of) = title_text of
carried_text (fault.TwiceTitled of) = title_text of
carried_text other = []

-- The line: what is refused, and why.
abbrev pub titles_line : TitlesFault → List ℕ
titles_line fault =
    codes "refused: " ++ place_text fault ++ titles_fault_name fault ++ carried_text fault
    ++ codes "\n"
