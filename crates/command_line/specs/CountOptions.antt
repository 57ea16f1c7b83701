-- The options that state a number of single stations, or of each.
use Rattle.std.specs.Prelude.{ℕ, List, codes}
use Rattle.command_line.specs.declared.count_option.CountOption.{CountOption}
use Rattle.command_line.specs.declared.count_option.CountOption.TheVariants.{Sets, Targets}

-- The name of an option, without its two hyphens.
abbrev pub count_name : CountOption → List ℕ
count_name Sets = codes "sets"
count_name Targets = codes "targets"

-- The largest number that it takes.
abbrev pub count_largest : CountOption → ℕ
count_largest Sets = 40
count_largest Targets = 100

-- What may be stated there, as a mistake tells it.
abbrev pub count_may_be : CountOption → List ℕ
count_may_be Sets = codes "state a whole number from 1 to 40, or NAME=N for one station"
count_may_be Targets = codes "state a whole number from 1 to 100, or NAME=N for one station"

-- What a mistake tells of a number that the option doesn't take.
abbrev pub count_is_not_in : CountOption → List ℕ
count_is_not_in Sets = codes " is not in 1..=40"
count_is_not_in Targets = codes " is not in 1..=100"

-- The place of an option in the order in which mistakes are told.
abbrev pub count_place : CountOption → ℕ
count_place Sets = 9
count_place Targets = 10
