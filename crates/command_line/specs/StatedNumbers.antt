-- The numbers of sets or of targets that the texts of an option state.
use Rattle.std.specs.Prelude.{ℕ, [], List, option_map, unwrap_or}
use Rattle.clap.specs.Words.{matched_of, raw_values}
use Rattle.clap.specs.declared.parser.matches.Found.{Found}
use Rattle.job_statements.specs.StatedNumbers.{IsStatedBy, OfStation, StateAll}
use Rattle.job_statements.specs.declared.stated.StatedNumber.{StatedNumber}

-- The texts of an option, in the order in which they stand: none where it has none.
abbrev pub texts_of : Found → List ℕ → List (List ℕ)
texts_of found id = unwrap_or (option_map raw_values (matched_of found id)) []

-- The texts of the option of this id state this number.
abbrev pub StatesNumbers : Found → List ℕ → ℕ → StatedNumber → Type 0
StatesNumbers found id largest stated = IsStatedBy largest (texts_of found id) stated

-- They state none: one of them states nothing, or two state a number of the same station, or of
-- each.
abbrev pub StatesNoNumbers : Found → List ℕ → ℕ → Type 0
StatesNoNumbers found id largest =
    (numbers : List OfStation) → ¬ (StateAll largest (texts_of found id) numbers)
