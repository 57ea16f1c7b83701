-- What each byte of a text does while its rows are read, as `csv`'s machine has it.
use Rattle.std.specs.Prelude.{◌≡◌, ℕ}
use Rattle.csv.specs.Reading.{default_config}
use Rattle.csv.specs.declared.parser.Action.{Action}
use Rattle.csv.specs.declared.parser.Action.TheVariants as act
use Rattle.csv.specs.declared.parser.Config.{Config}
use Rattle.csv.specs.declared.parser.State.{State}
use Rattle.csv.specs.declared.parser.State.TheVariants as st
use Rattle.row_forms.specs.declared.steps.Place.{Place}
use Rattle.row_forms.specs.declared.steps.Place.TheVariants.{RowStart, FieldStart, InField}
use Rattle.row_forms.specs.declared.steps.Place.TheVariants.{InQuotes, AfterQuote}
use Rattle.row_forms.specs.declared.steps.Step.{Step}
use Rattle.row_forms.specs.declared.steps.Step.TheVariants.{Skip, Keep, EndField, EndRow}

-- How `csv` reads a text whose fields this byte separates: as it does by default, but for it.
abbrev pub config_with : ℕ → Config
config_with separator = record default_config { delimiter = separator }

-- The machine's state at a place.
abbrev pub state_of : Place → State
state_of RowStart = st.StartRecord
state_of FieldStart = st.StartField
state_of InField = st.InField
state_of InQuotes = st.InQuoted
state_of AfterQuote = st.AfterQuote

-- A byte does what the machine says: the state after it, and the action.
abbrev pub IsStep : Step → State × Action → Type 0
IsStep (Skip place) said = said ≡ (state_of place, act.Skip)
IsStep (Keep place) said = said ≡ (state_of place, act.Copy)
IsStep EndField said = said ≡ (st.StartField, act.EndField)
IsStep EndRow said = said.1 ≡ act.EndRecord
