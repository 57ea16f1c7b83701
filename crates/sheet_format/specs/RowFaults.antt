-- The first fault of rows that are read one by one: of a sheet's, and of a table's.
use Rattle.std.specs.Prelude.{◌≡◌, ℕ, ◌<◌, Bool, if◌then◌else◌, List, [], ◌∷◌, take, drop}
use Rattle.std.specs.Prelude.{Option, Some, None}
use Rattle.std.specs.Option.{option_or}

-- a fault, where what is asked for is not so
abbrev pub unless : {Kind : Type 0} → Bool → Kind → Option Kind
unless met fault = if met then None else Some fault

-- the first fault of a list of tests
abbrev pub first_fault : {Kind : Type 0} → List (Option Kind) → Option Kind
first_fault [] = None
first_fault (test ∷ later) = option_or test (first_fault later)

-- what rows have to keep: the fault of a row, if it has one, by the rows before it, and that of the
-- end by all rows
pub record RowRules (Row Kind : Type 0) : Type 0 where
  pub of_row : List Row → Row → Option Kind
  pub of_end : List Row → Option Kind

-- the fault at a place, by the rows before it and those from there on: of the row there, or of the
-- end
unfoldable pub fault_between : {Row Kind : Type 0} → RowRules Row Kind → List Row → List Row
    → Option Kind
fault_between rules before [] = rules.of_end before
fault_between rules before (row ∷ others) = rules.of_row before row

-- the fault at a place of the rows, counted from 0
abbrev pub fault_at : {Row Kind : Type 0} → RowRules Row Kind → List Row → ℕ → Option Kind
fault_at rules rows place = fault_between rules (take place rows) (drop place rows)

-- no place before this one has a fault
abbrev pub NoFaultBefore : {Row Kind : Type 0} → RowRules Row Kind → List Row → ℕ → Type 0
NoFaultBefore rules rows place =
    (earlier : ℕ) → earlier < place → fault_at rules rows earlier ≡ None

-- a place has this fault, and none before it has one
pub record IsFirstFault {Row Kind : Type 0} (rules : RowRules Row Kind) (rows : List Row)
    (place : ℕ) (kind : Kind) : Type 0 where
  pub here : fault_at rules rows place ≡ Some kind
  pub before : NoFaultBefore rules rows place
