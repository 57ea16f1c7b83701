-- What a caller states of a field file, by bytes and flags: of no bytes nothing is stated.
use Rattle.std.specs.Prelude.{◌≡◌, ◌≢◌, ◌⊎◌, ℕ, Bool, List, [], Option, Some, None}
use Rattle.std.specs.Str.{IsUtf8}
use Rattle.std.specs.Str.Lines.{lines}
use Rattle.adjust_kernel.specs.Names.{IsName}
use Rattle.job_statements.specs.StatedNumbers.{IsStatedBy, OfStation, StateAll}
use Rattle.job_statements.specs.StationCodes.{IsNoStationCode, IsStationCode}
use Rattle.job_statements.specs.declared.beginnings.Beginnings.{Beginnings}
use Rattle.job_statements.specs.declared.stated.Stated.{Stated}
use Rattle.job_statements.specs.declared.stated.StatedNumber.{StatedNumber}

-- Bytes state this name of the file's one station, or none.
abbrev pub StatesName : List ℕ → Option (List ℕ) → Type 0
StatesName bytes None = bytes ≡ []
StatesName bytes (Some name) = IsName bytes × (name ≡ bytes)

-- They state a name that no station can have.
abbrev pub StatesNoName : List ℕ → Type 0
StatesNoName bytes = (bytes ≢ []) × ¬ (IsName bytes)

-- Bytes state this code as one whose blocks begin a station each, or none.
abbrev pub StatesCode : List ℕ → Option (List ℕ) → Type 0
StatesCode bytes None = bytes ≡ []
StatesCode bytes (Some code) = IsStationCode bytes code

-- They state no such code.
abbrev pub StatesNoCode : List ℕ → Type 0
StatesNoCode bytes = (bytes ≢ []) × IsNoStationCode bytes

-- How stations begin is what a name, a code and a flag state: by the name of the file's one station
-- or by set-up lines, of which one of the station that is open may begin nothing, and by blocks of
-- the code.
pub record StatesBeginnings (name code : List ℕ) (same_set_up : Bool) (beginnings : Beginnings)
    : Type 0 where
  pub of_name : StatesName name beginnings.station
  pub of_same : beginnings.same_set_up ≡ same_set_up
  pub of_code : StatesCode code beginnings.code

-- A name or a code is stated that may not be.
abbrev pub StatesNoBeginnings : List ℕ → List ℕ → Type 0
StatesNoBeginnings name code = StatesNoName name ⊎ StatesNoCode code

-- Bytes state these numbers, from 1 up to a largest: they are a text in UTF-8, and each of its lines
-- states one, `N` that of each station and `NAME=N` that of one.
pub record StatesNumbers (largest : ℕ) (bytes : List ℕ) (stated : StatedNumber) : Type 0 where
  pub is_text : IsUtf8 bytes
  pub by_lines : IsStatedBy largest (lines bytes) stated

-- They are no text, or state none: a line states nothing, or two state a number of the same station,
-- or of each.
abbrev pub StatesNoNumbers : ℕ → List ℕ → Type 0
StatesNoNumbers largest bytes =
    IsUtf8 bytes → (numbers : List OfStation) → ¬ (StateAll largest (lines bytes) numbers)

-- This is what is stated of a file: numbers of sets up to 40, and of targets up to 100, whether a
-- name that comes again is another set-up, and whether stations with a fault stay outside.
pub record StatesFile (sets targets : List ℕ) (again others : Bool) (stated : Stated) : Type 0 where
  pub of_sets : StatesNumbers 40 sets stated.sets
  pub of_targets : StatesNumbers 100 targets stated.targets
  pub of_again : stated.again ≡ again
  pub of_others : stated.others ≡ others
