-- The records of a text that are left to be read.
use Rattle.std.specs.Prelude.{◌≡◌, ℕ, Bool, true, false, List, [], ◌∷◌}
use Rattle.csv.specs.Reading.{records}
use Rattle.direction_table.specs.declared.records.Records.{Records}
pub use Rattle.row_forms.specs.ByteSteps.{config_with}

-- The records of what is left of a text.
abbrev pub records_left : Records → List (List (List ℕ))
records_left left = records (config_with left.separator) left.unread.now

-- A record that was found is the first of those that were left, and the others are left now; where
-- none was found, none was left.
abbrev pub IsNextRecord : List (List (List ℕ)) → Bool → List (List ℕ) → List (List (List ℕ))
    → Type 0
IsNextRecord before true row after = before ≡ row ∷ after
IsNextRecord before false row after = before ≡ []
