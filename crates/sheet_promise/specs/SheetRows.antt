-- The rows of a sheet as fields, and the sheet that they state (profile).
use Rattle.std.specs.Prelude.{◌≡◌, ℕ, suc, ◌≤◌, List, [], ◌∷◌, ◌++◌, ℤ, pos, negsuc, Some}
use Rattle.std.specs.Prelude.{codes}
use Rattle.std.specs.List.{AllZip}
use Rattle.gsi_word.specs.Angles.{decimal_number}
use Rattle.gsi_word.specs.Bytes.{minus}
use Rattle.adjust_kernel.specs.Sheets.{SheetValue}
use Rattle.adjust_kernel.specs.declared.row.Direction.{Direction}
use Rattle.adjust_kernel.specs.declared.row.Orientation.{Orientation}
use Rattle.adjust_kernel.specs.declared.row.Row.{Row}
use Rattle.sheet_format.specs.Rows.{records_of}

-- A field has this number: its digits, after a minus where it is below 0.
abbrev pub HasNumber : List ℕ → ℤ → Type 0
HasNumber field (pos n) = decimal_number field ≡ Some n
HasNumber field (negsuc n) =
    (digits : List ℕ) × (field ≡ minus ∷ digits) × (decimal_number digits ≡ Some (suc n))

-- The row of a target.
pub record IsTargetRow (fields : List (List ℕ)) (d : Direction) : Type 0 where
  pub value : List ℕ
  pub text : fields ≡ codes "target" ∷ [] ∷ d.name ∷ value ∷ [] ∷ []
  pub has_value : HasNumber value d.value

-- The row of a set.
pub record IsSetRow (fields : List (List ℕ)) (o : Orientation) : Type 0 where
  pub set : List ℕ
  pub value : List ℕ
  pub text : fields ≡ codes "set" ∷ set ∷ [] ∷ value ∷ [] ∷ []
  pub has_set : decimal_number set ≡ Some o.set
  pub has_value : HasNumber value o.value

-- The row of an observation.
pub record IsObsRow (fields : List (List ℕ)) (r : Row) : Type 0 where
  pub set : List ℕ
  pub value : List ℕ
  pub turn : List ℕ
  pub text : fields ≡ codes "obs" ∷ set ∷ r.target ∷ value ∷ turn ∷ []
  pub has_set : decimal_number set ≡ Some r.set
  pub has_value : decimal_number value ≡ Some r.value
  pub has_turn : HasNumber turn r.turn

-- The bytes are those of this sheet: its first row, in which a version stands too, then the rows of
-- its targets, of its sets and of its observations, and no others.
pub record AreOfSheet (bytes : List ℕ) (sheet : SheetValue) : Type 0 where
  pub version : List ℕ
  pub denominator : List ℕ
  pub targets : List (List (List ℕ))
  pub sets : List (List (List ℕ))
  pub observations : List (List (List ℕ))
  pub rows : records_of bytes
      ≡ (codes "sheet" ∷ version ∷ sheet.name ∷ denominator ∷ [] ∷ [])
      ∷ (targets ++ (sets ++ observations))
  pub has_denominator : decimal_number denominator ≡ Some sheet.denominator
  pub some_denominator : 1 ≤ sheet.denominator
  pub of_targets : AllZip IsTargetRow targets sheet.directions
  pub of_sets : AllZip IsSetRow sets sheet.orientations
  pub of_observations : AllZip IsObsRow observations sheet.rows
