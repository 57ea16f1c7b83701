-- The columns of a row, by their places.
use Rattle.std.proofs.Common.{◌≡◌, ℕ, Bool, true, false, List, [], ◌∷◌, length, drop}
use Rattle.std.proofs.Common.{IfNone, None, OnSome, Option, Some, refl, arith, inl, inr}
use Rattle.std.specs.Option.{is_some}
use Rattle.std.specs.Prelude.{◌&&◌, ◌==◌, not, nat_le, if◌then◌else◌}
use Rattle.std.specs.List.{list_all}
use Rattle.std.proofs.lemmas.Bool.{cases_Bool, le-leb, ne_eqb}
use Rattle.csv.specs.Records.{field_at}
use Rattle.direction_table.specs.Faults.{are_titles, says_nothing}
use Rattle.direction_table.specs.FieldForms.{has_name, is_blank, named, tidy, without_blanks}
use Rattle.direction_table.specs.Directions.{is_direction}
use Rattle.direction_table.specs.Rows.{TwoColumns, two_columns_of}
use Rattle.direction_table.specs.Separators.{begins_with_target}
use Rattle.direction_table.proofs.FieldsAt.{at}
use Rattle.direction_table.specs.declared.unit.AngleUnit.{AngleUnit}

-- A row has two columns where it has two fields and those after them are all blank.
pub columns_tidy : (targets fs : List (List ℕ)) → two_columns_of (tidy targets fs)
    ≡ (if nat_le 2 (length fs) && list_all is_blank (drop 2 fs)
    then Some (record { name = named targets (at fs 0); direction = without_blanks (at fs 1) })
    else None)
unfolding field_at
columns_tidy targets [] = refl
columns_tidy targets (a ∷ []) = refl
columns_tidy targets (a ∷ b ∷ []) = refl
columns_tidy targets (a ∷ b ∷ c ∷ rest) =
    elim (cases_Bool (list_all is_blank (c ∷ rest))) [
      | inl e ↦ rw (le-leb 2 (length (a ∷ b ∷ c ∷ rest)) (omega arith), e) refl
      | inr e ↦ rw (le-leb 2 (length (a ∷ b ∷ c ∷ rest)) (omega arith), e) refl
    ]

-- A row has titles where it has two fields, no name and then no direction.
pub titles_tidy : (unit : AngleUnit) (targets fs : List (List ℕ))
    → are_titles unit targets (tidy targets fs)
    ≡ (nat_le 2 (length fs) && (not (has_name targets (named targets (at fs 0)))
    && not (is_direction unit (without_blanks (at fs 1)))))
unfolding field_at
titles_tidy unit targets [] = refl
titles_tidy unit targets (a ∷ []) = refl
titles_tidy unit targets (a ∷ b ∷ rest) =
    rw (
      le-leb 2 (length (tidy targets (a ∷ b ∷ rest))) (omega arith),
      le-leb 2 (length (a ∷ b ∷ rest)) (omega arith),
    ) refl

-- A field without bytes writes no bytes as a name.
no-name : (targets : List (List ℕ)) → named targets [] ≡ []
no-name targets = elim (cases_Bool (has_name targets [])) [
  | inl e ↦ rw e refl
  | inr e ↦ rw e refl
]

-- A row says nothing where it has no name and then no direction.
pub silent_tidy : (unit : AngleUnit) (targets fs : List (List ℕ))
    → says_nothing unit targets (tidy targets fs)
    ≡ (not (has_name targets (named targets (at fs 0)))
    && not (is_direction unit (without_blanks (at fs 1))))
unfolding field_at
silent_tidy unit targets [] = rw (no-name targets) refl
silent_tidy unit targets (a ∷ []) = refl
silent_tidy unit targets (a ∷ b ∷ rest) = refl

-- A row begins with a target's name where it has a field and that names one.
pub begins_at : (targets fs : List (List ℕ)) → begins_with_target targets fs
    ≡ (not (length fs == 0) && has_name targets (named targets (at fs 0)))
unfolding field_at
begins_at targets [] = refl
begins_at targets (a ∷ rest) =
    rw (ne_eqb (length (a ∷ rest)) 0 (λ e. absurd (omega (arith, e)))) refl

-- A row with two columns is these.
pub row-is : (row : List (List ℕ)) (c : TwoColumns) → two_columns_of row ≡ Some c
    → row ≡ c.name ∷ c.direction ∷ []
row-is (a ∷ b ∷ []) c e = cc
row-is row c e = cc e

-- Nothing is there exactly where a field is no direction.
pub number_by : {A : Type 0} (o : Option A) (is none : Bool) → OnSome o (is ≡ true)
    → IfNone o (is ≡ false) → is_some o ≡ not none → none ≡ not is
number_by o is none there absent e = grind arith
