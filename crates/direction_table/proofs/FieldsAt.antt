-- The fields of a row, by their places.
use Rattle.std.proofs.Common.{◌≡◌, ◌∙◌, ℕ, zero, suc, ◌+◌, ◌<◌, List, [], ◌∷◌, ◌++◌, length, get_or}
use Rattle.std.proofs.Common.{take, drop, refl, arith, inl, inr}
use Rattle.std.specs.Prelude.{◌&&◌, ◌||◌, filter, if◌then◌else◌, unwrap_or}
use Rattle.std.specs.List.{list_all, list_any}
use Rattle.std.proofs.lemmas.Bool.{cases_Bool}
use Rattle.std.proofs.lemmas.List.{append-nil, drop_more}
use Rattle.std.proofs.lemmas.List.Elements.{filter_more}
use Rattle.csv.specs.Records.{field_at}
use Rattle.direction_table.specs.Cells.{cell}
use Rattle.direction_table.specs.FieldForms.{has_name, is_blank, named, without_blanks}
use Rattle.direction_table.specs.Separators.{has_byte}
use Rattle.direction_table.specs.TakenCells.{may_go_on}
use Rattle.direction_table.specs.declared.unit.AngleUnit.{AngleUnit}

-- The field at a place, or none of its bytes.
abbrev pub at : List (List ℕ) → ℕ → List ℕ
at fields place = unwrap_or (field_at fields place) []

-- A row without fields has none in any column.
pub no-cell : (column : ℕ) → cell column [] ≡ []
unfolding field_at
no-cell column = refl

-- It is the place's element.
pub at-is : (fields : List (List ℕ)) (place : ℕ) → place < length fields
    → at fields place ≡ get_or fields place []
unfolding field_at
at-is [] place inside = absurd (omega (arith, inside))
at-is (field ∷ fields) zero inside = refl
at-is (field ∷ fields) (suc place) inside = at-is fields place (omega (arith, inside))

-- Fields are blank from a place on where the one there is, and those from the next on.
pub blank_more : (fields : List (List ℕ)) (place : ℕ) → place < length fields
    → list_all is_blank (drop place fields)
    ≡ (is_blank (at fields place) && list_all is_blank (drop (place + 1) fields))
blank_more fields place inside =
    rw (at-is fields place inside, drop_more fields place [] inside) refl

-- Some field from a place on names a target where the one there does, or one from the next on.
pub any_more : (targets fields : List (List ℕ)) (place : ℕ) → place < length fields
    → list_any (λ field. has_name targets (named targets field)) (drop place fields)
    ≡ (has_name targets (named targets (at fields place))
    || list_any (λ field. has_name targets (named targets field)) (drop (place + 1) fields))
any_more targets fields place inside =
    rw (at-is fields place inside, drop_more fields place [] inside) refl

-- Some cell from a place on may be the rest of a direction where the one there may, or one from the
-- next on.
pub rest_more : (unit : AngleUnit) (fields : List (List ℕ)) (place : ℕ) → place < length fields
    → list_any (λ field. may_go_on unit (without_blanks field)) (drop place fields)
    ≡ (may_go_on unit (without_blanks (at fields place))
    || list_any (λ field. may_go_on unit (without_blanks field)) (drop (place + 1) fields))
rest_more unit fields place inside =
    rw (at-is fields place inside, drop_more fields place [] inside) refl

-- The fields that have a byte, with one more.
pub kept_more : (fields : List (List ℕ)) (place : ℕ) → place < length fields
    → filter has_byte (take (place + 1) fields)
    ≡ (if has_byte (at fields place) then filter has_byte (take place fields)
    ++ (at fields place ∷ []) else filter has_byte (take place fields))
kept_more fields place inside =
    let more = filter_more has_byte fields place [] inside in
    rw (at-is fields place inside) (elim (cases_Bool (has_byte (get_or fields place []))) [
      | inl e ↦ more ∙ rw e refl
      | inr e ↦ more ∙ rw e (append-nil (filter has_byte (take place fields)))
    ])
