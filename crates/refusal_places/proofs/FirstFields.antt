-- The first field of a row, byte by byte.
use Rattle.std.proofs.Common.{◌≡◌, ℕ, ◌+◌, ◌-◌, ◌<◌, ◌≤◌, List, [], ◌∷◌, length, get_or, drop, take, refl}
use Rattle.std.proofs.Common.{arith, ap, sym, ◌∙◌, true}
use Rattle.std.specs.Prelude.{◌&&◌, ◌==◌}
use Rattle.std.specs.Str.{bytes_eq}
use Rattle.std.proofs.lemmas.List.{drop_all, drop_more, length-drop, take_all}
use Rattle.csv.specs.Machine.{step}
use Rattle.csv.specs.declared.parser.Action.TheVariants as act
use Rattle.csv.specs.declared.parser.State.{State}
use Rattle.refusal_places.specs.Kinds.{after_byte, first_field}
use Rattle.row_forms.specs.ByteSteps.{config_with}

module _ (d : ℕ) (from : State) (row : List ℕ) (at : ℕ) where
  -- The first field from a place on, by the byte there.
  pub field_more : at < length row
      → first_field (config_with d) from (drop at row)
      ≡ after_byte (step (config_with d) from (get_or row at 0)).1 (get_or row at 0)
      (first_field (config_with d) (step (config_with d) from (get_or row at 0)).0
      (drop (at + 1) row))
  unfolding first_field
  field_more inside = rw (drop_more row at 0 inside) refl

  -- Where the row ends, none of it is left.
  pub field_end : length row ≤ at → first_field (config_with d) from (drop at row) ≡ []
  unfolding first_field
  field_end past = rw (drop_all at row past) refl

-- A field of which a byte is read is this one exactly where this begins with the byte, and what
-- comes after it is the same.
pub same_byte : (b : ℕ) (field left : List ℕ) → 1 ≤ length left
    → bytes_eq (b ∷ field) left ≡ ((b == get_or left 0 0) && bytes_eq field (drop 1 left))
same_byte b field [] some = absurd (omega (arith, some))
same_byte b field (c ∷ left) some = refl

-- So it is where the machine keeps the byte.
pub kept : (d : ℕ) (from next : State) (row left : List ℕ) (at : ℕ) → at < length row
    → step (config_with d) from (get_or row at 0) ≡ (next, act.Copy) → 1 ≤ length left
    → (get_or row at 0 == get_or left 0 0) ≡ true
    → bytes_eq (first_field (config_with d) from (drop at row)) left
    ≡ bytes_eq (first_field (config_with d) next (drop (at + 1) row))
    (take (length left - 1) (drop 1 left))
kept d from next row left at inside said some same =
    let rest = first_field (config_with d) next (drop (at + 1) row) in
    let first : first_field (config_with d) from (drop at row) ≡ get_or row at 0 ∷ rest =
    field_more d from row at inside ∙ rw said refl in
    ap (λ (field : List ℕ). bytes_eq field left) first
    ∙ same_byte (get_or row at 0) rest left some ∙ rw same refl
    ∙ ap (bytes_eq rest) (sym (take_all (length left - 1) (drop 1 left)
    (omega (arith, length-drop 1 left))))

-- By these a field is compared.
pub ruleset byte_by_byte = (field_more, field_end, same_byte)
