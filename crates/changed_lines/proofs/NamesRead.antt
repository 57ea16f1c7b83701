-- What is read of a name and of a renamed line.
use Rattle.std.proofs.Common.{◌≡◌, ℕ, ◌≤◌, ◌<◌, true, false, List, [], ◌∷◌, length, refl, sym, ap}
use Rattle.std.proofs.Common.{◌∙◌}
use Rattle.std.proofs.Common.{inl, inr, arith}
use Rattle.std.specs.Prelude.{◌==◌, slice_index}
use Rattle.std.proofs.lemmas.Bool.{cases_Bool, false≢true}
use Rattle.gsi_word.specs.Blocks.{GsiBlock, IsBlock}
use Rattle.gsi_word.specs.Names.{name_of}
use Rattle.gsi_word.proofs.LawLemmas.{one_block}
use Rattle.station_book.specs.Blocks.{is_measurement, role_of}
use Rattle.station_book.specs.declared.role.Role.{Role}
use Rattle.station_book.specs.declared.role.Role.TheVariants.{Station, Set, Close, Measurement}
use Rattle.station_book.specs.declared.role.Role.TheVariants.{Other}
use Rattle.changed_lines.specs.Renaming.{IsBare, IsMeasurement}

-- A name of one byte or none has no zero before it.
pub short_is_bare : (name : List ℕ) → length name < 2 → IsBare name
short_is_bare [] short = refl
short_is_bare (b ∷ []) short = refl
short_is_bare (b ∷ c ∷ bs) short = absurd (omega arith)

-- Nor has one whose first byte is another.
pub other_is_bare : (name : List ℕ) → (slice_index name 0 == 48) ≡ false → IsBare name
other_is_bare [] other = refl
other_is_bare (b ∷ []) other = refl
other_is_bare (b ∷ c ∷ bs) other = rw other refl

name_is_short : (b : ℕ) (bs : List ℕ) → length (name_of (b ∷ bs)) ≤ length (b ∷ bs)
name_is_short b [] = omega arith
name_is_short b (c ∷ bs) = elim (cases_Bool (b == 48)) [
  | inl h ↦ let rest = name_is_short c bs in rw h (omega arith)
  | inr h ↦ rw h (omega arith)
]

-- A name of two bytes or more that begins with a zero has one before it.
pub zero_is_before : (name : List ℕ) → 2 ≤ length name → (slice_index name 0 == 48) ≡ true
    → IsBare name → ⊥
zero_is_before [] long is_zero bare = omega arith
zero_is_before (b ∷ []) long is_zero bare = omega arith
zero_is_before (b ∷ c ∷ bs) long is_zero bare =
    let short = name_is_short c bs in
    let e : name_of (c ∷ bs) ≡ b ∷ c ∷ bs = rw is_zero at bare in
    omega (arith, ap (λ (xs : List ℕ). length xs) e, short)

other_role : (r : Role) → (r ≡ Measurement → ⊥) → is_measurement r ≡ false
other_role Station other = refl
other_role Set other = refl
other_role Close other = refl
other_role Measurement other = absurd (other refl)
other_role Other other = refl

-- A line that is another block is no measurement.
pub no_measurement : (line : List ℕ) (block : GsiBlock) (r : Role) → IsBlock line block
    → r ≡ role_of block → (r ≡ Measurement → ⊥) → IsMeasurement line → ⊥
no_measurement line block r is_block role other m =
    let same : m.block ≡ block = one_block line m.block block m.is_block is_block in
    false≢true (sym (other_role r other) ∙ ap is_measurement (role ∙ ap role_of (sym same))
    ∙ m.measures)
