-- Where the range of a target stands among ranges, each of another target.
use Rattle.std.proofs.Common.{◌≡◌, ℕ, zero, suc, true, false, ◌||◌, List, [], ◌∷◌, ◌++◌}
use Rattle.std.proofs.Common.{refl, sym, ap, subst, ◌∙◌, inl, inr, arith, ◌+◌}
use Rattle.std.specs.Prelude.{slice_get, slice_set, Some, None, if◌then◌else◌, length}
use Rattle.std.specs.List.{position_or_len}
use Rattle.std.specs.Str.{bytes_eq}
use Rattle.std.proofs.lemmas.Bool.{cases_Bool, false≢true}
use Rattle.std.proofs.lemmas.List.{length-map}
use Rattle.std.proofs.lemmas.List.Recursion.{is_position_or_len}
use Rattle.std.proofs.lemmas.Slice.Eq.{bytes_eq-Decides}
use Rattle.station_book.proofs.lists.Elements.{same_bytes}
use Rattle.station_book.proofs.lists.NameMaps.{name_eq, names_by_bytes}
use Rattle.station_book.specs.Places.{is_among, with_new}
use Rattle.set_marks.specs.declared.sight.Sight.{Sight}
use Rattle.set_marks.specs.declared.zeniths.ZenithRange.{ZenithRange}
use Rattle.set_marks.specs.Divisions.{names_with, targets_of}
use Rattle.set_marks.specs.Ranging.{IsUnique, has_range, place_among, place_in, targets_in}
use Rattle.set_marks.specs.Zeniths.{range_of, with_angle, with_reading, zenith_in_one}
use Rattle.set_marks.specs.Zeniths.{ranges_of, ranges_with}

-- A range at a place is among them.
pub there : (zs : List ZenithRange) (place : ℕ) (z : ZenithRange) (name : List ℕ)
    → slice_get zs place ≡ Some z → bytes_eq z.target name ≡ true → has_range name zs ≡ true
there [] place z name is e = cc
there (y ∷ zs) zero z name is e =
    let same : y ≡ z = cc in rw (same, e) refl
there (y ∷ zs) (suc place) z name is e = elim (cases_Bool (bytes_eq y.target name)) [
  | inl h ↦ rw h refl
  | inr h ↦ rw h (there zs place z name is e)
]

-- Where each is of another target, a range stands at the place of its target.
pub stands_at : (name : List ℕ) (place : ℕ) (zs : List ZenithRange) (z : ZenithRange)
    → IsUnique zs → slice_get zs place ≡ Some z → bytes_eq z.target name ≡ true
    → place_in name zs ≡ place
stands_at name place [] z unique is e = cc
stands_at name zero (y ∷ zs) z unique is e =
    let same : y ≡ z = cc in rw (same, e) refl
stands_at name (suc place) (y ∷ zs) z unique is e = elim (cases_Bool (bytes_eq y.target name)) [
  | inl h ↦ absurd (false≢true (sym unique.0
      ∙ ap (λ (n : List ℕ). has_range n zs) ((bytes_eq-Decides y.target name).0 h)
      ∙ there zs place z name is e))
  | inr h ↦ rw h (ap suc (stands_at name place zs z unique.1 is e))
]

widens_there : (zs : List ZenithRange) (z : ZenithRange) (r : Sight)
    → slice_get zs (place_in r.target zs) ≡ Some z
    → slice_set zs (place_in r.target zs) (with_angle z (zenith_in_one r)) ≡ with_reading zs r
widens_there [] z r is = cc
widens_there (y ∷ zs) z r is = elim (cases_Bool (bytes_eq y.target r.target)) [
  | inl h ↦ let first : slice_get (y ∷ zs) 0 ≡ Some z = rw h at is in
      let same : y ≡ z = cc in rw (h, same) refl
  | inr h ↦ let later : slice_get zs (place_in r.target zs) ≡ Some z = rw h at is in
      rw h (ap (λ (l : List ZenithRange). y ∷ l) (widens_there zs z r later))
]

-- A reading widens the range at the place of its target.
pub widens : (zs : List ZenithRange) (z wider : ZenithRange) (r : Sight) (place : ℕ)
    → place ≡ place_in r.target zs → slice_get zs place ≡ Some z
    → wider ≡ with_angle z (zenith_in_one r) → slice_set zs place wider ≡ with_reading zs r
widens zs z wider r place at is wide =
    (λ i. slice_set zs (at i) (wide i))
    ∙ widens_there zs z r (sym (ap (λ (k : ℕ). slice_get zs k) at) ∙ is)

begins_last : (zs : List ZenithRange) (r : Sight)
    → slice_get zs (place_in r.target zs) ≡ None
    → zs ++ range_of r ∷ [] ≡ with_reading zs r
begins_last [] r is = refl
begins_last (y ∷ zs) r is = elim (cases_Bool (bytes_eq y.target r.target)) [
  | inl h ↦ let first : slice_get (y ∷ zs) 0 ≡ None = rw h at is in cc
  | inr h ↦ let later : slice_get zs (place_in r.target zs) ≡ None = rw h at is in
      rw h (ap (λ (l : List ZenithRange). y ∷ l) (begins_last zs r later))
]

-- A reading begins a range where its target has none.
pub begins : (zs : List ZenithRange) (r : Sight) (place : ℕ) → place ≡ place_in r.target zs
    → slice_get zs place ≡ None → zs ++ range_of r ∷ [] ≡ with_reading zs r
begins zs r place at is =
    begins_last zs r (sym (ap (λ (k : ℕ). slice_get zs k) at) ∙ is)

-- With a reading of another target, a target has a range where it had one.
has_as_before : (zs : List ZenithRange) (r : Sight) (name : List ℕ)
    → bytes_eq r.target name ≡ false → has_range name (with_reading zs r) ≡ has_range name zs
has_as_before [] r name other = rw other refl
has_as_before (z ∷ zs) r name other = elim (cases_Bool (bytes_eq z.target r.target)) [
  | inl h ↦ rw h refl
  | inr h ↦ rw h (ap (λ b. bytes_eq z.target name || b) (has_as_before zs r name other))
]

-- With a reading more, each range is of another target.
pub stay_unique : (zs : List ZenithRange) (r : Sight) → IsUnique zs → IsUnique (with_reading zs r)
stay_unique [] r unique = (refl, tt)
stay_unique (z ∷ zs) r unique = elim (cases_Bool (bytes_eq z.target r.target)) [
  | inl h ↦ rw h unique
  | inr h ↦ rw h (
    has_as_before zs r z.target (same_bytes r.target z.target ∙ h) ∙ unique.0,
    stay_unique zs r unique.1,
  )
]

-- With the next reading.
pub with_next : (zs added whole : List ZenithRange) (r : Sight) (left rs : List Sight)
    → left ≡ r ∷ rs → added ≡ with_reading zs r → ranges_with zs left ≡ whole
    → ranges_with added rs ≡ whole
with_next zs added whole r left rs split is e =
    ap (λ (l : List ZenithRange). ranges_with l rs) is
    ∙ ap (λ (l : List Sight). ranges_with zs l) (sym split) ∙ e

pub next_unique : (zs added : List ZenithRange) (r : Sight) → added ≡ with_reading zs r
    → IsUnique zs → IsUnique added
next_unique zs added r is unique =
    subst (λ (l : List ZenithRange). IsUnique l) (sym is) (stay_unique zs r unique)

-- The place of a name among others is that of the first with its bytes.
by_bytes : (names : List (List ℕ)) (name : List ℕ)
    → place_among names name ≡ position_or_len (λ other. bytes_eq other name) names
by_bytes names name =
    is_position_or_len (λ (others : List (List ℕ)). place_among others name)
    (λ other. bytes_eq other name) refl
    (λ n others.
    let one : suc (place_among others name) ≡ 1 + place_among others name = omega arith in
    ap (λ (k : ℕ). if bytes_eq n name then 0 else k) one) names

-- A table of names finds a name at its place among them.
pub key_place : (names : List (List ℕ)) (name : List ℕ)
    → position_or_len (name_eq name) names ≡ place_among names name
key_place names name =
    (λ i. position_or_len (λ other. (names_by_bytes name other ∙ same_bytes name other) i) names)
    ∙ sym (by_bytes names name)

-- A name that is not the first goes last after the others, where it is new.
after_first : (first : List ℕ) (names : List (List ℕ)) (name : List ℕ)
    → first ∷ with_new names name
    ≡ (if is_among names name then first ∷ names else first ∷ (names ++ name ∷ []))
after_first first names name = elim (cases_Bool (is_among names name)) [
  | inl h ↦ rw h refl
  | inr h ↦ rw h refl
]

-- With a reading more, its target is one of those of the ranges.
pub targets_with : (zs : List ZenithRange) (r : Sight)
    → targets_in (with_reading zs r) ≡ with_new (targets_in zs) r.target
targets_with [] r = refl
targets_with (z ∷ zs) r = elim (cases_Bool (bytes_eq z.target r.target)) [
  | inl h ↦ rw h refl
  | inr h ↦ rw h (ap (λ (names : List (List ℕ)). z.target ∷ names) (targets_with zs r)
      ∙ after_first z.target (targets_in zs) r.target)
]

-- Each target of some readings has one range.
targets_of_all : (zs : List ZenithRange) (rs : List Sight)
    → targets_in (ranges_with zs rs) ≡ names_with (targets_in zs) rs
targets_of_all zs [] = refl
targets_of_all zs (r ∷ rs) =
    targets_of_all (with_reading zs r) rs
    ∙ ap (λ (names : List (List ℕ)). names_with names rs) (targets_with zs r)

-- So there are as many ranges as targets.
pub as_many : (rs : List Sight) → length (ranges_of rs) ≡ length (targets_of rs)
as_many rs =
    sym (length-map (ranges_of rs) (λ z. z.target))
    ∙ ap (λ (names : List (List ℕ)). length names) (targets_of_all [] rs)
