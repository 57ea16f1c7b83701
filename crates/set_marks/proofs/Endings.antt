-- What is seen of the readings that end a station.
use Rattle.std.proofs.Common.{◌≡◌, ℕ, zero, suc, ◌+◌, ◌-◌, ◌<◌, ◌≤◌, Bool, true, false}
use Rattle.std.proofs.Common.{not, List, [], ◌∷◌, ◌++◌, length, drop, refl, sym, ap, ◌∙◌, arith}
use Rattle.std.proofs.Common.{inl, inr}
use Rattle.std.specs.Prelude.{nat_lt}
use Rattle.std.proofs.lemmas.Bool.{cases_Bool, ltb-true}
use Rattle.set_marks.specs.declared.outside.Ending.TheVariants.{CheckSights}
use Rattle.set_marks.specs.declared.sight.Sight.{Sight}
use Rattle.set_marks.specs.Divisions.{seconds_of, are_in_face}
use Rattle.set_marks.specs.Outside.{firsts_of, surplus, last_of, is_ended}
use Rattle.set_marks.specs.Searching.{ends_in_one}

-- Each reading is in one face.
pub in_two_faces : (rs : List Sight) → length (firsts_of rs) + length (seconds_of rs) ≡ length rs
in_two_faces [] = refl
in_two_faces (r ∷ rs) = let more = in_two_faces rs in elim (cases_Bool r.second) [
  | inl h ↦ rw h (omega (arith, more))
  | inr h ↦ rw h (omega (arith, more))
]

-- So many more are in face I.
pub counted_surplus : (rs : List Sight) (seconds more : ℕ) → seconds ≡ length (seconds_of rs)
    → more ≡ (length rs - seconds) - seconds → more ≡ surplus rs
counted_surplus rs seconds more is e =
    let all = in_two_faces rs in omega (arith, is, e, all)

-- The last of some readings that aren't none is the last of all.
pub last_stays : (k : ℕ) (rs : List Sight) → k < length rs → ends_in_one (drop k rs) ≡ ends_in_one rs
last_stays zero rs lt = refl
last_stays (suc k) [] lt = absurd (omega (arith, lt))
last_stays (suc k) (r ∷ []) lt = absurd (omega (arith, lt))
last_stays (suc k) (r ∷ s ∷ rs) lt = last_stays k (s ∷ rs) (omega (arith, lt))

-- Where all are in face I, the last is.
all_in_one : (rs : List Sight) → 1 ≤ length rs → are_in_face false rs ≡ true
    → ends_in_one rs ≡ true
all_in_one [] some e = absurd (omega (arith, some))
all_in_one (r ∷ []) some e = elim (cases_Bool r.second) [
  | inl h ↦ let f : false ≡ true = rw h at e in cc
  | inr h ↦ rw h refl
]
all_in_one (r ∷ s ∷ rs) some e = elim (cases_Bool r.second) [
  | inl h ↦ let f : false ≡ true = rw h at e in cc
  | inr h ↦ all_in_one (s ∷ rs) (omega arith) (rw h at e)
]

few_left : (k : ℕ) (rs : List Sight) → k < length rs → 1 ≤ length (drop k rs)
few_left zero rs lt = lt
few_left (suc k) [] lt = absurd (omega (arith, lt))
few_left (suc k) (r ∷ rs) lt = few_left k rs (omega (arith, lt))

by_last : (rs : List Sight) (b : Bool) → 0 < surplus rs → surplus rs < length rs
    → ends_in_one rs ≡ false → are_in_face false (last_of (surplus rs) rs) ≡ b → b ≡ false
by_last rs false more fewer none e = refl
by_last rs true more fewer none e =
    let k = length rs - surplus rs in
    let lt : k < length rs = omega (arith, more, fewer) in
    let one = all_in_one (last_of (surplus rs) rs) (few_left k rs lt) e in
    let f : false ≡ true = sym none ∙ sym (last_stays k rs lt) ∙ one in cc

-- Where the last reading is in face II, no check sights end them.
pub no_checks : (rs : List Sight) → ends_in_one rs ≡ false → false ≡ is_ended CheckSights rs
no_checks rs none = elim (cases_Bool (nat_lt 0 (surplus rs))) [
  | inr h ↦ rw h refl
  | inl h ↦ elim (cases_Bool (nat_lt (surplus rs) (length rs))) [
    | inr k ↦ rw (h, k) refl
    | inl k ↦ rw (h, k) (sym (by_last rs (are_in_face false (last_of (surplus rs) rs))
        (ltb-true 0 (surplus rs) h) (ltb-true (surplus rs) (length rs) k) none refl))
  ]
]

last_at : (front : List Sight) (r : Sight) → ends_in_one (front ++ r ∷ []) ≡ not r.second
last_at [] r = refl
last_at (a ∷ []) r = refl
last_at (a ∷ b ∷ front) r = last_at (b ∷ front) r

-- The last reading tells it.
pub last_in_one : (rs front : List Sight) (r : Sight) → rs ≡ front ++ r ∷ []
    → not r.second ≡ ends_in_one rs
last_in_one rs front r is = sym (ap ends_in_one is ∙ last_at front r)
