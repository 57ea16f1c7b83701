-- Equal sets have the same least direction.
use Rattle.std.proofs.Common.{◌≡◌, ℕ, ◌≤◌, Bool, true, false, ◌&&◌, List, [], ◌∷◌, ◌++◌}
use Rattle.std.proofs.Common.{refl, sym, ap, ◌∙◌, inl, inr, arith}
use Rattle.std.specs.Prelude.{min, ◌≢◌, ◌==◌}
use Rattle.std.specs.List.{list_any}
use Rattle.std.proofs.lemmas.Bool.{cases_Bool, eqb-true}
use Rattle.set_marks.specs.declared.equal_sets.Section.{Section}
use Rattle.set_marks.specs.declared.sight.Sight.{Sight}
use Rattle.set_marks.specs.Divisions.{is_again}
use Rattle.set_marks.specs.EqualSets.{is_equal, have_equals, are_equal}
use Rattle.set_marks.specs.Sections.{AreLeast, least_direction, least_with, section, sections}

-- What is the least is at most what it is taken with.
least_below : (n : ℕ) (rs : List Sight) → least_with n rs ≤ n
least_below n [] = omega arith
least_below n (r ∷ rs) = let e = least_below (min n r.angles.hz) rs in omega (arith, e)

-- Equal readings have one direction.
same_direction : (r s : Sight) → is_equal r s ≡ true → r.angles.hz ≡ s.angles.hz
same_direction r s e = by (is_again r s) (r.angles.hz == s.angles.hz)
    (r.angles.zenith == s.angles.zenith) e (λ t. eqb-true r.angles.hz s.angles.hz t) where
      by : (a b c : Bool) → (a && (b && c)) ≡ true → (b ≡ true → r.angles.hz ≡ s.angles.hz)
          → r.angles.hz ≡ s.angles.hz
      by true true c f is = is refl
      by true false c f is = cc
      by false b c f is = cc

-- It is at most the direction of a reading that has its equal among them.
least_of_equal : (n : ℕ) (r : Sight) (rs : List Sight) → list_any (is_equal r) rs ≡ true
    → least_with n rs ≤ r.angles.hz
least_of_equal n r [] e = cc
least_of_equal n r (s ∷ rs) e = elim (cases_Bool (is_equal r s)) [
  | inl h ↦ let below = least_below (min n s.angles.hz) rs in
      let same = same_direction r s h in omega (arith, below, same)
  | inr h ↦ least_of_equal (min n s.angles.hz) r rs (rw h at e)
]

-- Where each reading has its equal among others, the least of the others is at most that of these.
least_of_equals : (n m : ℕ) (others rs : List Sight) → have_equals others rs ≡ true
    → least_with n others ≤ m → least_with n others ≤ least_with m rs
least_of_equals n m others [] e le = le
least_of_equals n m others (r ∷ rs) e le = elim (cases_Bool (list_any (is_equal r) others)) [
  | inl h ↦ let more = least_of_equal n r others h in
      least_of_equals n (min m r.angles.hz) others rs (rw h at e) (omega (arith, le, more))
  | inr h ↦ let f : false ≡ true = rw h at e in cc
]

-- Equal sets have the same least direction.
same_least : (a b : List Sight) → are_equal a b ≡ true → least_direction a ≡ least_direction b
same_least a b e = elim (cases_Bool (have_equals b a)) [
  | inl h ↦
      let other : have_equals a b ≡ true = rw h at e in
      let down = least_of_equals 4294967295 4294967295 b a h (least_below 4294967295 b) in
      let up = least_of_equals 4294967295 4294967295 a b other (least_below 4294967295 a) in
      omega (arith, down, up)
  | inr h ↦ let f : false ≡ true = rw h at e in cc
]

-- Where their least directions differ, sets are not equal.
pub unequal : (a b : List Sight) (m n : ℕ) → m ≡ least_direction a → n ≡ least_direction b
    → m ≢ n → false ≡ are_equal a b
unequal a b m n of_a of_b other = elim (cases_Bool (are_equal a b)) [
  | inl h ↦ absurd (other (of_a ∙ same_least a b h ∙ sym of_b))
  | inr h ↦ sym h
]

-- With a set more, each has its least direction with it.
pub least_kept : (rs : List Sight) (ss : List Section) (s : Section) → AreLeast rs ss
    → s.least ≡ least_direction (section rs s) → AreLeast rs (ss ++ s ∷ [])
least_kept rs [] s all e = (e, tt)
least_kept rs (t ∷ ss) s all e = (all.0, least_kept rs ss s all.1 e)

-- With a set more, the readings of each.
pub sections_more : (rs : List Sight) (ss : List Section) (s : Section)
    → sections rs (ss ++ s ∷ []) ≡ sections rs ss ++ section rs s ∷ []
sections_more rs [] s = refl
sections_more rs (t ∷ ss) s = ap (λ (l : List (List Sight)). section rs t ∷ l)
    (sections_more rs ss s)
