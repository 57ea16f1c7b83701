-- How often a target is read: in a set twice, and the opening target of several sets more often.
use Rattle.std.proofs.Common.{◌≡◌, ℕ, zero, suc, ◌+◌, ◌<◌, ◌≤◌, true, false, List}
use Rattle.std.proofs.Common.{[], ◌∷◌, length, take, drop, refl, sym, ap, subst, ◌∙◌}
use Rattle.std.proofs.Common.{inl, inr, arith, All}
use Rattle.std.specs.Prelude.{slice_get, Contains}
use Rattle.std.specs.List.{list_any}
use Rattle.std.proofs.lemmas.Bool.{cases_Bool, false≢true, and_parts}
use Rattle.std.proofs.lemmas.List.{append-nil, take-take}
use Rattle.std.proofs.lemmas.List.Elements.{All-head, All-tail, All-contains_itself}
use Rattle.std.proofs.lemmas.Slice.Eq.{bytes_eq-Decides}
use Rattle.set_marks.specs.declared.sight.Sight.{Sight}
use Rattle.set_marks.specs.Divisions.{is_of, first_target, starts_of, last_place}
use Rattle.set_marks.specs.SetsInWords.{readings_in, one_after_another, ReadsEachOnce}
use Rattle.set_marks.specs.Divisions.{count_of, is_even, is_some_of}
use Rattle.set_marks.proofs.BeginsAndEnds.{opening_read, several_above}
use Rattle.set_marks.proofs.SameSets.{all_so}
use Rattle.mark_editions.proofs.Rows.{end_in, Rows}
use Rattle.mark_editions.proofs.Carried.{last_begins}

-- Each reading of a target is in one face.
in_faces : (name : List ℕ) (rs : List Sight)
    → count_of name rs ≡ length (readings_in name false rs) + length (readings_in name true rs)
in_faces name [] = omega arith
in_faces name (r ∷ rs) = let more = in_faces name rs in elim (cases_Bool (is_of name r)) [
  | inl h ↦ elim (cases_Bool r.second) [
    | inl v ↦ rw (h, v) (omega (arith, more))
    | inr v ↦ rw (h, v) (omega (arith, more))
  ]
  | inr h ↦ rw h (omega (arith, more))
]

-- In a set each target is read twice.
pub read_twice : (set : List Sight) → ReadsEachOnce set
    → All (λ r. count_of r.target set ≡ 2) set
read_twice set once = all_so (λ r. Contains set r) (λ r. count_of r.target set ≡ 2)
    (λ r here. let one = once.once r false here in let two = once.once r true here in
    let all = in_faces r.target set in omega (arith, one, two, all))
    set (All-contains_itself set)

-- What holds of all targets that are read holds of one that is.
pub of_read : (P : List ℕ → Type 0) (name : List ℕ) (rs : List Sight)
    → All (λ r. P r.target) rs → 1 ≤ count_of name rs → P name
of_read P name [] all some = absurd (omega (arith, some))
of_read P name (r ∷ rs) all some = elim (cases_Bool (is_of name r)) [
  | inl h ↦ subst P ((bytes_eq-Decides r.target name).0 h)
      (All-head (λ (s : Sight). P s.target) r rs all)
  | inr h ↦ of_read P name rs (All-tail (λ (s : Sight). P s.target) r rs all) (rw h at some)
]

-- One more is counted where one stands.
count_at : (name : List ℕ) (k : ℕ) (rs : List Sight) → is_some_of name (slice_get rs k) ≡ true
    → count_of name (take (suc k) rs) ≡ suc (count_of name (take k rs))
count_at name zero [] here = absurd (false≢true here)
count_at name (suc k) [] here = absurd (false≢true here)
count_at name zero (r ∷ rs) here =
    let h : is_of name r ≡ true = here in rw h refl
count_at name (suc k) (r ∷ rs) here =
    let more = count_at name k rs here in elim (cases_Bool (is_of name r)) [
      | inl h ↦ rw h (omega (arith, more))
      | inr h ↦ rw h more
    ]

count_taken : (name : List ℕ) (n : ℕ) (rs : List Sight)
    → count_of name (take n rs) ≤ count_of name rs
count_taken name zero rs = omega arith
count_taken name (suc n) [] = omega arith
count_taken name (suc n) (r ∷ rs) =
    let more = count_taken name n rs in elim (cases_Bool (is_of name r)) [
      | inl h ↦ rw h (omega (arith, more))
      | inr h ↦ rw h more
    ]

count_dropped : (name : List ℕ) (n : ℕ) (rs : List Sight)
    → count_of name (drop n rs) ≤ count_of name rs
count_dropped name zero rs = omega arith
count_dropped name (suc n) [] = omega arith
count_dropped name (suc n) (r ∷ rs) =
    let more = count_dropped name n rs in elim (cases_Bool (is_of name r)) [
      | inl h ↦ rw h (omega (arith, more))
      | inr h ↦ rw h more
    ]

some_counted : (name : List ℕ) (rs : List Sight) → list_any (is_of name) rs ≡ true
    → 1 ≤ count_of name rs
some_counted name [] e = cc
some_counted name (r ∷ rs) e = elim (cases_Bool (is_of name r)) [
  | inl h ↦ rw h (omega arith)
  | inr h ↦ rw h (some_counted name rs (rw h at e))
]

even_two : (n : ℕ) → is_even n ≡ true → 1 ≤ n → 2 ≤ n
even_two zero e some = absurd (omega (arith, some))
even_two (suc zero) e some = absurd (false≢true e)
even_two (suc (suc n)) e some = omega arith

-- The opening target of several sets is read three times at least, up to any place after the last
-- beginning.
pub read_often : (rs : List Sight) (end : ℕ) → 2 ≤ length (starts_of rs)
    → last_place (starts_of rs) < end → 3 ≤ count_of (first_target rs) (take end rs)
read_often [] end many last = absurd (omega (arith, many))
read_often (r ∷ rs) end many last =
    let all = r ∷ rs in
    let name = r.target in
    let place = last_place (starts_of all) in
    let begins = last_begins all (omega (arith, many)) in
    let parts = and_parts (is_some_of name (slice_get all place))
    (is_even (count_of name (take place all))) begins in
    let some = some_counted name (take place all)
    (opening_read r rs place (several_above r rs many)) in
    let two = even_two (count_of name (take place all)) parts.1 some in
    let three = count_at name place all parts.0 in
    let taken = ap (λ (l : List Sight). count_of name l)
    (take-take (suc place) end all (omega (arith, last))) in
    let more = count_taken name (suc place) (take end all) in
    omega (arith, two, three, taken, more)

-- So readings that are one set hold no several sets.
pub one_set : (set rs : List Sight) (n : ℕ) → ReadsEachOnce set → drop n set ≡ rs
    → (end : ℕ) (name : List ℕ) → 3 ≤ count_of name (take end rs) → ⊥
one_set set rs n once is end name three =
    let some = count_taken name end rs in
    let all = count_dropped name n set in
    let same = ap (λ (l : List Sight). count_of name l) is in
    let two : count_of name set ≡ 2 =
    of_read (λ (target : List ℕ). count_of target set ≡ 2) name set (read_twice set once)
    (omega (arith, three, some, all, same)) in
    omega (arith, three, some, all, same, two)

-- Readings that are one set are read as one, up to where it ends.
pub only_set : (rs : List Sight) → Rows rs → length (starts_of rs) < 2
    → ReadsEachOnce (take (end_in rs) rs)
only_set rs are one = by are.sets are.each are.same are.many are.some where
  by : (sets : List (List Sight)) → All ReadsEachOnce sets
      → one_after_another sets ≡ take (end_in rs) rs → length sets ≡ length (starts_of rs)
      → 1 ≤ length sets → ReadsEachOnce (take (end_in rs) rs)
  by [] each same many some = absurd (omega (arith, some))
  by (set ∷ []) each same many some = subst ReadsEachOnce (sym (append-nil set) ∙ same)
      (All-head ReadsEachOnce set [] each)
  by (set ∷ next ∷ sets) each same many some = absurd (omega (arith, many, one))
