-- The readings after the leading ones are sets and an ending.
use Rattle.std.proofs.Common.{◌≡◌, ◌-◌, ◌≤◌, Bool, true, false, ◌&&◌, ◌||◌, not, List, [], ◌∷◌}
use Rattle.std.proofs.Common.{◌++◌, length, refl, sym, ap, ◌∙◌, arith, inl, inr, ◌+◌}
use Rattle.std.specs.Prelude.{nat_lt, ◌==◌}
use Rattle.std.specs.Str.{bytes_eq}
use Rattle.std.proofs.lemmas.Bool.{cases_Bool, ltb-true, eq-eqb, or_left, or_right, and_parts}
use Rattle.std.proofs.lemmas.List.{append-nil, take-append-drop, length-take, length-drop}
use Rattle.std.proofs.lemmas.List.{length-append}
use Rattle.std.proofs.lemmas.List.Elements.{filter-append}
use Rattle.set_marks.specs.declared.outside.Ending.{Ending}
use Rattle.set_marks.specs.declared.outside.Ending.TheVariants.{Nothing, CheckSights, CheckPair}
use Rattle.set_marks.specs.declared.sight.Sight.{Sight}
use Rattle.set_marks.specs.Divisions.{is_of, is_same_face, seconds_of, are_in_face}
use Rattle.set_marks.specs.Divisions.{begins_with_pair, are_by_targets, first_target}
use Rattle.set_marks.specs.Outside.{before_ending, in_ending, is_ended, may_end, surplus, last_of}
use Rattle.set_marks.specs.Outside.{firsts_of}
use Rattle.set_marks.specs.BeginsAndEnds.{are_checks, AreEven}
use Rattle.set_marks.proofs.Endings.{in_two_faces}

-- Readings that end so: those before the ending are some, and the ending follows them.
pub record Parted (ending : Ending) (rs : List Sight) : Type 0 where
  pub some : 1 ≤ length (before_ending ending rs)
  pub split : rs ≡ before_ending ending rs ++ in_ending ending rs

pub parted : (ending : Ending) (rs : List Sight) → 1 ≤ length rs → is_ended ending rs ≡ true
    → Parted ending rs
parted Nothing rs some e = record {
  some = some;
  split = sym (append-nil rs);
}
parted CheckSights rs some e = elim (cases_Bool (nat_lt 0 (surplus rs))) [
  | inr h ↦ let f : false ≡ true = rw h at e in cc
  | inl h ↦ elim (cases_Bool (nat_lt (surplus rs) (length rs))) [
    | inr k ↦ let f : false ≡ true = rw (h, k) at e in cc
    | inl k ↦
        let few = ltb-true (surplus rs) (length rs) k in
        let long = length-take (length rs - surplus rs) rs in
        record {
          some = omega (arith, few, long);
          split = sym (take-append-drop (length rs - surplus rs) rs);
        }
  ]
]
parted CheckPair rs some e = elim (cases_Bool (nat_lt 2 (length rs))) [
  | inr h ↦ let f : false ≡ true = rw h at e in cc
  | inl h ↦
      let few = ltb-true 2 (length rs) h in
      let long = length-take (length rs - 2) rs in
      record {
        some = omega (arith, few, long);
        split = sym (take-append-drop (length rs - 2) rs);
      }
]

both : (a b : Bool) → (a && b) ≡ true → (a ≡ true) × (b ≡ true)
both true true e = (refl, refl)
both true false e = cc
both false b e = cc

-- What such readings end with checks the instrument.
pub checks : (ending : Ending) (sets rs : List Sight) → is_ended ending rs ≡ true
    → may_end ending sets (in_ending ending rs) ≡ true
    → are_checks sets (in_ending ending rs) ≡ true
checks Nothing sets rs e may = refl
checks CheckSights sets rs e may = elim (cases_Bool (nat_lt 0 (surplus rs))) [
  | inr h ↦ let f : false ≡ true = rw h at e in cc
  | inl h ↦ elim (cases_Bool (nat_lt (surplus rs) (length rs))) [
    | inr k ↦ let f : false ≡ true = rw (h, k) at e in cc
    | inl k ↦ or_left (are_in_face false (last_of (surplus rs) rs))
        ((length (last_of (surplus rs) rs) == 2) && begins_with_pair (last_of (surplus rs) rs)
        && bytes_eq (first_target (last_of (surplus rs) rs)) (first_target sets)
        && not (are_by_targets sets)) (rw (h, k) at e)
  ]
]
checks CheckPair sets rs e may =
    let ended = both (nat_lt 2 (length rs)) (begins_with_pair (last_of 2 rs)) e in
    let few = ltb-true 2 (length rs) ended.0 in
    let long = length-drop (length rs - 2) rs in
    let two : (length (last_of 2 rs) == 2) ≡ true =
    eq-eqb (length (last_of 2 rs)) 2 (omega (arith, few, long)) in
    let right = both (not (are_by_targets sets))
    (bytes_eq (first_target (last_of 2 rs)) (first_target sets)) may in
    or_right (are_in_face false (last_of 2 rs))
    ((length (last_of 2 rs) == 2) && begins_with_pair (last_of 2 rs)
    && bytes_eq (first_target (last_of 2 rs)) (first_target sets) && not (are_by_targets sets))
    (rw (two, ended.1, right.0, right.1) refl)

-- So it does after the first of these sets.
pub checks_first : (sets inner rs : List Sight) → first_target inner ≡ first_target sets
    → are_by_targets inner ≡ are_by_targets sets → are_checks sets rs ≡ true
    → are_checks inner rs ≡ true
checks_first sets inner rs first by e =
    (λ i. are_in_face false rs || ((length rs == 2) && begins_with_pair rs
    && bytes_eq (first_target rs) (first i) && not (by i))) ∙ e

-- None of readings that are all in face I is in face II.
none_second : (rs : List Sight) → are_in_face false rs ≡ true → length (seconds_of rs) ≡ 0
none_second [] e = refl
none_second (r ∷ rs) e = elim (cases_Bool r.second) [
  | inl h ↦ let f : false ≡ true = rw h at e in cc
  | inr h ↦ rw h (none_second rs (rw h at e))
]

no_pair : (rs : List Sight) → begins_with_pair rs ≡ true → are_in_face false rs ≡ true → ⊥
no_pair [] e f = cc
no_pair (a ∷ []) e f = cc
no_pair (a ∷ b ∷ rs) e f = elim (cases_Bool a.second) [
  | inl h ↦ let g : false ≡ true = rw h at f in cc
  | inr h ↦ elim (cases_Bool b.second) [
    | inl k ↦ let g : false ≡ true = rw (h, k) at f in cc
    | inr k ↦
        let same : not (is_same_face a.second b.second) ≡ false = rw (h, k) refl in
        let g = (and_parts (is_of a.target b) (not (is_same_face a.second b.second)) e).1 in cc
  ]
]

-- Before check sights as many readings are in face I as in face II.
pub even_before : (ending : Ending) (rs : List Sight) → is_ended ending rs ≡ true
    → 1 ≤ length (in_ending ending rs) → are_in_face false (in_ending ending rs) ≡ true
    → AreEven (before_ending ending rs)
even_before Nothing rs e some one = absurd (omega (arith, some))
even_before CheckPair rs e some one =
    absurd (no_pair (last_of 2 rs)
    (both (nat_lt 2 (length rs)) (begins_with_pair (last_of 2 rs)) e).1 one)
even_before CheckSights rs e some one =
    let checks = last_of (surplus rs) rs in
    let before = before_ending CheckSights rs in
    let two = both (nat_lt 0 (surplus rs) && nat_lt (surplus rs) (length rs))
    (are_in_face false checks) e in
    let three = both (nat_lt 0 (surplus rs)) (nat_lt (surplus rs) (length rs)) two.0 in
    let more = ltb-true 0 (surplus rs) three.0 in
    let fewer = ltb-true (surplus rs) (length rs) three.1 in
    let split : before ++ checks ≡ rs = take-append-drop (length rs - surplus rs) rs in
    let long : length checks ≡ length rs - (length rs - surplus rs) =
    length-drop (length rs - surplus rs) rs in
    let firsts : length (firsts_of rs) ≡ length (firsts_of before) + length (firsts_of checks) =
    ap (λ (l : List Sight). length (firsts_of l)) (sym split)
    ∙ ap length (filter-append (λ r. not r.second) before checks)
    ∙ length-append (firsts_of before) (firsts_of checks) in
    let seconds : length (seconds_of rs) ≡ length (seconds_of before) + length (seconds_of checks) =
    ap (λ (l : List Sight). length (seconds_of l)) (sym split)
    ∙ ap length (filter-append (λ r. r.second) before checks)
    ∙ length-append (seconds_of before) (seconds_of checks) in
    let none = none_second checks one in
    let all = in_two_faces checks in
    let is : surplus rs ≡ length (firsts_of rs) - length (seconds_of rs) = refl in
    omega (arith, more, fewer, long, firsts, seconds, none, all, is)
