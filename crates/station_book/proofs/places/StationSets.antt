-- The stations that have sets, and a station's sets.
use Rattle.std.proofs.Common.{◌≡◌, Bool, true, false, ◌&&◌, ◌||◌, not, List, [], ◌∷◌, filter, refl}
use Rattle.std.proofs.Common.{sym, ap, ◌∙◌, inl, inr}
use Rattle.std.specs.List.{list_any}
use Rattle.std.proofs.lemmas.Bool.{and_parts, and_from, cases_Bool, false≢true}
use Rattle.gsi_word.specs.Blocks.{GsiBlock}
use Rattle.station_book.specs.Blocks.{opens_station, opens_set}
use Rattle.station_book.specs.Places.{History, Place, places, last, before, belonging, is_same}
use Rattle.station_book.specs.Places.{is_set, station, first_sets, is_empty}
use Rattle.station_book.specs.Faults.{open_sets, had_sets, same_name, name_at}
use Rattle.station_book.proofs.places.Owners.{belonging-fresh, belonging-same}
use Rattle.station_book.proofs.lists.Elements.{In, any_from, any_to, same_test, of_filter}

-- Where the first of two tests passes and both together fail, the second fails.
pub right_false : (a b : Bool) → a ≡ true → (a && b) ≡ false → b ≡ false
right_false true b e f = f
right_false false b e f = cc

-- where some place belongs to the last owner, what holds of the owner is found at a place
some_owner : (p : GsiBlock → Bool) (kind : Place → Bool) (f : Place → Bool) (past : History)
    → is_empty (belonging p kind (last p past) past) ≡ false → f (last p past) ≡ true
    → list_any (λ s. kind s && f (last p (before s))) (places past) ≡ true
some_owner p kind f [] full e = absurd (false≢true (sym full))
some_owner p kind f (b ∷ past) full e = elim (cases_Bool (p b)) [
  | inl h ↦ absurd (false≢true (sym full ∙ ap is_empty (belonging-fresh p kind b past h)))
  | inr h ↦
      let own : f (last p past) ≡ true = rw h at e in elim (cases_Bool (kind (b ∷ past))) [
        | inl k ↦ rw (k, own)
        | inr k ↦ rw k (some_owner p kind f past
            (sym (ap is_empty (belonging-same p kind b past h k)) ∙ full) own)
      ]
]

-- the sets have the stations of the first sets
pub any_station : (f : Place → Bool) (past : History)
    → list_any (λ s. is_set s && f (station (before s))) (places past) ≡ list_any
    (λ s. f (station (before s))) (first_sets past)
any_station f [] = refl
any_station f (b ∷ past) =
    let ih = any_station f past in elim (cases_Bool (opens_set b)) [
      | inr s ↦ rw s ih
      | inl s ↦ elim (cases_Bool (is_empty (open_sets past))) [
        | inl e ↦ rw (s, e) (ap (λ v. f (station past) || v) ih)
        | inr e ↦ elim (cases_Bool (f (station past))) [
          | inl g ↦ rw (s, e, g) (sym (some_owner opens_station is_set f past e g) ∙ ih)
          | inr g ↦ rw (s, e, g) ih
        ]
      ]
    ]

-- what a filter leaves out
left_out : {X : Type 0} (p : X → Bool) (x : X) (xs : List X) → filter p xs ≡ [] → In x xs
    → p x ≡ false
left_out p x [] e h = absurd h
left_out p x (y ∷ ys) e h = elim (cases_Bool (p y)) [
  | inl t ↦ let f : y ∷ filter p ys ≡ [] = rw t at e in cc
  | inr t ↦ elim h as (λ _. p x ≡ false) [
    | inl k ↦ ap p k ∙ t
    | inr k ↦ left_out p x ys (rw t at e) k
  ]
]

-- Before its first set, a station's name had sets exactly where a station with sets has it.
pub had_sets_by_names : (past : History) → open_sets past ≡ [] → had_sets past ≡ list_any
    (λ s. same_name (name_at (station (before s))) (name_at (station past))) (first_sets past)
had_sets_by_names past none = any_station
    (λ st. not (is_same st (station past)) && same_name (name_at st) (name_at (station past))) past
    ∙ same_test _ _ there back where
      named : Place → Bool
      named s = same_name (name_at (station (before s))) (name_at (station past))

      other : Place → Bool
      other s = not (is_same (station (before s)) (station past)) && named s

      there : list_any other (first_sets past) ≡ true → list_any named (first_sets past) ≡ true
      there e = let (s, inside, test) = any_to other (first_sets past) e in
          any_from named s (first_sets past) inside
          (and_parts (not (is_same (station (before s)) (station past))) (named s) test).1

      back : list_any named (first_sets past) ≡ true → list_any other (first_sets past) ≡ true
      back e =
          let (s, inside, test) = any_to named (first_sets past) e in
          let (placed, kind) = of_filter
          (λ place. is_set place && is_empty (open_sets (before place))) s (places past) inside in
          let out : (is_set s && is_same (station (before s)) (station past)) ≡ false = left_out
          (λ place. is_set place && is_same (station (before place)) (station past)) s
          (places past) none placed in
          any_from other s (first_sets past) inside (and_from _ _ (ap not
          (right_false (is_set s) (is_same (station (before s)) (station past))
          (and_parts (is_set s) (is_empty (open_sets (before s))) kind).0 out)) test)
