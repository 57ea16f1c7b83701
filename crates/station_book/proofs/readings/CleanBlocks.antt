-- What is true of a block that has no fault; and in a history without fault, each reading of the
-- open set is kept: it has a face, and its target is listed.
use Rattle.std.proofs.Common.{◌≡◌, ℕ, Bool, true, false, ◌||◌, not, List, [], ◌∷◌, ◌++◌, Option}
use Rattle.std.proofs.Common.{Some, None, refl, sym, ap, ◌∙◌, inl, inr}
use Rattle.std.specs.List.{AllByRecursion}
use Rattle.std.specs.Str.{bytes_eq}
use Rattle.std.proofs.lemmas.Bool.{cases_Bool, or_cases, false≢true, and_parts, true_from_ne_false}
use Rattle.std.proofs.lemmas.Slice.Eq.{bytes_eq-Decides}
use Rattle.station_book.specs.declared.face.Face.TheVariants.{One, Two}
use Rattle.station_book.specs.declared.fault.BookKind.{BookKind}
use Rattle.station_book.specs.declared.fault.BookKind.TheVariants as kinds
use Rattle.gsi_word.specs.Blocks.{GsiBlock}
use Rattle.station_book.specs.Blocks.{number, target, is_of_face, role_of, is_measurement, lacks}
use Rattle.station_book.specs.Blocks.{opens_set, is_opening, has_direction}
use Rattle.station_book.specs.Places.{History, Place, is_among, with_new, is_open, is_empty}
use Rattle.station_book.specs.Places.{is_reading, station}
use Rattle.station_book.specs.Faults.{face, reading_faults, fault_after, IsWithoutFault}
use Rattle.station_book.specs.Faults.{open_readings, when, first_of, end_faults, is_face_taken}
use Rattle.station_book.specs.Faults.{set_faults, is_beyond, had_sets, has_no_two_c, has_set_number}
use Rattle.station_book.specs.Faults.{has_no_two_i}
use Rattle.station_book.specs.Limits.{FaceLimits}
use Rattle.station_book.proofs.lists.Elements.{any_from, any_to, in_left, in_right}
use Rattle.station_book.proofs.readings.FaceReadings.{IsKept}
use Rattle.station_book.proofs.places.Steps.{open_targets, readings-opening, readings-more}
use Rattle.station_book.proofs.places.Steps.{readings-other, targets-more, targets-other}
use Rattle.station_book.proofs.places.Steps.{opens_no_station, set_role, measurement_role}

-- where none is the first, none stands
pub all_none : {X : Type 0} (os : List (Option X)) → first_of os ≡ None
    → AllByRecursion (λ o. o ≡ None) os
all_none [] e = tt
all_none (None ∷ rest) e = (refl, all_none rest e)
all_none (Some x ∷ rest) e = cc

-- Where no fault comes of a test, it fails.
pub none_when : (b : Bool) (k : BookKind) → when b k ≡ None → b ≡ false
none_when true k e = cc
none_when false k e = refl

-- A name that is listed stays listed.
pub among_more : (names : List (List ℕ)) (name other : List ℕ) → is_among names other ≡ true
    → is_among (with_new names name) other ≡ true
among_more names name other e = elim (cases_Bool (is_among names name)) [
  | inl v ↦ rw v e
  | inr v ↦ rw v (let (n, h, t) = any_to (λ m. bytes_eq m other) names e in
      any_from (λ m. bytes_eq m other) n (names ++ name ∷ []) (in_left n names (name ∷ []) h) t)
]

-- A name that was added is listed.
pub among_new : (names : List (List ℕ)) (name : List ℕ) → is_among (with_new names name) name ≡ true
among_new names name = elim (cases_Bool (is_among names name)) [
  | inl v ↦ rw v v
  | inr v ↦ rw v (any_from (λ m. bytes_eq m name) name (names ++ name ∷ [])
      (in_right name names (name ∷ []) (inl refl)) ((bytes_eq-Decides name name).1 refl))
]

kept_more : (names : List (List ℕ)) (name : List ℕ) (rs : List Place)
    → AllByRecursion (IsKept names) rs → AllByRecursion (IsKept (with_new names name)) rs
kept_more names name [] k = tt
kept_more names name (r ∷ rs) k = (
  record { in_targets = among_more names name _ k.0.in_targets; has_face = k.0.has_face },
  kept_more names name rs k.1,
)

face_is : (b : GsiBlock) → (is_of_face One b || is_of_face Two b) ≡ true
    → is_of_face (face b) b ≡ true
face_is b e = elim (cases_Bool (is_of_face Two b)) [
  | inl h ↦ rw h h
  | inr h ↦ rw h (elim (or_cases (is_of_face One b) (is_of_face Two b) e) [
    | inl f ↦ f
    | inr t ↦ absurd (false≢true (sym h ∙ t))
  ])
]

-- a block with code 20 that has no fault
pub record IsCleanSet (past : History) (b : GsiBlock) : Type 0 where
  pub of_station : is_empty (station past) ≡ false
  pub first_time : had_sets past ≡ false
  pub new_number : has_set_number (number b) past ≡ false

-- A block of code 20 without fault is at a station, and its number is new there.
pub clean_set : (limits : FaceLimits) (past : History) (b : GsiBlock) → opens_set b ≡ true
    → fault_after limits past b ≡ None → IsCleanSet past b
unfolding fault_after
clean_set limits past b e clean =
    let none = (all_none (end_faults past ++ set_faults past b)
    (rw (set_role b e) at clean)).1.1.1 in
    record {
      of_station = none_when (is_empty (station past)) kinds.SetOutside none.0;
      first_time = none_when (had_sets past) kinds.StationTwice none.1.1.0;
      new_number = none_when (has_set_number (number b) past) kinds.SetTwice none.1.1.1.0;
    }

-- a reading that has no fault
pub record IsCleanReading (limits : FaceLimits) (past : History) (b : GsiBlock) : Type 0 where
  pub faced : is_of_face (face b) b ≡ true
  pub free : is_face_taken b past ≡ false
  pub two_c : is_beyond (has_no_two_c limits.two_c) b past ≡ false
  pub two_i : is_beyond (has_no_two_i limits.two_i) b past ≡ false

-- A reading without fault has a face, is its target's first there, and is within the limits.
pub clean_reading : (limits : FaceLimits) (past : History) (b : GsiBlock)
    → is_reading (b ∷ past) ≡ true → fault_after limits past b ≡ None → IsCleanReading limits past b
unfolding fault_after
clean_reading limits past b e clean =
    let (sees, now) = and_parts (has_direction b) (is_open past) e in
    let direction = (and_parts (is_measurement (role_of b)) (not (lacks 21 b)) sees).1 in
    let none = (all_none (reading_faults limits past b)
    (rw (measurement_role b sees, direction, now) at clean)).1.1.1.1.1 in
    let faced = is_of_face One b || is_of_face Two b in
    record {
      faced = face_is b (true_from_ne_false faced (λ f. false≢true
          (sym (none_when (not faced) kinds.FaceUnclear none.0) ∙ ap not f)));
      free = none_when (is_face_taken b past) kinds.FaceTwice none.1.0;
      two_c = none_when (is_beyond (has_no_two_c limits.two_c) b past) kinds.TwoC none.1.1.1.0;
      two_i = none_when (is_beyond (has_no_two_i limits.two_i) b past) kinds.TwoI none.1.1.1.1.0;
    }

-- each reading of the open set is kept
pub open_kept : (limits : FaceLimits) (past : History) → IsWithoutFault limits past
    → AllByRecursion (IsKept (open_targets past)) (open_readings past)
open_kept limits [] h = tt
open_kept limits (b ∷ past) h = elim (cases_Bool (is_opening b)) [
  | inl o ↦ rw (readings-opening b past o) tt
  | inr o ↦
      let s = opens_no_station b o in elim (cases_Bool (is_reading (b ∷ past))) [
        | inl r ↦ rw (targets-more b past s r, readings-more b past o r) (
          record {
            in_targets = among_new (open_targets past) (target b);
            has_face = (clean_reading limits past b r h.0).faced;
          },
          kept_more (open_targets past) (target b) (open_readings past)
              (open_kept limits past h.1),
        )
        | inr r ↦ rw (targets-other b past s r, readings-other b past o r)
            (open_kept limits past h.1)
      ]
]
