-- Which reading of a target is found among those of a set, and which readings are of the open set.
use Rattle.std.proofs.Common.{◌≡◌, ℕ, ◌≤◌, Bool, true, false, cond, ◌&&◌, List, [], ◌∷◌, length}
use Rattle.std.proofs.Common.{filter, Some, refl, sym, ap, ◌∙◌, inl, inr, arith}
use Rattle.std.specs.Str.{bytes_eq}
use Rattle.std.proofs.lemmas.Bool.{cases_Bool, eq-eqb, ne_eqb, and_right}
use Rattle.station_book.specs.declared.face.Face.{Face}
use Rattle.station_book.specs.Blocks.{is_of_face, opens_station, is_opening}
use Rattle.station_book.specs.StateOfHistory.{in_set}
use Rattle.station_book.specs.Places.{History, Place, places, last, before, reading_in, is_same}
use Rattle.station_book.specs.Places.{is_reading, opening, station, station_readings, target_at}
use Rattle.station_book.specs.Places.{passes_at}
use Rattle.station_book.specs.Faults.{open_readings}
use Rattle.station_book.proofs.places.Owners.{length-last, belonging-more, belonging-same}
use Rattle.station_book.proofs.places.Steps.{readings-opening, readings-more, readings-other}
use Rattle.station_book.proofs.places.Steps.{opens_no_station}

-- what a reading does to the slots: nothing at other targets
pub found_other : (f : Face) (r : Place) (name : List ℕ) (rs : List Place)
    → bytes_eq (target_at r) name ≡ false → reading_in f name (r ∷ rs) ≡ reading_in f name rs
found_other f r name rs e = rw e

-- and at its own target it is found
pub found_here : (f : Face) (r : Place) (name : List ℕ) (rs : List Place)
    → bytes_eq (target_at r) name ≡ true → passes_at (is_of_face f) r ≡ true
    → reading_in f name (r ∷ rs) ≡ Some r
found_here f r name rs e g = rw (e, g)

-- A reading of the other face changes nothing in this one.
pub found_not : (f : Face) (r : Place) (name : List ℕ) (rs : List Place)
    → passes_at (is_of_face f) r ≡ false → reading_in f name (r ∷ rs) ≡ reading_in f name rs
found_not f r name rs g = rw (and_right (bytes_eq (target_at r) name) _ g)

-- of these readings none is of a set that is still to come
pub none_in_later : (test : Place → Bool) (owner : Place) (past : History)
    → length past ≤ length owner → in_set owner (filter test (places past)) ≡ []
none_in_later test owner [] le = refl
none_in_later test owner (b ∷ past) le = elim (cases_Bool (test (b ∷ past))) [
  | inl t ↦ rw (
    t,
    ne_eqb (length (opening past)) (length owner)
        (λ e. let l = length-last is_opening past in absurd (omega arith)),
  )
      (none_in_later test owner past (omega arith))
  | inr t ↦ rw t (none_in_later test owner past (omega arith))
]

-- The readings of the open set are those of the open station that are of this set.
pub open_in_set : (past : History)
    → in_set (opening past) (station_readings (station past) past) ≡ open_readings past
open_in_set [] = refl
open_in_set (b ∷ past) = elim (cases_Bool (is_opening b)) [
  | inl o ↦ rw (readings-opening b past o, o) (none_in_later
      (λ place. is_reading place && is_same (station (before place)) (station (b ∷ past)))
      (b ∷ past) (b ∷ past) (omega arith))
  | inr o ↦
      let s = opens_no_station b o in
      ap (λ v. in_set (cond v (b ∷ past) (last is_opening past))
      (station_readings (station (b ∷ past)) (b ∷ past))) o
      ∙ elim (cases_Bool (is_reading (b ∷ past))) [
        | inl r ↦ rw (
          belonging-more opens_station is_reading b past s r,
          eq-eqb (length (opening past)) (length (opening past)) refl,
          open_in_set past,
        )
            (sym (readings-more b past o r))
        | inr r ↦ rw (belonging-same opens_station is_reading b past s r)
            (open_in_set past ∙ sym (readings-other b past o r))
      ]
]
