-- In a file without fault the two readings of a target in a set are within the limits.
use Rattle.std.proofs.Common.{◌≡◌, ℕ, ◌<◌, Bool, true, false, cond, eqb, leb, ltb, ◌+◌, ◌-◌, ◌%◌}
use Rattle.std.proofs.Common.{◌&&◌, ◌||◌, not, add_comm, List, [], ◌∷◌, length, filter, Option}
use Rattle.std.proofs.Common.{Some, None, Ok, Err, refl, sym, ap, subst, ◌∙◌, arith, inr, inl}
use Rattle.std.specs.Str.{bytes_eq}
use Rattle.std.proofs.lemmas.Bool.{eqb-true, leb-true, ltb-true, ltb-false, and_parts, and_cases}
use Rattle.std.proofs.lemmas.Bool.{true_from_ne_false, cases_Bool}
use Rattle.std.proofs.lemmas.Slice.Eq.{bytes_eq-Decides}
use Rattle.gsi_word.specs.Blocks.{GsiBlock}
use Rattle.gsi_word.specs.Angles.{is_gon, is_input_mode, decimal_number, angle_within_turn}
use Rattle.gsi_word.specs.declared.angle.TheConstants.{LAST_UNIT}
use Rattle.gsi_word.specs.declared.index.TheConstants.{HORIZONTAL_DIRECTION, VERTICAL_ANGLE}
use Rattle.gsi_word.specs.declared.angle.AngleFault.TheVariants as angle_faults
use Rattle.gsi_word.specs.declared.found.Found.{Found}
use Rattle.gsi_word.specs.declared.found.Found.TheVariants.{Absent, One, Twice}
use Rattle.std.specs.Prelude.{slice_index}
use Rattle.station_book.specs.declared.face.Face.TheVariants as faces
use Rattle.station_book.specs.Limits.{FaceLimits}
use Rattle.station_book.specs.TwoFaces.{Angles, AreOnCircle}
use Rattle.station_book.specs.Blocks.{found_in_block, angle_found, angle_or_zero, angles, target}
use Rattle.station_book.specs.Blocks.{is_of_face}
use Rattle.station_book.specs.StateOfHistory.{in_set}
use Rattle.station_book.specs.Places.{History, Place, places, before, station, opening, is_same}
use Rattle.station_book.specs.Places.{is_reading, reading_in, station_readings}
use Rattle.station_book.specs.Faults.{face, has_no_two_c, has_no_two_i, open_readings, angles_at}
use Rattle.station_book.specs.Faults.{IsWithoutFault}
use Rattle.station_book.proofs.lists.Elements.{same_test}
use Rattle.station_book.proofs.readings.FaceReadings.{one_face, face_of}
use Rattle.station_book.proofs.readings.CleanBlocks.{IsCleanReading, clean_reading}
use Rattle.station_book.proofs.readings.SetReadings.{open_in_set}

-- the angle of a word is below a circle
units_below : (o : Option ℕ) → angle_or_zero (Some (angle_within_turn o)) < 40_000_000
units_below None = omega arith
units_below (Some u) = by (leb u LAST_UNIT) refl where
  by : (v : Bool) → leb u LAST_UNIT ≡ v
      → angle_or_zero (Some (cond v (Ok u) (Err angle_faults.Range))) < 40_000_000
  by true e = let le = leb-true u LAST_UNIT e in omega (arith, le)
  by false e = omega arith

word_below : (g m s : Bool) (o : Option ℕ) → angle_or_zero (Some
    (cond g (Err angle_faults.Unit)
    (cond m (Err angle_faults.InputMode) (cond s (Err angle_faults.Sign) (angle_within_turn o))))) <
    40_000_000
word_below true m s o = omega arith
word_below false true s o = omega arith
word_below false false true o = omega arith
word_below false false false o = units_below o

found_below : (f : Found) → angle_or_zero (angle_found f) < 40_000_000
found_below Absent = omega arith
found_below (One w) = word_below (not (is_gon (slice_index w.info 3)))
    (not (is_input_mode (slice_index w.info 2))) w.negative (decimal_number w.content)
found_below Twice = omega arith

-- what a block reads is on the circle
pub angles_on_circle : (b : GsiBlock) → AreOnCircle (angles b)
unfolding angles
angles_on_circle b = record {
  hz = found_below (found_in_block HORIZONTAL_DIRECTION b);
  zenith = found_below (found_in_block VERTICAL_ANGLE b);
}

-- What is read at a place is on the circle.
pub place_on_circle : (r : Place) → AreOnCircle (angles_at r)
place_on_circle [] = record { hz = omega arith; zenith = omega arith }
place_on_circle (b ∷ past) = angles_on_circle b

-- both differences of two readings are within the limits
pub record AreWithin (limits : FaceLimits) (first second : Angles) : Type 0 where
  pub two_c : has_no_two_c limits.two_c first second ≡ false
  pub two_i : has_no_two_i limits.two_i first second ≡ false

-- Each test answers the same whichever reading comes first.
two_c_turned : (limit : ℕ) (a b : Angles) → AreOnCircle a → AreOnCircle b
    → has_no_two_c limit a b ≡ true → has_no_two_c limit b a ≡ true
unfolding has_no_two_c
two_c_turned limit a b ha hb t = true_from_ne_false (has_no_two_c limit b a) (λ e.
    let parts = and_parts (ltb limit (((b.hz + 60_000_000) - a.hz) % 40_000_000))
    (ltb (((b.hz + 60_000_000) - a.hz) % 40_000_000) (40_000_000 - limit)) t in
    let low = ltb-true limit (((b.hz + 60_000_000) - a.hz) % 40_000_000) parts.0 in
    let high = ltb-true (((b.hz + 60_000_000) - a.hz) % 40_000_000) (40_000_000 - limit) parts.1 in
    elim (and_cases (ltb limit (((a.hz + 60_000_000) - b.hz) % 40_000_000)) _ e) [
      | inl f ↦ let le = ltb-false limit (((a.hz + 60_000_000) - b.hz) % 40_000_000) f in
          omega arith
      | inr f ↦ let le = ltb-false (((a.hz + 60_000_000) - b.hz) % 40_000_000)
          (40_000_000 - limit) f in omega arith
    ])

-- The fault of 2c is the same whichever reading comes first.
pub two_c_any_order : (limit : ℕ) (a b : Angles) → AreOnCircle a → AreOnCircle b
    → has_no_two_c limit a b ≡ has_no_two_c limit b a
two_c_any_order limit a b ha hb = same_test (has_no_two_c limit a b) (has_no_two_c limit b a)
    (two_c_turned limit a b ha hb) (two_c_turned limit b a hb ha)

-- The fault of 2i is the same whichever reading comes first.
pub two_i_any_order : (limit : ℕ) (a b : Angles) → has_no_two_i limit a b ≡ has_no_two_i limit b a
unfolding has_no_two_i
two_i_any_order limit a b i = ltb (40_000_000 + limit) (add_comm a.zenith b.zenith i)
    || ltb (add_comm a.zenith b.zenith i + limit) 40_000_000

-- a reading without fault, and the reading of the other face
beside_first : (limits : FaceLimits) (past : History) (b : GsiBlock) (m : Place)
    → IsCleanReading limits past b → face b ≡ faces.One
    → reading_in faces.Two (target b) (open_readings past) ≡ Some m
    → AreWithin limits (angles b) (angles_at m)
beside_first limits past b m clean f g =
    record { two_c = rw (f, g) at clean.two_c; two_i = rw (f, g) at clean.two_i }

beside_second : (limits : FaceLimits) (past : History) (b : GsiBlock) (m : Place)
    → IsCleanReading limits past b → face b ≡ faces.Two
    → reading_in faces.One (target b) (open_readings past) ≡ Some m
    → AreWithin limits (angles_at m) (angles b)
beside_second limits past b m clean f g = record {
  two_c = two_c_any_order limits.two_c (angles_at m) (angles b) (place_on_circle m)
      (angles_on_circle b) ∙ (rw (f, g) at clean.two_c);
  two_i = two_i_any_order limits.two_i (angles_at m) (angles b) ∙ (rw (f, g) at clean.two_i);
}

-- the readings of a set by the lengths of its place and of its station's
abbrev of_places : ℕ → ℕ → History → List Place
of_places set st past = filter (λ r. eqb (length (opening (before r))) set)
    (filter (λ r. is_reading r && eqb (length (station (before r))) st) (places past))

open_of_places : (past : History) (st set : Place) → is_same (station past) st ≡ true
    → is_same (opening past) set ≡ true → in_set set (station_readings st past) ≡ open_readings past
open_of_places past st set s o =
    let n : length (station past) ≡ length st = eqb-true (length (station past)) (length st) s in
    let m : length (opening past) ≡ length set = eqb-true (length (opening past)) (length set) o in
    (λ i. of_places (sym m i) (sym n i) past) ∙ open_in_set past

-- Two readings of a target in a set are within the limits.
abbrev pub AllWithin : FaceLimits → List Place → Type 0
AllWithin limits rs = (name : List ℕ) (a b : Place) → reading_in faces.One name rs ≡ Some a
    → reading_in faces.Two name rs ≡ Some b → AreWithin limits (angles_at a) (angles_at b)

-- one reading more, in the open set
one_more : (limits : FaceLimits) (past : History) (b : GsiBlock) → IsCleanReading limits past b
    → AllWithin limits (open_readings past) → AllWithin limits ((b ∷ past) ∷ open_readings past)
one_more limits past b clean ih name x y ex ey = elim (cases_Bool (bytes_eq (target b) name)) [
  | inr t ↦ ih name x y (rw t at ex) (rw t at ey)
  | inl t ↦
      let own : target b ≡ name = (bytes_eq-Decides (target b) name).0 t in
      elim (cases_Bool (is_of_face faces.One b)) [
        | inl f ↦
            let g : is_of_face faces.Two b ≡ false = one_face b f in
            let found : Some (b ∷ past) ≡ Some x = rw (t, f) at ex in
            let here : b ∷ past ≡ x = cc in
            subst (λ (p : Place). AreWithin limits (angles_at p) (angles_at y)) here
            (beside_first limits past b y clean (face_of faces.One b f)
            (ap (λ (n : List ℕ). reading_in faces.Two n
            (open_readings past)) own ∙ (rw (t, g) at ey)))
        | inr f ↦ elim (cases_Bool (is_of_face faces.Two b)) [
          | inl g ↦
              let found : Some (b ∷ past) ≡ Some y = rw (t, g) at ey in
              let here : b ∷ past ≡ y = cc in
              subst (λ (p : Place). AreWithin limits (angles_at x) (angles_at p)) here
              (beside_second limits past b x clean (face_of faces.Two b g)
              (ap (λ (n : List ℕ). reading_in faces.One n
              (open_readings past)) own ∙ (rw (t, f) at ex)))
          | inr g ↦ ih name x y (rw (t, f) at ex) (rw (t, g) at ey)
        ]
      ]
]

-- In a file without fault two readings of a set and target are within the limits.
pub within_limits : (limits : FaceLimits) (h : History) (st set : Place) → IsWithoutFault limits h
    → AllWithin limits (in_set set (station_readings st h))
within_limits limits [] st set w = λ name a b e f. absurd cc
within_limits limits (b ∷ past) st set w =
    let ih = within_limits limits past st set w.1 in elim (cases_Bool (is_reading (b ∷ past))) [
      | inr e ↦ rw e ih
      | inl e ↦ elim (cases_Bool (is_same (station past) st)) [
        | inr f ↦ rw (e, f) ih
        | inl f ↦ elim (cases_Bool (is_same (opening past) set)) [
          | inr g ↦ rw (e, f, g) ih
          | inl g ↦
              let same = open_of_places past st set f g in
              rw (e, f, g, same) (one_more limits past b (clean_reading limits past b e w.0)
              (subst (AllWithin limits) same ih))
        ]
      ]
    ]
