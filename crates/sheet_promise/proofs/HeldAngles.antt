-- In blocks without fault each reading has one word for each of its angles, and the word holds it.
use Rattle.std.proofs.Common.{◌≡◌, ℕ, true, false, not, List, [], ◌∷◌, Option, Some, None}
use Rattle.std.proofs.Common.{Result, Ok, Err, refl, sym, ap, ◌∙◌, inl, inr, subst, ltb}
use Rattle.std.specs.Option.{option_map}
use Rattle.std.proofs.lemmas.Bool.{and_parts, and_from, ltb-true, lt-ltb, not-true}
use Rattle.gsi_word.specs.Angles.{angle_of}
use Rattle.gsi_word.specs.Blocks.{GsiBlock}
use Rattle.gsi_word.specs.FoundWords.{words_with, found_among, is_absent, is_twice}
use Rattle.gsi_word.specs.Words.{GsiWord}
use Rattle.gsi_word.specs.declared.angle.AngleFault.{AngleFault}
use Rattle.gsi_word.specs.declared.index.TheConstants.{HORIZONTAL_DIRECTION, VERTICAL_ANGLE}
use Rattle.gsi_word.proofs.AngleLaws.{angle_known}
use Rattle.station_book.specs.declared.bounds.TheConstants.{CIRCLE, HALF_CIRCLE}
use Rattle.station_book.specs.declared.face.Face.{Face}
use Rattle.station_book.specs.declared.face.Face.TheVariants.{One, Two}
use Rattle.station_book.specs.declared.fault.BookKind.TheVariants as kinds
use Rattle.station_book.specs.Limits.{FaceLimits}
use Rattle.station_book.specs.Blocks.{role_of, is_measurement, has_direction, lacks, has_two}
use Rattle.station_book.specs.Blocks.{found_in_block, angle_found, angle_or_zero, fault_of_angle}
use Rattle.station_book.specs.Blocks.{angle_fault, angles, is_of_face}
use Rattle.station_book.specs.Places.{History, Place, places, is_open, is_reading}
use Rattle.station_book.specs.Faults.{reading_faults, fault_after, angles_at, IsWithoutFault}
use Rattle.station_book.proofs.lists.Elements.{In}
use Rattle.station_book.proofs.places.Steps.{measurement_role}
use Rattle.station_book.proofs.readings.CleanBlocks.{all_none, none_when}
use Rattle.sheet_promise.proofs.Placed.{ReadsAngles}
use Rattle.sheet_promise.specs.Readings.{HoldsAngle, IsInFace}

held_by : (index : ℕ) (b : GsiBlock) (w : GsiWord) → words_with index b.words ≡ w ∷ []
    → (r : Result ℕ AngleFault) → angle_of w ≡ r → fault_of_angle (Some r) ≡ None
    → HoldsAngle index b (angle_or_zero (Some r))
held_by index b w only (Ok units) is faultless =
    record { word = w; only = only; holds = (angle_known w units).0 is }
held_by index b w only (Err fault) is faultless = cc

held_among : (index : ℕ) (b : GsiBlock) (ws : List GsiWord) → words_with index b.words ≡ ws
    → is_absent (found_among ws) ≡ false → is_twice (found_among ws) ≡ false
    → fault_of_angle (angle_found (found_among ws)) ≡ None
    → HoldsAngle index b (angle_or_zero (angle_found (found_among ws)))
held_among index b [] e some one faultless = cc
held_among index b (w ∷ []) e some one faultless =
    held_by index b w e (angle_of w) refl faultless
held_among index b (w ∷ v ∷ ws) e some one faultless = cc

-- The word that is found, and is the only one, holds the angle.
held : (index : ℕ) (b : GsiBlock) → lacks index b ≡ false → has_two index b ≡ false
    → angle_fault index b ≡ None
    → HoldsAngle index b (angle_or_zero (angle_found (found_in_block index b)))
unfolding lacks has_two angle_fault
held index b some one faultless =
    held_among index b (words_with index b.words) refl some one faultless

-- And what one word holds is the angle that is found.
pub found_held : (index : ℕ) (b : GsiBlock) (units : ℕ) → HoldsAngle index b units
    → angle_or_zero (angle_found (found_in_block index b)) ≡ units
found_held index b units x =
    ap (λ (ws : List GsiWord). angle_or_zero (angle_found (found_among ws))) x.only
    ∙ ap (λ (r : Result ℕ AngleFault). angle_or_zero (Some r))
    ((angle_known x.word units).1 x.holds)

none_mapped : {X Y : Type 0} (f : X → Y) (o : Option X) → option_map f o ≡ None → o ≡ None
none_mapped f None e = refl
none_mapped f (Some x) e = cc

reads_here : (limits : FaceLimits) (past : History) (b : GsiBlock)
    → is_reading (b ∷ past) ≡ true → fault_after limits past b ≡ None
    → ReadsAngles (b ∷ past) (angles b)
unfolding fault_after angles
reads_here limits past b reading clean =
    let (sees, now) = and_parts (has_direction b) (is_open past) reading in
    let direction = (and_parts (is_measurement (role_of b)) (not (lacks 21 b)) sees).1 in
    let none = all_none (reading_faults limits past b)
    (rw (measurement_role b sees, direction, now) at clean) in (
      held HORIZONTAL_DIRECTION b (not-true (lacks 21 b) direction)
          (none_when (has_two HORIZONTAL_DIRECTION b) (kinds.WordTwice HORIZONTAL_DIRECTION) none.0)
          (none_mapped kinds.Hz (angle_fault HORIZONTAL_DIRECTION b) none.1.1.1.0),
      held VERTICAL_ANGLE b (none_when (lacks VERTICAL_ANGLE b) kinds.NoZenith none.1.1.0)
          (none_when (has_two VERTICAL_ANGLE b) (kinds.WordTwice VERTICAL_ANGLE) none.1.0)
          (none_mapped kinds.Zenith (angle_fault VERTICAL_ANGLE b) none.1.1.1.1.0),
    )

-- Each reading of blocks without fault reads its angles.
pub reads_angles : (limits : FaceLimits) (h : History) (r : Place) → IsWithoutFault limits h
    → In r (places h) → is_reading r ≡ true → ReadsAngles r (angles_at r)
reads_angles limits [] r clean placed reading = absurd placed
reads_angles limits (b ∷ past) r clean (inl e) reading =
    subst (λ (q : Place). ReadsAngles q (angles_at q)) (sym e)
    (reads_here limits past b (sym (ap is_reading e) ∙ reading) clean.0)
reads_angles limits (b ∷ past) r clean (inr placed) reading =
    reads_angles limits past r clean.1 placed reading

-- The face of a block is that of its zenith angle.
pub in_face : (f : Face) (b : GsiBlock) → is_of_face f b ≡ true → IsInFace f (angles b).zenith
unfolding is_of_face
in_face One b e =
    let z = (angles b).zenith in
    let p = and_parts (ltb 0 z) (ltb z HALF_CIRCLE) e in
    (ltb-true 0 z p.0, ltb-true z HALF_CIRCLE p.1)
in_face Two b e =
    let z = (angles b).zenith in
    let p = and_parts (ltb HALF_CIRCLE z) (ltb z CIRCLE) e in
    (ltb-true HALF_CIRCLE z p.0, ltb-true z CIRCLE p.1)

of_zenith : (f : Face) (b : GsiBlock) → IsInFace f (angles b).zenith → is_of_face f b ≡ true
unfolding is_of_face
of_zenith One b (low, high) =
    let z = (angles b).zenith in
    and_from (ltb 0 z) (ltb z HALF_CIRCLE) (lt-ltb 0 z low) (lt-ltb z HALF_CIRCLE high)
of_zenith Two b (low, high) =
    let z = (angles b).zenith in
    and_from (ltb HALF_CIRCLE z) (ltb z CIRCLE) (lt-ltb HALF_CIRCLE z low) (lt-ltb z CIRCLE high)

-- So a block whose word holds such a zenith angle is of this face.
pub of_face : (f : Face) (b : GsiBlock) (units : ℕ) → HoldsAngle VERTICAL_ANGLE b units
    → IsInFace f units → is_of_face f b ≡ true
unfolding angles
of_face f b units holds is =
    of_zenith f b (subst (IsInFace f) (sym (found_held VERTICAL_ANGLE b units holds)) is)
