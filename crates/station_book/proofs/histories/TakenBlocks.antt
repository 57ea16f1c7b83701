-- After a block without fault, what is kept stands for the blocks with it.
use Rattle.std.proofs.Common.{◌≡◌, ℕ, ◌+◌, Bool, true, false, cond, not, ltb, ◌&&◌, ◌||◌, List, []}
use Rattle.std.proofs.Common.{◌∷◌, Option, Some, None, is_none, Result, Ok, Err, refl, sym, ap, ◌∙◌}
use Rattle.std.proofs.Common.{subst, arith, unwrap_or}
use Rattle.gsi_word.specs.Names.{name_of}
use Rattle.gsi_word.specs.declared.found.Found.{Found}
use Rattle.gsi_word.specs.declared.found.Found.TheVariants.{One}
use Rattle.station_book.specs.declared.face.Face.{Face}
use Rattle.station_book.specs.declared.face.Face.TheVariants as faces
use Rattle.station_book.specs.declared.fault.BookKind.{BookKind}
use Rattle.station_book.specs.declared.fault.BookKind.TheVariants as kinds
use Rattle.station_book.specs.declared.role.Role.{Role}
use Rattle.station_book.specs.declared.role.Role.TheVariants as roles
use Rattle.station_book.specs.declared.angles.Reading.{Reading}
use Rattle.station_book.specs.declared.stage.Stage.{Stage}
use Rattle.station_book.specs.declared.stage.Stage.TheVariants.{Outside, Station, BetweenSets}
use Rattle.station_book.specs.declared.stage.Stage.TheVariants.{InSet}
use Rattle.station_book.specs.Faults.{station_faults, when, first_of, open_sets, fault_after}
use Rattle.station_book.specs.Faults.{name_at}
use Rattle.station_book.specs.State.{then_fault}
use Rattle.gsi_word.specs.FoundWords.{is_absent, is_twice}
use Rattle.station_book.specs.Blocks.{role_of, is_station, is_set_code, is_close, is_measurement}
use Rattle.station_book.specs.Blocks.{opens_station, opens_set, is_opening, has_direction, named}
use Rattle.station_book.specs.Blocks.{number, angles, is_of_face, other_face, found_in_block}
use Rattle.station_book.specs.Blocks.{name_found, has_two, lacks}
use Rattle.station_book.specs.StationState.{with_set, with_reading}
use Rattle.station_book.specs.StationStates.{StationStates, change_last}
use Rattle.station_book.specs.State as states
use Rattle.gsi_word.specs.Blocks.{GsiBlock}
use Rattle.station_book.specs.Places.{History, last, station, is_empty, is_open, is_reading}
use Rattle.station_book.specs.StateOfHistory.{IsStage, AreStates, stations_in}
use Rattle.station_book.specs.Readings as said
use Rattle.station_book.specs.StandsFor.{StandsFor}
use Rattle.station_book.proofs.places.Steps.{is_open-opening, is_open-other, sets-station}
use Rattle.station_book.proofs.places.Steps.{sets-other, same_station}
use Rattle.station_book.specs.Limits.{FaceLimits}
use Rattle.station_book.proofs.readings.FaceReadings.{one_face}
use Rattle.station_book.proofs.readings.CleanBlocks.{all_none, none_when}
use Rattle.station_book.proofs.histories.ReadingHistories.{Says}
use Rattle.station_book.proofs.histories.StateHistories.{states_idle, states_first, states_further}
use Rattle.station_book.proofs.histories.StateHistories.{states_reading, open_has_set, newest_there}
use Rattle.std.proofs.lemmas.Bool.{and_right}

-- what a role says of the tests
direction_as : (b : GsiBlock) (r : Role) → role_of b ≡ r
    → has_direction b ≡ (is_measurement r && not (lacks 21 b))
direction_as b r e = ap (λ q. is_measurement q && not (lacks 21 b)) e

opening_as : (b : GsiBlock) (r : Role) → role_of b ≡ r
    → is_opening b ≡ (is_station r || (is_set_code r || is_close r))
opening_as b r e = ap (λ q. is_station q || (is_set_code q || is_close q)) e

no_reading : (b : GsiBlock) (past : History) → has_direction b ≡ false → is_reading
    (b ∷ past) ≡ false
no_reading b past e = ap (λ v. v && is_open past) e

-- a block that opens and closes nothing leaves the stage
stage_stays : (stage : Stage) (b : GsiBlock) (past : History) → opens_station b ≡ false
    → opens_set b ≡ false → is_opening b ≡ false → IsStage stage past → IsStage stage (b ∷ past)
stage_stays Outside b past s n o h = (same_station b past s ∙ h.0, is_open-other b past o ∙ h.1)
stage_stays (Station name) b past s n o h = (
  ap is_empty (same_station b past s) ∙ h.0,
  ap (λ p. name_at p) (same_station b past s) ∙ h.1,
  sets-other b past s n ∙ h.2,
  is_open-other b past o ∙ h.3,
)
stage_stays BetweenSets b past s n o h =
    (ap is_empty (sets-other b past s n) ∙ h.0, is_open-other b past o ∙ h.1)
stage_stays InSet b past s n o h = is_open-other b past o ∙ h

-- a closing code
stage_closes : (stage : Stage) (b : GsiBlock) (past : History) → opens_station b ≡ false
    → opens_set b ≡ false → is_opening b ≡ true → IsStage stage past
    → IsStage (states.closed_stage stage) (b ∷ past)
stage_closes Outside b past s n o h = (same_station b past s ∙ h.0, is_open-opening b past o ∙ n)
stage_closes (Station name) b past s n o h = (
  ap is_empty (same_station b past s) ∙ h.0,
  ap (λ p. name_at p) (same_station b past s) ∙ h.1,
  sets-other b past s n ∙ h.2,
  is_open-opening b past o ∙ n,
)
stage_closes BetweenSets b past s n o h =
    (ap is_empty (sets-other b past s n) ∙ h.0, is_open-opening b past o ∙ n)
stage_closes InSet b past s n o h =
    (ap is_empty (sets-other b past s n) ∙ open_has_set past h, is_open-opening b past o ∙ n)

then_second : {X : Type 0} (o p : Option X) → then_fault o p ≡ None → p ≡ None
then_second None p e = e
then_second (Some x) p e = cc

-- where a block of code 10 has no fault it has a name
name_found_in : (f : Found)
    → first_of (when (is_twice f) (kinds.WordTwice 42) ∷ when (is_absent f) kinds.StationName ∷ [])
    ≡ None → (name : List ℕ) × (name_found f ≡ Some name)
name_found_in (One w) e = (name_of w.content, refl)
name_found_in f e = absurd cc

name_of_station : (b : GsiBlock) → first_of (station_faults b) ≡ None
    → (name : List ℕ) × (named b ≡ Some name)
unfolding has_two lacks named
name_of_station b e = name_found_in (found_in_block 42 b) e

-- a further set of the last station
further_taken : (so_far : StationStates) (b : GsiBlock) (past : History) (n : ℕ)
    → role_of b ≡ roles.Set
    → number b ≡ Some n → is_empty (open_sets past) ≡ false → AreStates past
    (stations_in past) so_far
    → AreStates (b ∷ past) (stations_in (b ∷ past)) (change_last (with_set n) so_far)
further_taken so_far b past n r e some h =
    let x = newest_there so_far past some h in
    subst (λ (s : StationStates). AreStates (b ∷ past) (stations_in (b ∷ past))
    (change_last (with_set n) s)) (sym x.is)
    (states_further x.newest x.older b past n (ap is_station r) (ap is_set_code r) some e
    (subst (λ (s : StationStates). AreStates past (stations_in past) s) x.is h))

-- a block of code 20
set_taken : (so_far : StationStates) (b : GsiBlock) (past : History) (stage : Stage)
    (n : Option ℕ)
    → role_of b ≡ roles.Set → number b ≡ n → states.opening_fault stage so_far n ≡ None
    → IsStage stage past → AreStates past (stations_in past) so_far
    → AreStates (b ∷ past) (stations_in (b ∷ past)) (states.opened stage n so_far)
set_taken so_far b past (Station name) (Some n) r e f g h =
    states_first so_far b past name n (ap is_station r) (ap is_set_code r) g.2 g.1 e h
set_taken so_far b past BetweenSets (Some n) r e f g h = further_taken so_far b past n r e g.0 h
set_taken so_far b past InSet (Some n) r e f g h =
    further_taken so_far b past n r e (open_has_set past g) h
set_taken so_far b past stage n r e f g h = absurd cc

-- what a measurement that was read says
record WasRead (b : GsiBlock) (s : Reading) : Type 0 where
  pub directed : lacks 21 b ≡ false
  pub clean : first_of (said.own_faults b) ≡ None
  pub is : said.reading b ≡ s

read_cases : (absent : Bool) (fault : Option BookKind) (s t : Reading)
    → cond absent (Ok None) (said.unless_fault fault s) ≡ Ok (Some t)
    → (absent ≡ false) × (fault ≡ None) × (s ≡ t)
read_cases false None s t e = (refl, refl, cc)
read_cases absent fault s t e = absurd cc

was_read : (b : GsiBlock) (s : Reading) → said.read b ≡ Ok (Some s) → WasRead b s
was_read b s e = let p = read_cases (lacks 21 b) (first_of (said.own_faults b))
    (said.reading b) s e in record { directed = p.0; clean = p.1; is = p.2 }

none_cases : (absent : Bool) (fault : Option BookKind) (s : Reading)
    → ◌≡◌ {A = Result (Option Reading) BookKind}
    (cond absent (Ok None) (said.unless_fault fault s)) (Ok None) → absent ≡ true
none_cases true fault s e = refl
none_cases false None s e = absurd cc
none_cases false (Some k) s e = absurd cc

-- A block is of face I exactly where its zenith angle is above 0 and below half a circle.
pub first_face : (b : GsiBlock)
    → is_of_face faces.One b ≡ (ltb 0 ((angles b).zenith) && ltb ((angles b).zenith) 20_000_000)
unfolding is_of_face
first_face b = refl

-- A block is of face II exactly where its zenith angle is between half a circle and a circle.
pub second_face : (b : GsiBlock)
    → is_of_face faces.Two b ≡ (ltb 20_000_000 ((angles b).zenith) && ltb
    ((angles b).zenith) 40_000_000)
unfolding is_of_face
second_face b = refl

abbrev HasFace : GsiBlock → Face → Type 0
HasFace b f = (is_of_face f b ≡ true) × (is_of_face (other_face f) b ≡ false)

face_cases : (b : GsiBlock) (one two : Bool) → is_of_face faces.One b ≡ one
    → is_of_face faces.Two b ≡ two
    → is_none (cond one (Some faces.One) (cond two (Some faces.Two) None)) ≡ false
    → HasFace b (unwrap_or (cond one (Some faces.One) (cond two (Some faces.Two) None)) faces.One)
face_cases b true two e f g = (e, one_face b e)
face_cases b false true e f g = (f, e)
face_cases b false false e f g = absurd cc

says : (b : GsiBlock) (past : History) (s : Reading) → WasRead b s → Says s (b ∷ past)
says b past s w =
    let clear = none_when (is_none (said.face_of ((angles b).zenith))) kinds.FaceUnclear
    (all_none (said.own_faults b) w.clean).1.1.1.1.1.0 in
    let face : HasFace b (unwrap_or (said.face_of ((angles b).zenith)) faces.One) = face_cases b
    (ltb 0 ((angles b).zenith) && ltb ((angles b).zenith) 20_000_000)
    (ltb 20_000_000 ((angles b).zenith) && ltb ((angles b).zenith) 40_000_000) (first_face b)
    (second_face b) clear in
    let here : HasFace b s.face = subst (λ (t : Reading). HasFace b t.face) w.is face in
    record {
      target_is = sym (ap (λ (t : Reading). t.target) w.is);
      angles_are = sym (ap (λ (t : Reading). t.angles) w.is);
      face_is = here.0;
      face_not = here.1;
    }

measures_nothing : (b : GsiBlock) → role_of b ≡ roles.Measurement
    → (opens_station b ≡ false) × (opens_set b ≡ false) × (is_opening b ≡ false)
measures_nothing b r = (
  ap is_station r,
  ap is_set_code r,
  opening_as b roles.Measurement r,
)

-- a measurement in an open set, by what it says
in_set_taken : (so_far : StationStates) (b : GsiBlock) (past : History)
    (o : Result (Option Reading) BookKind) → role_of b ≡ roles.Measurement → said.read b ≡ o
    → is_open past ≡ true → (kind : (k : BookKind) → o ≡ Err k → ⊥)
    → AreStates past (stations_in past) so_far
    → AreStates (b ∷ past) (stations_in (b ∷ past)) (states.with_measured o so_far)
in_set_taken so_far b past (Err k) r e now kind h = absurd (kind k refl)
in_set_taken so_far b past (Ok None) r e now kind h =
    let absent : lacks 21 b ≡ true = none_cases (lacks 21 b) (first_of (said.own_faults b))
    (said.reading b) e in
    let blind : has_direction b ≡ false = direction_as b roles.Measurement r ∙ ap not absent in
    states_idle so_far b past (ap is_set_code r) (no_reading b past blind) h
in_set_taken so_far b past (Ok (Some s)) r e now kind h =
    let w = was_read b s e in
    let seen : has_direction b ≡ true = direction_as b roles.Measurement r ∙ ap not w.directed in
    let reading : is_reading (b ∷ past) ≡ true = (λ i. seen i && now i) in
    let x = newest_there so_far past (open_has_set past now) h in
    subst (λ (o : StationStates). AreStates (b ∷ past) (stations_in (b ∷ past))
    (change_last (with_reading s) o)) (sym x.is)
    (states_reading x.newest x.older b past s (opening_as b roles.Measurement r) reading now
    (says b past s w) (subst (λ (o : StationStates). AreStates past (stations_in past) o) x.is h))

no_err : (limits : FaceLimits) (so_far : StationStates) (o : Result (Option Reading) BookKind)
    → states.measured limits so_far o ≡ None → (k : BookKind) → o ≡ Err k → ⊥
no_err limits so_far (Err j) f k e = absurd cc
no_err limits so_far (Ok o) f k e = cc

closed_no_reading : (b : GsiBlock) (past : History) → is_open past ≡ false
    → is_reading (b ∷ past) ≡ false
closed_no_reading b past e = and_right (has_direction b) (is_open past) e

-- a measurement
measurement_taken : (limits : FaceLimits) (so_far : StationStates) (stage : Stage)
    (b : GsiBlock)
    (past : History) → role_of b ≡ roles.Measurement
    → cond (states.has_open_set stage) (states.measured limits so_far (said.read b)) None ≡ None
    → IsStage stage past → AreStates past (stations_in past) so_far
    → AreStates (b ∷ past) (stations_in (b ∷ past))
    (cond (states.has_open_set stage) (states.with_measured (said.read b) so_far) so_far)
measurement_taken limits so_far Outside b past r f g h = states_idle so_far b past
    (ap is_set_code r) (closed_no_reading b past g.1) h
measurement_taken limits so_far (Station name) b past r f g h = states_idle so_far b past
    (ap is_set_code r) (closed_no_reading b past g.3) h
measurement_taken limits so_far BetweenSets b past r f g h = states_idle so_far b past
    (ap is_set_code r) (closed_no_reading b past g.1) h
measurement_taken limits so_far InSet b past r f g h = in_set_taken so_far b past
    (said.read b) r refl g (no_err limits so_far (said.read b) f) h

-- THE LAW: after a block without fault, what is kept stands for the blocks with it
pub taken_state : (limits : FaceLimits) (taken : ℕ) (stage : Stage) (so_far : StationStates)
    (b : GsiBlock) (past : History) (r : Role) → role_of b ≡ r
    → states.fault_as r (record {
      limits = limits;
      taken = taken;
      stage = stage;
      stations = so_far;
    }) b
    ≡ None → fault_after limits past b ≡ None
    → StandsFor limits (record { limits = limits; taken = taken; stage = stage; stations = so_far })
    past → StandsFor limits
    (states.after_as r b (record {
      limits = limits;
      taken = taken + 1;
      stage = stage;
      stations = so_far;
    })) (b ∷ past)
taken_state limits taken stage so_far b past roles.Station r f clean h =
    let (name, is) = name_of_station b
    (then_second (states.ending stage so_far) (first_of (station_faults b)) f) in
    let s = ap is_station r in
    let here : station (b ∷ past) ≡ b ∷ past = ap
    (λ v. cond v (b ∷ past) (last opens_station past)) s in
    record {
      limited = refl;
      clean = (clean, h.clean);
      counted = (let t = h.counted in omega (arith, t));
      stage = subst (λ (o : Option (List ℕ)). IsStage (states.at_station o stage) (b ∷ past))
          (sym is) (
            ap is_empty here,
            ap (λ p. name_at p) here ∙ is,
            sets-station b past s,
            is_open-opening b past (opening_as b roles.Station r) ∙ ap is_set_code r,
          );
      stations = states_idle so_far b past (ap is_set_code r)
          (no_reading b past (direction_as b roles.Station r)) h.stations;
    }
taken_state limits taken stage so_far b past roles.Set r f clean h = record {
  limited = refl;
  clean = (clean, h.clean);
  counted = (let t = h.counted in omega (arith, t));
  stage = is_open-opening b past (opening_as b roles.Set r) ∙ ap is_set_code r;
  stations = set_taken so_far b past stage (number b) r refl
      (then_second (when (has_two 42 b) (kinds.WordTwice 42))
      (states.opening_fault stage so_far (number b)) (then_second (states.ending stage so_far) _ f))
      h.stage h.stations;
}
taken_state limits taken stage so_far b past roles.Close r f clean h = record {
  limited = refl;
  clean = (clean, h.clean);
  counted = (let t = h.counted in omega (arith, t));
  stage = stage_closes stage b past (ap is_station r) (ap is_set_code r)
      (opening_as b roles.Close r) h.stage;
  stations = states_idle so_far b past (ap is_set_code r)
      (no_reading b past (direction_as b roles.Close r)) h.stations;
}
taken_state limits taken stage so_far b past roles.Measurement r f clean h =
    let m = measures_nothing b r in
    record {
      limited = refl;
      clean = (clean, h.clean);
      counted = (let t = h.counted in omega (arith, t));
      stage = stage_stays stage b past m.0 m.1 m.2 h.stage;
      stations = measurement_taken limits so_far stage b past r f h.stage h.stations;
    }
taken_state limits taken stage so_far b past roles.Other r f clean h = record {
  limited = refl;
  clean = (clean, h.clean);
  counted = (let t = h.counted in omega (arith, t));
  stage = stage_stays stage b past (ap is_station r) (ap is_set_code r)
      (opening_as b roles.Other r) h.stage;
  stations = states_idle so_far b past (ap is_set_code r)
      (no_reading b past (direction_as b roles.Other r)) h.stations;
}

-- the same book under its own limits
pub at_own : (limits : FaceLimits) (k : states.State) (h : History) → StandsFor limits k h
    → StandsFor k.limits k h
at_own limits k h s = subst (λ (l : FaceLimits). StandsFor l k h) (sym s.limited) s
