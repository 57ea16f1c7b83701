-- What a book answers at the end are the stations of its blocks.
use Rattle.std.proofs.Common.{◌≡◌, ℕ, ◌+◌, List, [], ◌∷◌, ◌++◌, length, map, reverse, Option, Some}
use Rattle.std.proofs.Common.{None, refl, sym, ap, ◌∙◌, subst, arith}
use Rattle.std.specs.Prelude.{Result, Ok, Err, OnOk, IfOk, IfErr}
use Rattle.std.specs.List.{AllZip, AllByRecursion, enumerate_from, filter_map, flat_map}
use Rattle.std.specs.List.{cons_option}
use Rattle.std.proofs.lemmas.List.{append-nil, length-reverse, map-append, reverse-append}
use Rattle.std.proofs.lemmas.List.{reverse-reverse}
use Rattle.std.proofs.lemmas.Grind.{flat_map-append}
use Rattle.adjust_kernel.specs.declared.obs.Obs.{Obs}
use Rattle.station_book.specs.declared.face.Face.TheVariants.{One, Two}
use Rattle.station_book.specs.declared.faces.Faces.{Faces}
use Rattle.station_book.specs.declared.fault.BookFault.{BookFault}
use Rattle.station_book.specs.declared.fault.BookFault.TheVariants.{At, Memory}
use Rattle.station_book.specs.declared.stage.Stage.TheVariants.{Outside}
use Rattle.station_book.specs.Limits.{FaceLimits}
use Rattle.station_book.specs.Places.{number_at, History, Place, before, station, reading_in}
use Rattle.station_book.specs.Places.{readings_of, sets_of, first_sets, station_readings}
use Rattle.station_book.specs.Places.{targets_of}
use Rattle.station_book.specs.Faults.{fault_at_end, angles_at, IsWithoutFault}
use Rattle.station_book.specs.Stations.{Pair, pair_of, pairs_in, SurveyedStation, IsObserved}
use Rattle.station_book.specs.Stations.{HasFaces, IsSurveyed, AreStations}
use Rattle.station_book.specs.Slots as slots
use Rattle.station_book.specs.Slots.{obs_at, obs_of, faces_at, faces_of}
use Rattle.station_book.specs.StationStates.{none_so_far, surveys_of}
use Rattle.station_book.specs.Refusals.{ExplainsFault}
use Rattle.station_book.specs.State.{State, ending}
use Rattle.station_book.specs.StateOfHistory.{in_set, angles_of, slots_of, obs_in, faces_in}
use Rattle.station_book.specs.StateOfHistory.{numbers_in, IsComputed, stations_in}
use Rattle.station_book.specs.StandsFor.{StandsFor, ExplainsEnd}
use Rattle.station_book.proofs.states.SlotObservations.{enumerate-append}
use Rattle.station_book.proofs.two_faces.ComputedPairs.{computed_two_c, computed_two_i}
use Rattle.station_book.proofs.two_faces.ComputedPairs.{computed_direction}
use Rattle.station_book.proofs.readings.WithinLimits.{AreWithin, AllWithin, within_limits}
use Rattle.station_book.proofs.readings.WithinLimits.{place_on_circle}
use Rattle.station_book.proofs.places.FilePlaces.{sets_readings}
use Rattle.station_book.proofs.histories.TakenBlocks.{at_own}
use Rattle.station_book.proofs.histories.FileEnd.{AreComputed, same_end, same_stations}
use Rattle.indexmap.proofs.ReorderLemmas.{map-reverse}

zip_append : {A B : Type 0} (R : A → B → Type 0) (xs zs : List A) (ys ws : List B) → AllZip R xs ys
    → AllZip R zs ws → AllZip R (xs ++ zs) (ys ++ ws)
zip_append R [] zs [] ws h k = k
zip_append R (x ∷ xs) zs (y ∷ ys) ws h k = (h.0, zip_append R xs zs ys ws h.1 k)
zip_append R xs zs ys ws h k = absurd h

zip_reverse : {A B : Type 0} (R : A → B → Type 0) (xs : List A) (ys : List B) → AllZip R xs ys
    → AllZip R (reverse xs) (reverse ys)
zip_reverse R [] [] h = tt
zip_reverse R (x ∷ xs) (y ∷ ys) h =
    subst (λ l. AllZip R l (reverse (y ∷ ys))) (sym (reverse-append (x ∷ []) xs))
    (subst (λ l. AllZip R (reverse xs ++ x ∷ []) l) (sym (reverse-append (y ∷ []) ys))
    (zip_append R (reverse xs) (x ∷ []) (reverse ys) (y ∷ []) (zip_reverse R xs ys h.1) (h.0, tt)))
zip_reverse R xs ys h = absurd h

module _ (limits : FaceLimits) where
  -- both readings of a target, where it has both
  abbrev Beside : Option Place → Option Place → Type 0
  Beside o p = (a b : Place) → o ≡ Some a → p ≡ Some b → AreWithin limits (angles_at a)
      (angles_at b)

  one_observed : (s n : ℕ) (o p : Option Place) (cs : List Pair) (os : List Obs) → Beside o p
      → AllZip (IsObserved limits) cs os
      → AllZip (IsObserved limits) (cons_option (pair_of s n o p) cs)
      (cons_option (slots.observation_of s n (angles_of o) (angles_of p)) os)
  one_observed s n (Some a) (Some b) cs os w h = (
    record {
      set = refl;
      target = refl;
      direction = computed_direction limits.two_c (angles_at a)
          (angles_at b) (place_on_circle a) (place_on_circle b) (w a b refl refl).two_c;
    },
    h,
  )
  one_observed s n o p cs os w h = h

  set_observed : (s n : ℕ) (targets : List (List ℕ)) (rs : List Place) → AllWithin limits rs
      → AllZip (IsObserved limits)
      (filter_map (λ t. pair_of s t.0 (reading_in One t.1 rs) (reading_in Two t.1 rs))
      (enumerate_from n targets)) (filter_map (obs_at s) (enumerate_from n (slots_of targets rs)))
  set_observed s n [] rs w = tt
  set_observed s n (t ∷ ts) rs w = one_observed s n (reading_in One t rs)
      (reading_in Two t rs) _ _ (w t) (set_observed s (n + 1) ts rs w)

  one_compared : (s n : ℕ) (o p : Option Place) (cs : List Pair) (fs : List Faces) → Beside o p
      → AllZip (HasFaces limits) cs fs → AllZip (HasFaces limits) (cons_option (pair_of s n o p) cs)
      (cons_option (slots.compared (angles_of o) (angles_of p)) fs)
  one_compared s n (Some a) (Some b) cs fs w h =
      let within = w a b refl refl in (
        record {
          two_c = computed_two_c limits.two_c (angles_at a) (angles_at b) (place_on_circle a)
              (place_on_circle b) within.two_c;
          two_i = computed_two_i limits.two_i (angles_at a) (angles_at b) within.two_i;
          zenith = refl;
        },
        h,
      )
  one_compared s n o p cs fs w h = h

  set_compared : (s n : ℕ) (targets : List (List ℕ)) (rs : List Place) → AllWithin limits rs
      → AllZip (HasFaces limits)
      (filter_map (λ t. pair_of s t.0 (reading_in One t.1 rs) (reading_in Two t.1 rs))
      (enumerate_from n targets)) (filter_map faces_at (slots_of targets rs))
  set_compared s n [] rs w = tt
  set_compared s n (t ∷ ts) rs w = one_compared s n (reading_in One t rs)
      (reading_in Two t rs) _ _ (w t) (set_compared s (n + 1) ts rs w)

  -- the pairs of these sets, which come the newest first
  abbrev pairs_over : List (List ℕ) → List Place → List Place → List Pair
  pairs_over targets readings [] = []
  pairs_over targets readings (s ∷ older) = pairs_over targets readings older ++ pairs_in
      (length older) targets (in_set s readings)

  all_observed : (targets : List (List ℕ)) (readings sets : List Place)
      → ((s : Place) → AllWithin limits (in_set s readings))
      → AllZip (IsObserved limits) (pairs_over targets readings sets)
      (obs_in targets readings sets)
  all_observed targets readings [] w = tt
  all_observed targets readings (s ∷ older) w = zip_append (IsObserved limits)
      (pairs_over targets readings older) _ (obs_in targets readings older) _
      (all_observed targets readings older w)
      (set_observed (length older) 0 targets (in_set s readings) (w s))

  all_compared : (targets : List (List ℕ)) (readings sets : List Place)
      → ((s : Place) → AllWithin limits (in_set s readings))
      → AllZip (HasFaces limits) (pairs_over targets readings sets)
      (faces_in targets readings sets)
  all_compared targets readings [] w = tt
  all_compared targets readings (s ∷ older) w = zip_append (HasFaces limits)
      (pairs_over targets readings older) _ (faces_in targets readings older) _
      (all_compared targets readings older w)
      (set_compared (length older) 0 targets (in_set s readings) (w s))

  -- by set from the oldest, each with its place
  over_sets : (h : History) (targets : List (List ℕ)) (readings sets : List Place)
      → AllByRecursion (λ s. readings_of s h ≡ in_set s readings) sets
      → flat_map (λ s. pairs_in s.0 targets (readings_of s.1 h))
      (enumerate_from 0 (reverse sets)) ≡ pairs_over targets readings sets
  over_sets h targets readings [] same = refl
  over_sets h targets readings (s ∷ older) same =
      let l = length-reverse older in
      let place : 0 + length (reverse older) ≡ length older = omega (arith, l) in
      ap (λ l. flat_map each (enumerate_from 0 l)) (reverse-append (s ∷ []) older)
      ∙ ap (flat_map each) (enumerate-append 0 (reverse older) (s ∷ []))
      ∙ flat_map-append each (enumerate_from 0 (reverse older))
      (enumerate_from (0 + length (reverse older)) (s ∷ []))
      ∙ (λ i. over_sets h targets readings older same.1 i ++ append-nil
      (pairs_in (0 + length (reverse older)) targets (same.0 i)) i)
      ∙ ap (λ (n : ℕ). pairs_over targets readings older ++ pairs_in n targets
      (in_set s readings)) place
    where
      each : ℕ × Place → List Pair
      each p = pairs_in p.0 targets (readings_of p.1 h)

  numbers_are : (sets : List Place) → numbers_in sets ≡ map number_at (reverse sets)
  numbers_are [] = refl
  numbers_are (s ∷ older) =
      ap (λ l. l ++ number_at s ∷ []) (numbers_are older)
      ∙ sym (map-append number_at (reverse older) (s ∷ []))
      ∙ ap (map number_at) (sym (reverse-append (s ∷ []) older))

  -- a station as it is computed is the station as it was surveyed
  surveyed : (h : History) → IsWithoutFault limits h → (st : Place) (s : SurveyedStation)
      → IsComputed st (sets_of st h) (station_readings st h) s → IsSurveyed limits h st s
  surveyed h clean st s c =
      let sets = sets_of st h in
      let readings = station_readings st h in
      let targets = targets_of st h in
      let within : (set : Place) → AllWithin limits (in_set set readings) =
      λ set. within_limits limits h st set clean in
      let same = sets_readings h st in
      record {
        name = c.named_so;
        targets = c.targets;
        sets = sym (c.numbers ∙ numbers_are sets);
        directions = rw (c.obs, over_sets h targets readings sets same)
            (all_observed targets readings sets within);
        differences = rw (c.faces, over_sets h targets readings sets same)
            (all_compared targets readings sets within);
      }

  all_surveyed : (h : History) → IsWithoutFault limits h
      → (sts : List Place) (ss : List SurveyedStation) → AreComputed h sts ss
      → AllZip (IsSurveyed limits h) sts ss
  all_surveyed h clean (st ∷ sts) (s ∷ ss) c =
      (surveyed h clean st s c.0, all_surveyed h clean sts ss c.1)
  all_surveyed h clean sts ss c = c

  -- What is computed of the stations of a file without fault are its stations.
  pub are_stations : (h : History) (ss : List SurveyedStation) → IsWithoutFault limits h
      → AreComputed h (stations_in h) (reverse ss) → AreStations limits h ss
  unfolding AreStations
  are_stations h ss clean c =
      let zip = zip_reverse (IsSurveyed limits h) (stations_in h) (reverse ss)
      (all_surveyed h clean (stations_in h) (reverse ss) c) in
      subst (λ (sts : List Place). AllZip (IsSurveyed limits h) sts ss)
      (sym (map-reverse (λ s. station (before s)) (first_sets h)))
      (subst (λ (zs : List SurveyedStation). AllZip (IsSurveyed limits h)
      (reverse (stations_in h)) zs) (reverse-reverse ss) zip)

-- a new book stands for no block
pub empty_state : (limits : FaceLimits)
    → StandsFor limits (record {
      limits = limits;
      taken = 0;
      stage = Outside;
      stations = none_so_far;
    })
    []
empty_state limits =
    record { limited = refl; counted = refl; clean = tt; stage = (refl, refl); stations = tt }

-- the fault of the end by the blocks, under any limits
end_same : (limits : FaceLimits) (k : State) (h : History) → StandsFor limits k h
    → ending k.stage k.stations ≡ fault_at_end h
end_same limits k h it = same_end k h (at_own limits k h it)

-- Where `finish` succeeds, the end of the file has no fault.
pub end_clean : {X E : Type 0} (k : State) (r : Result X E) → OnOk r
    (ending k.stage k.stations ≡ None)
    → OnOk r ((limits : FaceLimits) (h : History) → StandsFor limits k h → fault_at_end h ≡ None)
end_clean k (Ok x) clean = λ limits h it. sym (end_same limits k h it) ∙ clean
end_clean k (Err e) clean = clean

-- Where `finish` succeeds, it answers the stations of the blocks.
pub end_stations : {E : Type 0} (k : State) (r : Result (List SurveyedStation) E)
    → IfOk r (λ s. s ≡ surveys_of k.stations)
    → IfOk r (λ s. (limits : FaceLimits) (h : History) → StandsFor limits k h
    → AreStations limits h s)
end_stations k (Ok s) same = λ limits h it. are_stations limits h s it.clean
    (subst (λ (ss : List SurveyedStation). AreComputed h (stations_in h) (reverse ss)) (sym same)
    (same_stations k h (at_own limits k h it)))
end_stations k (Err e) same = same

-- Where `finish` fails, its error explains the fault of the end, or that memory was wanted.
pub end_fault : {X : Type 0} (k : State) (r : Result X BookFault)
    → IfErr r (ExplainsFault (k.taken + 1) (ending k.stage k.stations))
    → IfErr r (λ e. (limits : FaceLimits) (h : History) → StandsFor limits k h → ExplainsEnd h e)
end_fault k (Ok x) why = why
end_fault k (Err (At n kind)) why = λ limits h it.
    (why.0 ∙ ap (λ (m : ℕ). m + 1) it.counted, sym (end_same limits k h it) ∙ why.1)
end_fault k (Err Memory) why = λ limits h it. sym (end_same limits k h it) ∙ why
