-- What is kept of a station stands for it: after its first set, after a further set, and, where
-- another station is open, after any block.
use Rattle.std.proofs.Common.{◌≡◌, ℕ, suc, ◌-◌, ◌<◌, ◌≤◌, Bool, true, false, cond, ◌&&◌, List, []}
use Rattle.std.proofs.Common.{◌∷◌, ◌++◌, length, map, filter, replicate, Some, None, refl, sym, ap, ◌∙◌}
use Rattle.std.proofs.Common.{inl, inr, ◌⊎◌, subst, arith}
use Rattle.std.specs.List.{AllByRecursion}
use Rattle.std.proofs.lemmas.Bool.{cases_Bool, false≢true, and_parts, ne_eqb, eq-eqb, and_left}
use Rattle.std.proofs.lemmas.Bool.{false_from_ne_true, or_parts}
use Rattle.std.proofs.lemmas.List.{length-append, map-append, length-map}
use Rattle.station_book.specs.Slots.{empty_slot, obs_of, faces_of}
use Rattle.station_book.specs.StationState.{StationState, begun, with_set, with_reading}
use Rattle.station_book.specs.declared.angles.Reading.{Reading}
use Rattle.station_book.proofs.histories.ReadingHistories.{Says, IsInNone, reading_state}
use Rattle.station_book.proofs.histories.ReadingHistories.{all_filter}
use Rattle.station_book.specs.Stations.{SurveyedStation}
use Rattle.station_book.specs.StationStates.{StationStates, survey_of, with_station, last_of}
use Rattle.station_book.specs.StationStates.{surveyed_so_far}
use Rattle.station_book.proofs.readings.SetReadings.{none_in_later}
use Rattle.station_book.proofs.states.NewestState.{HasNewest}
use Rattle.gsi_word.specs.Blocks.{GsiBlock}
use Rattle.station_book.specs.Blocks.{number, opens_station, opens_set, is_opening, has_direction}
use Rattle.station_book.specs.Places.{number_at, History, Place, places, last, before, station}
use Rattle.station_book.specs.Places.{opening, is_empty, is_open, is_set, is_reading, is_same}
use Rattle.station_book.specs.Places.{sets_of, station_readings, first_sets}
use Rattle.station_book.specs.Faults.{open_sets, name_at}
use Rattle.station_book.specs.StateOfHistory.{in_set, slots_of, targets_in, obs_in, faces_in}
use Rattle.station_book.specs.StateOfHistory.{numbers_in, IsStateOf, IsStateWith, IsStateAt}
use Rattle.station_book.specs.StateOfHistory.{IsComputed, stations_in, AreStates, IsEarlierAt}
use Rattle.station_book.specs.StateOfHistory.{AreEarlier}
use Rattle.station_book.proofs.places.Owners.{length-last, belonging-more, belonging-same}
use Rattle.station_book.proofs.places.Owners.{belonging-fresh, belonging-older, owners_in_order}
use Rattle.station_book.proofs.places.Steps.{no_set_at_station, no_station_at_set}
use Rattle.station_book.proofs.places.Steps.{direction_opens_nothing, opens_no_station}
use Rattle.station_book.proofs.places.Steps.{is_open-opening, is_open-other, sets-station}
use Rattle.station_book.proofs.places.Steps.{sets-more, sets-other, same_station, opens_no_set}

-- These places are all before this one.
abbrev AllBefore : Place → List Place → Type 0
AllBefore place sts = AllByRecursion (λ st. length st < length place) sts

-- no reading: all slots are empty
no_readings : (targets : List (List ℕ))
    → slots_of targets [] ≡ replicate (length targets) empty_slot
no_readings [] = refl
no_readings (t ∷ ts) = ap (λ ss. empty_slot ∷ ss) (no_readings ts)

-- There are as many numbers as sets.
pub length_numbers : (sets : List Place) → length (numbers_in sets) ≡ length sets
length_numbers [] = refl
length_numbers (s ∷ older) = let l = length-append (numbers_in older)
    (number_at s ∷ []) in let m = length_numbers older in omega (arith, l, m)

-- after the first set
first_state : (st set : Place) (name : List ℕ) (n : ℕ) → name_at st ≡ Some name
    → number_at set ≡ Some n → IsStateOf st set [] [] name (begun n)
first_state st set name n named_so numbered = record {
  named_so = named_so;
  targets = refl;
  numbers = ap (λ o. o ∷ []) (sym numbered);
  slots = refl;
  obs = refl;
  faces = refl;
}

-- after a further set
set_state : (st set newest : Place) (older readings : List Place) (name : List ℕ) (n : ℕ)
    (e : StationState) → number_at set ≡ Some n → in_set set readings ≡ []
    → IsStateOf st newest older readings name e
    → IsStateOf st set (newest ∷ older) readings name (with_set n e)
set_state st set newest older readings name n e numbered none h = record {
  named_so = h.named_so;
  targets = h.targets;
  numbers = map-append (λ m. Some m) e.sets (n ∷ []) ∙ (λ i. h.numbers i ++ sym numbered i ∷ []);
  slots = slots;
  obs = (λ i. h.obs i ++ obs_of (last_place i) (h.slots i));
  faces = (λ i. h.faces i ++ faces_of (h.slots i));
} where
  sets : length e.sets ≡ suc (length older)
  sets = sym (length-map e.sets (λ m. Some m)) ∙ ap length h.numbers
      ∙ length_numbers (newest ∷ older)

  last_place : length e.sets - 1 ≡ length older
  last_place = omega (arith, sets)

  slots : replicate (length e.slots) empty_slot ≡ slots_of (targets_in readings)
      (in_set set readings)
  slots =
      ap (λ (k : ℕ). replicate k empty_slot)
      (ap length h.slots ∙ length-map (targets_in readings) _)
      ∙ sym (no_readings (targets_in readings)) ∙ ap (slots_of (targets_in readings)) (sym none)

-- what a station gives once its last set is closed
pub survey_is : (h : History) (st : Place) (e : List ℕ × StationState) → IsStateAt h st e
    → IsComputed st (sets_of st h) (station_readings st h) (survey_of e)
survey_is h st e k = by (sets_of st h) refl k where
  by : (sets : List Place) → sets_of st h ≡ sets → IsStateWith st sets (station_readings st h) e
      → IsComputed st (sets_of st h) (station_readings st h) (survey_of e)
  by [] s k = absurd k
  by (newest ∷ older) s k =
      let count : length e.1.sets ≡ suc (length older) = sym (length-map e.1.sets (λ n. Some n))
      ∙ ap length k.numbers ∙ length_numbers (newest ∷ older) in
      let last : length e.1.sets - 1 ≡ length older = omega (arith, count) in record {
        named_so = k.named_so;
        targets = k.targets;
        numbers = k.numbers ∙ ap numbers_in (sym s);
        obs = (λ i. k.obs i ++ obs_of (last i) (k.slots i))
            ∙ ap (obs_in (targets_in (station_readings st h)) (station_readings st h)) (sym s);
        faces = (λ i. k.faces i ++ faces_of (k.slots i))
            ∙ ap (faces_in (targets_in (station_readings st h)) (station_readings st h)) (sym s);
      }

-- A block by which the sets and readings of a station stay as they are changes nothing of it.
stays : (st : Place) (e : List ℕ × StationState) (b : GsiBlock) (past : History)
    → sets_of st (b ∷ past) ≡ sets_of st past
    → station_readings st (b ∷ past) ≡ station_readings st past → IsStateAt past st e
    → IsStateAt (b ∷ past) st e
stays st e b past sets readings h = rw (sets, readings) h

-- The same of an earlier station.
earlier_stays : (st : Place) (e : List ℕ × SurveyedStation) (b : GsiBlock) (past : History)
    → sets_of st (b ∷ past) ≡ sets_of st past
    → station_readings st (b ∷ past) ≡ station_readings st past → IsEarlierAt past st e
    → IsEarlierAt (b ∷ past) st e
earlier_stays st e b past sets readings h =
    record { named_so = h.named_so; computed = rw (sets, readings) h.computed }

-- what is kept of a station has its name
kept_name : (st : Place) (sets readings : List Place) (e : List ℕ × StationState)
    → IsStateWith st sets readings e → name_at st ≡ Some e.0
kept_name st [] readings e k = absurd k
kept_name st (set ∷ rest) readings e k = k.named_so

-- what all stations give, where the file ends here
pub all_earlier : (h : History) (sts : List Place) (s : StationStates) → AreStates h sts s
    → AreEarlier h sts (surveyed_so_far s)
all_earlier h [] None k = k
all_earlier h (st ∷ sts) (Some s) k = (
  record {
    named_so = kept_name st (sets_of st h) (station_readings st h) s.0 k.0;
    computed = survey_is h st s.0 k.0;
  },
  k.1,
)
all_earlier h sts s k = k

-- Whatever block comes, what is kept of the stations before the open one stays as it is.
older_stay : (sts : List Place) (es : List (List ℕ × SurveyedStation)) (b : GsiBlock)
    (past : History) → AllBefore (station past) sts → AreEarlier past sts es
    → AreEarlier (b ∷ past) sts es
older_stay (st ∷ sts) (e ∷ es) b past all h = (
  earlier_stays st e b past (belonging-older opens_station is_set st b past all.0)
      (belonging-older opens_station is_reading st b past all.0) h.0,
  older_stay sts es b past all.1 h.1,
)
older_stay sts es b past all h = h

-- The sets of the open station, where a set is open: the open one and those before it.
pub record HasOpenSet (past : History) : Type 0 where
  pub older : List Place
  pub sets : open_sets past ≡ opening past ∷ older
  pub before_it : AllBefore (opening past) older

places_below : (past : History) (n : ℕ) → length past ≤ n
    → AllByRecursion (λ s. length s < suc n) (places past)
places_below [] n le = tt
places_below (b ∷ past) n le = (omega arith, places_below past n (omega arith))

-- Where a set is open, it is the newest set of the open station.
pub open_set : (past : History) → is_open past ≡ true → HasOpenSet past
open_set [] e = cc
open_set (b ∷ past) e = elim (cases_Bool (is_opening b)) [
  | inl o ↦
      let n : opens_set b ≡ true = sym (is_open-opening b past o) ∙ e in
      let here : opening (b ∷ past) ≡ b ∷ past = rw o in
      record {
        older = open_sets past;
        sets = sets-more b past (no_station_at_set b n) n
            ∙ ap (λ (p : Place). p ∷ open_sets past) (sym here);
        before_it = subst (λ (p : Place). AllBefore p (open_sets past)) (sym here)
            (all_filter _ (λ place. is_set place && is_same (last opens_station (before place))
            (station past)) (places past) (places_below past (length past) (omega arith)));
      }
  | inr o ↦
      let k = open_set past (sym (is_open-other b past o) ∙ e) in
      let same : opening (b ∷ past) ≡ opening past = rw o in
      record {
        older = k.older;
        sets = sets-other b past (opens_no_station b o) (opens_no_set b o) ∙ k.sets
            ∙ ap (λ (p : Place). p ∷ k.older) (sym same);
        before_it = subst (λ (p : Place). AllBefore p k.older) (sym same) k.before_it;
      }
]

-- Where a set is open, the open station has a set.
pub open_has_set : (past : History) → is_open past ≡ true → is_empty (open_sets past) ≡ false
open_has_set past e = ap is_empty (open_set past e).sets

-- A station without a set has no reading.
no_set_no_reading : (past : History) → open_sets past ≡ []
    → station_readings (station past) past ≡ []
no_set_no_reading [] e = refl
no_set_no_reading (b ∷ past) e = elim (cases_Bool (opens_station b)) [
  | inl s ↦ belonging-fresh opens_station is_reading b past s
  | inr s ↦ elim (cases_Bool (opens_set b)) [
    | inl n ↦ let bad : (b ∷ past) ∷ open_sets past ≡ [] = sym (sets-more b past s n) ∙ e in cc
    | inr n ↦
        let none = sym (sets-other b past s n) ∙ e in elim (cases_Bool (is_reading (b ∷ past))) [
          | inl r ↦ absurd (false≢true (sym (open_has_set past
              (and_parts (has_direction b) (is_open past) r).1) ∙ ap is_empty none))
          | inr r ↦ belonging-same opens_station is_reading b past s r
              ∙ no_set_no_reading past none
        ]
  ]
]

-- A block that opens no set and is no reading changes nothing of any station.
idle : (p : GsiBlock → Bool) (kind : Place → Bool) (owner : Place) (b : GsiBlock) (past : History)
    → kind (b ∷ past) ≡ false
    → filter (λ place. kind place && is_same (last p (before place)) owner) (places (b ∷ past))
    ≡ filter (λ place. kind place && is_same (last p (before place)) owner) (places past)
idle p kind owner b past e = rw e

earlier_idle : (sts : List Place) (es : List (List ℕ × SurveyedStation)) (b : GsiBlock)
    (past : History) → opens_set b ≡ false → is_reading (b ∷ past) ≡ false
    → AreEarlier past sts es → AreEarlier (b ∷ past) sts es
earlier_idle (st ∷ sts) (e ∷ es) b past n r h = (
  earlier_stays st e b past (idle opens_station is_set st b past n)
      (idle opens_station is_reading st b past r) h.0,
  earlier_idle sts es b past n r h.1,
)
earlier_idle sts es b past n r h = h

all_idle : (sts : List Place) (s : StationStates) (b : GsiBlock) (past : History)
    → opens_set b ≡ false → is_reading (b ∷ past) ≡ false → AreStates past sts s
    → AreStates (b ∷ past) sts s
all_idle (st ∷ sts) (Some s) b past n r h = (
  stays st s.0 b past (idle opens_station is_set st b past n)
      (idle opens_station is_reading st b past r) h.0,
  earlier_idle sts s.1 b past n r h.1,
)
all_idle sts s b past n r h = h

same_stations : (b : GsiBlock) (past : History) → opens_set b ≡ false
    → stations_in (b ∷ past) ≡ stations_in past
same_stations b past n = ap (map (λ s. station (before s)))
    (ap (λ v. cond (v && is_empty (open_sets past)) ((b ∷ past) ∷ first_sets past)
    (first_sets past)) n)

-- all stations after a block of code 10 or 30, another code, or a measurement that is no reading
pub states_idle : (s : StationStates) (b : GsiBlock) (past : History) → opens_set b ≡ false
    → is_reading (b ∷ past) ≡ false → AreStates past (stations_in past) s
    → AreStates (b ∷ past) (stations_in (b ∷ past)) s
states_idle s b past n r h = subst (λ (sts : List Place). AreStates (b ∷ past) sts s)
    (sym (same_stations b past n)) (all_idle (stations_in past) s b past n r h)

-- the stations with sets: those before the open one, and the open one where it has a set
record HasOpenLast (past : History) : Type 0 where
  pub rest : List Place
  pub some_set : is_empty (open_sets past) ≡ false
  pub stations : stations_in past ≡ station past ∷ rest
  pub older : AllBefore (station past) rest

below_new : (n : ℕ) (past : History) (xs : List Place) → length (station past) ≤ n
    → AllByRecursion (λ s. length (last opens_station (before s)) ≤ length (station past)) xs
    → AllByRecursion (λ st. length st < suc n) (map (λ s. station (before s)) xs)
below_new n past [] le all = tt
below_new n past (x ∷ xs) le all =
    ((let a = all.0 in omega (arith, a, le)), below_new n past xs le all.1)

abbrev AreInOrder : History → Type 0
AreInOrder past = ((open_sets past ≡ []) × AllBefore (station past) (stations_in past))
    ⊎ HasOpenLast past

-- The stations stand in order.
in_order : (past : History) → AreInOrder past
in_order [] = inl (refl, tt)
in_order (b ∷ past) = elim (cases_Bool (opens_station b)) [
  | inl s ↦
      let here : station (b ∷ past) ≡ b ∷ past = rw s in
      let all = below_new (length past) past (first_sets past) (length-last opens_station past)
      (all_filter _ (λ place. is_set place && is_empty
      (sets_of (station (before place)) (before place))) (places past)
      (owners_in_order opens_station past)) in
      inl (
        sets-station b past s,
        subst (λ (o : Place). AllBefore o (stations_in (b ∷ past))) (sym here)
            (rw (same_stations b past (no_set_at_station b s)) all),
      )
  | inr s ↦
      let st = sym (same_station b past s) in
      let moved = λ (sts : List Place) (all : AllBefore (station past) sts).
      subst (λ (o : Place). AllBefore o sts) st all in
      elim (in_order past) [
        | inl h ↦ elim (cases_Bool (opens_set b)) [
          | inl n ↦ inr (record {
            rest = stations_in past;
            some_set = ap is_empty (sets-more b past s n);
            stations = rw (n, h.0) (ap (λ (o : Place). o ∷ stations_in past) st);
            older = moved (stations_in past) h.1;
          })
          | inr n ↦ inl (
            sets-other b past s n ∙ h.0,
            rw (same_stations b past n) (moved (stations_in past) h.1),
          )
        ]
        | inr h ↦
            let last = h.stations ∙ ap (λ (o : Place). o ∷ h.rest) st in
            elim (cases_Bool (opens_set b)) [
              | inl n ↦ inr (record {
                rest = h.rest;
                some_set = ap is_empty (sets-more b past s n);
                stations = rw (n, h.some_set) last;
                older = moved h.rest h.older;
              })
              | inr n ↦ inr (record {
                rest = h.rest;
                some_set = ap is_empty (sets-other b past s n) ∙ h.some_set;
                stations = same_stations b past n ∙ last;
                older = moved h.rest h.older;
              })
            ]
      ]
]

set_is_no_reading : (b : GsiBlock) (past : History) → opens_set b ≡ true
    → is_reading (b ∷ past) ≡ false
set_is_no_reading b past n = and_left (has_direction b) (is_open past)
    (false_from_ne_true (has_direction b) (λ s. false≢true
    (sym (or_parts _ _ (or_parts _ _ (direction_opens_nothing b s)).1).0 ∙ n)))

-- Where the open station has a set, it is the last one that has.
open_last : (past : History) → is_empty (open_sets past) ≡ false → HasOpenLast past
open_last past some = elim (in_order past) [
  | inl p ↦ absurd (false≢true (sym some ∙ ap is_empty p.0))
  | inr p ↦ p
]

-- all stations after the first set of the open one
pub states_first : (so_far : StationStates) (b : GsiBlock) (past : History) (name : List ℕ) (n : ℕ)
    → opens_station b ≡ false → opens_set b ≡ true → open_sets past ≡ []
    → name_at (station past) ≡ Some name → number b ≡ Some n → AreStates past
    (stations_in past) so_far
    → AreStates (b ∷ past) (stations_in (b ∷ past)) (with_station name n so_far)
states_first so_far b past name n s set none named_so numbered h =
    subst (λ (sts : List Place). AreStates (b ∷ past) sts (with_station name n so_far))
    (sym stations) (
      head,
      older_stay (stations_in past) (surveyed_so_far so_far) b past older
          (all_earlier past (stations_in past) so_far h),
    )
  where
    stations : stations_in (b ∷ past) ≡ station past ∷ stations_in past
    stations = ap (λ v. map (λ t. station (before t))
        (cond v ((b ∷ past) ∷ first_sets past) (first_sets past))) (λ i. set i && is_empty (none i))

    older : AllBefore (station past) (stations_in past)
    older = elim (in_order past) [
      | inl p ↦ p.1
      | inr p ↦ absurd (false≢true (sym p.some_set ∙ ap is_empty none))
    ]

    sets : sets_of (station past) (b ∷ past) ≡ (b ∷ past) ∷ []
    sets = ap (λ (st : Place). sets_of st (b ∷ past)) (sym (same_station b past s))
        ∙ sets-more b past s set ∙ ap (λ ss. (b ∷ past) ∷ ss) none

    readings : station_readings (station past) (b ∷ past) ≡ []
    readings = idle opens_station is_reading (station past) b past (set_is_no_reading b past set)
        ∙ no_set_no_reading past none

    head : IsStateAt (b ∷ past) (station past) (name, begun n)
    head = rw (sets, readings)
        (first_state (station past) (b ∷ past) name n named_so numbered)

-- a set that is still to come has no readings among those of any station
none_to_come : (b : GsiBlock) (past : History) (st : Place)
    → in_set (b ∷ past) (station_readings st past) ≡ []
none_to_come b past st = none_in_later
    (λ place. is_reading place && is_same (station (before place)) st) (b ∷ past) past (omega arith)

-- all stations after a further set of the open one
pub states_further : (x : List ℕ × StationState) (es : List (List ℕ × SurveyedStation))
    (b : GsiBlock) (past : History) (n : ℕ)
    → opens_station b ≡ false → opens_set b ≡ true → is_empty (open_sets past) ≡ false
    → number b ≡ Some n → AreStates past (stations_in past) (Some (x, es))
    → AreStates (b ∷ past) (stations_in (b ∷ past)) (Some ((x.0, with_set n x.1), es))
states_further x es b past n s set some numbered h =
    let p = open_last past some in
    let same : stations_in (b ∷ past) ≡ stations_in past = ap
    (λ v. map (λ t. station (before t))
    (cond v ((b ∷ past) ∷ first_sets past) (first_sets past))) (λ i. set i && some i) in
    let k = subst (λ (sts : List Place). AreStates past sts (Some (x, es))) p.stations h in
    subst (λ (sts : List Place). AreStates (b ∷ past) sts (Some ((x.0, with_set n x.1), es)))
    (sym (same ∙ p.stations)) (head k.0, older_stay p.rest es b past p.older k.1)
  where
    further : (sets : List Place)
        → IsStateWith (station past) sets (station_readings (station past) past) x
        → IsStateWith (station past) ((b ∷ past) ∷ sets) (station_readings (station past) past)
        (x.0, with_set n x.1)
    further [] k = absurd k
    further (newest ∷ older) k = set_state (station past) (b ∷ past) newest older
        (station_readings (station past) past) x.0 n x.1 numbered
        (none_to_come b past (station past)) k

    head : IsStateAt past (station past) x → IsStateAt (b ∷ past) (station past)
        (x.0, with_set n x.1)
    head k =
        let sets : sets_of (station past) (b ∷ past) ≡ (b ∷ past) ∷ open_sets past = ap
        (λ (st : Place). sets_of st (b ∷ past)) (sym (same_station b past s))
        ∙ sets-more b past s set in
        rw (
          sets,
          idle opens_station is_reading (station past) b past
              (set_is_no_reading b past set),
        ) (further (open_sets past) k)

-- Where the open station has a set, a station is kept.
pub newest_there : (s : StationStates) (past : History) → is_empty (open_sets past) ≡ false
    → AreStates past (stations_in past) s → HasNewest s
newest_there s past some h =
    let p = open_last past some in
    of_first p.rest s (subst (λ (sts : List Place). AreStates past sts s) p.stations h)
  where
    of_first : (sts : List Place) (es : StationStates) → AreStates past (station past ∷ sts) es
        → HasNewest es
    of_first sts None k = absurd k
    of_first sts (Some e) k = record { newest = e.0; older = e.1; is = refl }

in_none : (b : GsiBlock) (past : History) (readings older : List Place)
    → AllBefore (opening past) older
    → IsInNone (b ∷ past) readings older
in_none b past readings [] all = tt
in_none b past readings (s ∷ older) all = (
  ap (λ v. cond v ((b ∷ past) ∷ in_set s readings) (in_set s readings))
      (ne_eqb (length (opening past)) (length s)
      (λ e. let a = all.0 in absurd (omega (arith, a, e)))),
  in_none b past readings older all.1,
)

-- all stations after a reading
pub states_reading : (x : List ℕ × StationState) (es : List (List ℕ × SurveyedStation))
    (b : GsiBlock) (past : History) (s : Reading) → is_opening b ≡ false → is_reading (b ∷ past) ≡ true → is_open past ≡ true
    → Says s (b ∷ past) → AreStates past (stations_in past) (Some (x, es))
    → AreStates (b ∷ past) (stations_in (b ∷ past)) (Some ((x.0, with_reading s x.1), es))
states_reading x es b past s o reading now says h =
    let p = open_last past (open_has_set past now) in
    let k = subst (λ (sts : List Place). AreStates past sts (Some (x, es))) p.stations h in
    subst (λ (sts : List Place). AreStates (b ∷ past) sts (Some ((x.0, with_reading s x.1), es)))
    (sym (same_stations b past no_set ∙ p.stations))
    (head k.0, older_stay p.rest es b past p.older k.1)
  where
    no_station : opens_station b ≡ false
    no_station = opens_no_station b o

    no_set : opens_set b ≡ false
    no_set = opens_no_set b o

    set : HasOpenSet past
    set = open_set past now

    mine : (readings : List Place)
        → in_set (opening past) ((b ∷ past) ∷ readings) ≡ (b ∷ past) ∷ in_set
        (opening past) readings
    mine readings = ap (λ v. cond v ((b ∷ past) ∷ in_set (opening past) readings)
        (in_set (opening past) readings))
        (eq-eqb (length (opening past)) (length (opening past)) refl)

    head : IsStateAt past (station past) x
        → IsStateAt (b ∷ past) (station past) (x.0, with_reading s x.1)
    head k =
        let sets : sets_of (station past) (b ∷ past) ≡ opening past ∷ set.older = ap
        (λ (st : Place). sets_of st (b ∷ past)) (sym (same_station b past no_station))
        ∙ sets-other b past no_station no_set ∙ set.sets in
        let readings : station_readings (station past) (b ∷ past) ≡ (b ∷ past) ∷ station_readings
        (station past) past = ap (λ (st : Place). station_readings st (b ∷ past))
        (sym (same_station b past no_station))
        ∙ belonging-more opens_station is_reading b past no_station reading in
        rw (sets, readings)
        (reading_state (station past) (opening past) set.older
        (station_readings (station past) past)
        (b ∷ past) x.0 x.1 s says (mine (station_readings (station past) past))
        (in_none b past (station_readings (station past) past) set.older set.before_it)
        (rw set.sets at k))

-- what is kept of the open station, where it has a set
pub record HasOpenState (past : History) (so_far : StationStates) : Type 0 where
  pub newest : Place
  pub older : List Place
  pub sets : open_sets past ≡ newest ∷ older
  pub name : List ℕ
  pub is : IsStateOf (station past) newest older (station_readings (station past) past) name
      (last_of so_far)

-- Where the open station has a set, the last state is its own.
pub open_state : (so_far : StationStates) (past : History) → is_empty (open_sets past) ≡ false
    → AreStates past (stations_in past) so_far → HasOpenState past so_far
open_state so_far past some h =
    let p = open_last past some in
    of_newest p.rest so_far (subst (λ (sts : List Place). AreStates past sts so_far) p.stations h)
  where
    of_sets : (x : List ℕ × StationState) (es : List (List ℕ × SurveyedStation))
        (sets : List Place)
        → open_sets past ≡ sets
        → IsStateWith (station past) sets (station_readings (station past) past) x
        → HasOpenState past (Some (x, es))
    of_sets x es [] s k = absurd k
    of_sets x es (set ∷ rest) s k =
        record { newest = set; older = rest; sets = s; name = x.0; is = k }

    of_newest : (sts : List Place) (es : StationStates) → AreStates past (station past ∷ sts) es
        → HasOpenState past es
    of_newest sts None k = absurd k
    of_newest sts (Some y) k = of_sets y.0 y.1 (open_sets past) refl k.0
