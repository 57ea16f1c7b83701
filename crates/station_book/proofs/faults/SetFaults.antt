-- The fault of a block of code 20 by what is kept is its fault by the blocks before it.
use Rattle.std.proofs.Common.{◌≡◌, ℕ, suc, Bool, true, false, leb, eqb, ◌&&◌, ◌||◌, List, [], ◌∷◌}
use Rattle.std.proofs.Common.{◌++◌, length, map, Option, Some, None, is_none, refl, sym, ap, ◌∙◌}
use Rattle.std.proofs.Common.{inl, inr}
use Rattle.std.specs.List.{list_any}
use Rattle.std.proofs.lemmas.Bool.{cases_Bool, false≢true}
use Rattle.std.proofs.lemmas.List.{length-map}
use Rattle.std.proofs.lemmas.List.Folds.{list_any-append}
use Rattle.station_book.specs.declared.fault.BookKind.{BookKind}
use Rattle.station_book.specs.declared.fault.BookKind.TheVariants as kinds
use Rattle.station_book.specs.Limits.{FaceLimits}
use Rattle.station_book.specs.declared.role.Role.TheVariants as roles
use Rattle.station_book.specs.declared.stage.Stage.{Stage}
use Rattle.station_book.specs.declared.stage.Stage.TheVariants.{Outside, Station, BetweenSets}
use Rattle.station_book.specs.declared.stage.Stage.TheVariants.{InSet}
use Rattle.station_book.specs.Faults.{when, first_of, open_sets, had_sets, same_name, same_number}
use Rattle.station_book.specs.Faults.{has_set_number, end_faults, set_faults, fault_at_end}
use Rattle.station_book.specs.Faults.{IsWithoutFault, name_at}
use Rattle.station_book.specs.State.{then_fault}
use Rattle.station_book.specs.Stations.{SurveyedStation}
use Rattle.station_book.specs.StationStates.{StationStates, last_of, is_known, first_set_faults}
use Rattle.station_book.specs.StationStates.{more_set_faults, is_among, count_of, surveyed_so_far}
use Rattle.station_book.specs.State as states
use Rattle.gsi_word.specs.Blocks.{GsiBlock}
use Rattle.station_book.specs.Blocks.{opens_station, opens_set, has_two, number}
use Rattle.station_book.specs.Places.{number_at, History, Place, before, station, is_empty}
use Rattle.station_book.specs.Places.{first_sets}
use Rattle.station_book.specs.StateOfHistory.{numbers_in, AreEarlier, AreStates, IsStage}
use Rattle.station_book.specs.StateOfHistory.{stations_in}
use Rattle.station_book.specs.StandsFor.{StandsFor}
use Rattle.station_book.proofs.lists.Elements.{same_bytes}
use Rattle.station_book.proofs.places.Steps.{sets-other}
use Rattle.station_book.proofs.readings.CleanBlocks.{clean_set}
use Rattle.station_book.proofs.places.StationSets.{had_sets_by_names}
use Rattle.station_book.proofs.histories.StateHistories.{open_has_set, length_numbers, HasOpenState}
use Rattle.station_book.proofs.histories.StateHistories.{open_state, all_earlier}
use Rattle.station_book.proofs.names.FirstOfName.{no_had_sets}
use Rattle.station_book.proofs.histories.FileEnd.{same_end}
use Rattle.station_book.proofs.faults.FaultOrder.{first_append}
use Rattle.station_book.proofs.states.NewestState.{or_turned}

-- In a file without fault a set has a station.
set_has_station : (limits : FaceLimits) (past : History) → IsWithoutFault limits past
    → is_empty (open_sets past) ≡ false → is_empty (station past) ≡ false
set_has_station limits [] w e = absurd (false≢true (sym e))
set_has_station limits (b ∷ past) w e = elim (cases_Bool (opens_station b)) [
  | inl s ↦ rw s refl
  | inr s ↦ rw s (elim (cases_Bool (opens_set b)) [
    | inl n ↦ (clean_set limits past b n w.0).of_station
    | inr n ↦ set_has_station limits past w.1 (sym (ap is_empty (sets-other b past s n)) ∙ e)
  ])
]

any_map : {X Y : Type 0} (p : Y → Bool) (f : X → Y) (xs : List X)
    → list_any p (map f xs) ≡ list_any (λ x. p (f x)) xs
any_map p f [] = refl
any_map p f (x ∷ xs) = ap (λ v. p (f x) || v) (any_map p f xs)

any_last : {X : Type 0} (p : X → Bool) (xs : List X) (x : X)
    → list_any p (xs ++ x ∷ []) ≡ (p x || list_any p xs)
any_last p xs x = list_any-append p xs (x ∷ []) ∙ or_turned (list_any p xs) (p x)

-- a station with sets has a name exactly where one that is kept has it
known_names : (past : History) (name : List ℕ) (sts : List Place)
    (es : List (List ℕ × SurveyedStation)) → AreEarlier past sts es
    → list_any (λ st. same_name (name_at st) (Some name)) sts ≡ is_among name es
known_names past name [] [] h = refl
known_names past name (st ∷ sts) (e ∷ es) h =
    λ i. (ap (λ n. same_name n (Some name))
    h.0.named_so
    ∙ same_bytes e.0 name) i || known_names past name sts es h.1 i
known_names past name sts es h = absurd h

one_each : (past : History) (sts : List Place) (es : List (List ℕ × SurveyedStation))
    → AreEarlier past sts es → length sts ≡ length es
one_each past [] [] h = refl
one_each past (st ∷ sts) (e ∷ es) h = ap suc (one_each past sts es h.1)
one_each past sts es h = absurd h

-- as many stations have sets as are kept
count_stations : (so_far : StationStates) (past : History) → AreStates past
    (stations_in past) so_far
    → length (first_sets past) ≡ count_of so_far
count_stations so_far past h = sym (length-map (first_sets past) (λ s. station (before s)))
    ∙ one_each past (stations_in past) (surveyed_so_far so_far)
    (all_earlier past (stations_in past) so_far h)

-- StationTwice before the first set of a station
known_station : (so_far : StationStates) (past : History) (name : List ℕ) → open_sets past ≡ []
    → name_at (station past) ≡ Some name → AreStates past (stations_in past) so_far
    → had_sets past ≡ is_known name so_far
known_station so_far past name none is h =
    had_sets_by_names past none
    ∙ (λ i. list_any (λ s. same_name (name_at (station (before s))) (is i)) (first_sets past))
    ∙ sym (any_map (λ st. same_name (name_at st) (Some name)) (λ s. station (before s))
    (first_sets past)) ∙ known_names past name (stations_in past) (surveyed_so_far so_far)
    (all_earlier past (stations_in past) so_far h)

-- the numbers of a station's sets
any_numbers : (n : ℕ) (sets : List Place)
    → list_any (λ s. same_number (number_at s) (Some n)) sets ≡ list_any
    (λ m. same_number m (Some n)) (numbers_in sets)
any_numbers n [] = refl
any_numbers n (s ∷ older) = ap (λ v. same_number (number_at s) (Some n) || v) (any_numbers n older)
    ∙ sym (any_last (λ m. same_number m (Some n)) (numbers_in older) (number_at s))

kept_numbers : (past : History) (so_far : StationStates) (e : HasOpenState past so_far)
    → numbers_in (open_sets past) ≡ map (λ n. Some n) (last_of so_far).sets
kept_numbers past so_far e = ap numbers_in e.sets ∙ sym e.is.numbers

known_number : (past : History) (so_far : StationStates) (n : ℕ) → HasOpenState past so_far
    → has_set_number (Some n) past ≡ list_any (λ m. eqb m n) (last_of so_far).sets
known_number past so_far n e =
    any_numbers n (open_sets past)
    ∙ ap (list_any (λ m. same_number m (Some n))) (kept_numbers past so_far e)
    ∙ any_map (λ m. same_number m (Some n)) (λ m. Some m) (last_of so_far).sets

count_sets : (past : History) (so_far : StationStates) → HasOpenState past so_far
    → length (open_sets past) ≡ length (last_of so_far).sets
count_sets past so_far e = sym (length_numbers (open_sets past))
    ∙ ap length (kept_numbers past so_far e) ∙ length-map (last_of so_far).sets (λ n. Some n)

-- the tests of a block of code 20, but for that of its word 42
abbrev tests : Bool → Bool → Bool → Bool → Bool → Bool → List (Option BookKind)
tests outside unnumbered had same many most =
    when outside kinds.SetOutside
    ∷ when unnumbered kinds.SetNumber
    ∷ when had kinds.StationTwice
    ∷ when same kinds.SetTwice
    ∷ when many kinds.TooManyStations
    ∷ when most kinds.TooManySets
    ∷ []

first_set_tests : (had many : Bool)
    → first_of (when had kinds.StationTwice ∷ when many kinds.TooManyStations ∷ []) ≡ first_of
    (tests false false had false many false)
first_set_tests false true = refl
first_set_tests had many = refl

more_set_tests : (same most : Bool)
    → first_of (when same kinds.SetTwice ∷ when most kinds.TooManySets ∷ []) ≡ first_of
    (tests false false false same false most)
more_set_tests false true = refl
more_set_tests same most = refl

abbrev opening_tests : Option ℕ → History → List (Option BookKind)
opening_tests n past =
    tests (is_empty (station past)) (is_none n) (had_sets past) (has_set_number n past)
    (is_empty (open_sets past) && leb 1000 (length (first_sets past)))
    (leb 40 (length (open_sets past)))

-- the first set of a station
first_opening : (so_far : StationStates) (past : History) (name : List ℕ) (n : ℕ)
    → is_empty (station past) ≡ false → name_at (station past) ≡ Some name → open_sets past ≡ []
    → AreStates past (stations_in past) so_far
    → first_of (first_set_faults name so_far) ≡ first_of (opening_tests (Some n) past)
first_opening so_far past name n inside is none h =
    let had = known_station so_far past name none is h in
    let count = count_stations so_far past h in
    first_set_tests (is_known name so_far) (leb 1000 (count_of so_far))
    ∙ sym (λ i. first_of (tests (inside i) false (had i)
    (list_any (λ s. same_number (number_at s) (Some n)) (none i))
    (is_empty (none i) && leb 1000 (count i)) (leb 40 (length (none i)))))

-- a further set of a station
further_opening : (limits : FaceLimits) (so_far : StationStates) (past : History) (n : ℕ)
    → IsWithoutFault limits past → is_empty (open_sets past) ≡ false
    → AreStates past (stations_in past) so_far
    → first_of (more_set_faults (last_of so_far) n) ≡ first_of (opening_tests (Some n) past)
further_opening limits so_far past n w some h =
    let e = open_state so_far past some h in
    let inside = set_has_station limits past w some in
    let had = no_had_sets limits past w some in
    let same = known_number past so_far n e in
    let count = count_sets past so_far e in
    more_set_tests (list_any (λ m. eqb m n) (last_of so_far).sets)
    (leb 40 (length (last_of so_far).sets))
    ∙ sym (λ i. first_of (tests (inside i) false (had i) (same i)
    (some i && leb 1000 (length (first_sets past))) (leb 40 (count i))))

-- no number
no_number : (past : History) → is_empty (station past) ≡ false
    → Some kinds.SetNumber ≡ first_of (opening_tests None past)
no_number past inside =
    sym (λ i. first_of (tests (inside i) true (had_sets past) (has_set_number None past)
    (is_empty (open_sets past) && leb 1000 (length (first_sets past)))
    (leb 40 (length (open_sets past)))))

-- a set, by where it opens
same_opening : (limits : FaceLimits) (stage : Stage) (so_far : StationStates) (past : History)
    (n : Option ℕ) → IsWithoutFault limits past → IsStage stage past
    → AreStates past (stations_in past) so_far
    → states.opening_fault stage so_far n ≡ first_of (opening_tests n past)
same_opening limits Outside so_far past n w g h =
    sym (λ i. first_of (tests (is_empty (g.0 i)) (is_none n) (had_sets past) (has_set_number n past)
    (is_empty (open_sets past) && leb 1000 (length (first_sets past)))
    (leb 40 (length (open_sets past)))))
same_opening limits (Station name) so_far past None w g h = no_number past g.0
same_opening limits (Station name) so_far past
    (Some n) w g h = first_opening so_far past name n g.0 g.1 g.2 h
same_opening limits BetweenSets so_far past None w g h = no_number past
    (set_has_station limits past w g.0)
same_opening limits BetweenSets so_far past
    (Some n) w g h = further_opening limits so_far past n w g.0 h
same_opening limits InSet so_far past None w g h = no_number past
    (set_has_station limits past w (open_has_set past g))
same_opening limits InSet so_far past (Some n) w g h = further_opening limits so_far past n w
    (open_has_set past g) h

-- the faults of a set, its word 42 first
set_tests : (past : History) (b : GsiBlock)
    → first_of (set_faults past b) ≡ then_fault (when (has_two 42 b) (kinds.WordTwice 42))
    (first_of (opening_tests (number b) past))
set_tests past b = first_append (when (has_two 42 b) (kinds.WordTwice 42) ∷ [])
    (opening_tests (number b) past)
    ∙ ap (λ o. then_fault o (first_of (opening_tests (number b) past)))
    (one (when (has_two 42 b) (kinds.WordTwice 42))) where
      one : (o : Option BookKind) → first_of (o ∷ []) ≡ o
      one None = refl
      one (Some k) = refl

-- THE LAW of code 20: the fault by what is kept is the fault by the blocks before
pub same_set_fault : (k : states.State) (b : GsiBlock) (past : History) → StandsFor k.limits k past
    → states.fault_as roles.Set k b ≡ first_of (end_faults past ++ set_faults past b)
unfolding fault_at_end
same_set_fault k b past h =
    let opens = same_opening k.limits k.stage k.stations past
    (number b) h.clean h.stage h.stations in
    (λ i. then_fault (same_end k past h i) (then_fault
    (when (has_two 42 b) (kinds.WordTwice 42)) (opens i)))
    ∙ (λ i. then_fault (fault_at_end past) (sym (set_tests past b) i))
    ∙ sym (first_append (end_faults past) (set_faults past b))
