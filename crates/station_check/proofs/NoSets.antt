-- A file that has no stations has no code 20.
use Rattle.std.proofs.Common.{◌≡◌, ℕ, Bool, true, false, cond, ◌||◌, ◌&&◌, List, [], ◌∷◌, length}
use Rattle.std.proofs.Common.{refl, sym, ap, ◌∙◌, Option, Some, None, arith}
use Rattle.std.specs.Prelude.{filter, reverse, IfSome, ◌<◌}
use Rattle.std.specs.List.{AllZip, list_any, count_by}
use Rattle.std.specs.Option.{unwrap_or}
use Rattle.std.proofs.lemmas.Bool.{false≢true}
use Rattle.std.proofs.lemmas.List.Sums.{count_by-le-length}
use Rattle.std.proofs.lemmas.List.{length-map, length-reverse, nil_from_length}
use Rattle.station_book.specs.Blocks.{opens_set, has_direction}
use Rattle.station_book.specs.Limits.{FaceLimits}
use Rattle.station_book.specs.Places.{History, Place, places, is_set, is_same, is_empty, first_sets}
use Rattle.station_book.specs.Places.{sets_of, station, before, last}
use Rattle.station_book.specs.Blocks.{opens_station}
use Rattle.station_book.specs.Stations.{SurveyedStation, AreStations, IsSurveyed, stations_of}
use Rattle.station_check.specs.Counting.{CountsReadings}
use Rattle.station_check.specs.ListNotes.{unchecked_in}

-- Where a test adds an element or not and there is none, it did not add it.
none_added : {X : Type 0} (b : Bool) (x : X) (xs : List X) → cond b (x ∷ xs) xs ≡ []
    → (b ≡ false) × (xs ≡ [])
none_added true x xs e = absurd cc
none_added false x xs e = (refl, e)

neither : (a b : Bool) → (a || b) ≡ false → (a ≡ false) × (b ≡ false)
neither true b e = absurd (false≢true (sym e))
neither false b e = (refl, e)

-- Where no block opens a set, no place is one of a set.
no_places : (past : History) (q : Place → Bool) → list_any opens_set past ≡ false
    → filter (λ place. is_set place && q place) (places past) ≡ []
no_places [] q e = refl
no_places (b ∷ past) q e =
    let both = neither (opens_set b) (list_any opens_set past) e in
    ap (λ (x : Bool). cond (x && q (b ∷ past))
    ((b ∷ past) ∷ filter (λ place. is_set place && q place) (places past))
    (filter (λ place. is_set place && q place) (places past))) both.0
    ∙ no_places past q both.1

and_true : (a : Bool) → (a && true) ≡ a
and_true true = refl
and_true false = refl

-- Where no station has a first set, no block opens a set.
no_sets : (h : History) → first_sets h ≡ [] → list_any opens_set h ≡ false
no_sets [] e = refl
no_sets (b ∷ past) e =
    let both = none_added (opens_set b && is_empty (sets_of (station past) past)) (b ∷ past)
    (first_sets past) e in
    let none = no_sets past both.1 in
    let empty : sets_of (station past) past ≡ [] =
    no_places past (λ place. is_same (last opens_station (before place)) (station past)) none in
    let here : opens_set b ≡ false =
    sym (and_true (opens_set b))
    ∙ ap (λ (xs : List Place). opens_set b && is_empty xs) (sym empty) ∙ both.0 in
    ap (λ (x : Bool). x || list_any opens_set past) here ∙ none

none_beside : {A B : Type 0} (R : A → B → Type 0) (xs : List A) → AllZip R xs [] → xs ≡ []
none_beside R [] h = refl
none_beside R (x ∷ xs) h = absurd h

-- So it is of a file that has no stations.
pub no_set_opened : (limits : FaceLimits) (h : History) → AreStations limits h []
    → list_any opens_set h ≡ false
unfolding AreStations
no_set_opened limits h are =
    let none = none_beside (IsSurveyed limits h) (stations_of h) are in
    no_sets h (nil_from_length (first_sets h)
    (sym (length-reverse (first_sets h))
    ∙ sym (length-map (reverse (first_sets h)) (λ s. station (before s)))
    ∙ ap (λ (xs : List Place). length xs) none))

-- Of a file without stations all was counted.
pub all_counted : (limits : FaceLimits) (h : History) (readings : Option ℕ)
    → AreStations limits h [] → CountsReadings h readings
    → unwrap_or readings 0 ≡ count_by has_direction h
all_counted limits h (Some count) are counts = counts
all_counted limits h None are counts =
    absurd (false≢true (sym (no_set_opened limits h are) ∙ counts))

-- How many readings went unchecked, by how many stations there are.
pub unchecked_without : (limits : FaceLimits) (h : History) (stations : List SurveyedStation)
    (readings : Option ℕ) → length stations ≡ 0 → AreStations limits h stations
    → CountsReadings h readings → unwrap_or readings 0 ≡ unchecked_in stations h
unchecked_without limits h [] readings e are counts = all_counted limits h readings are counts
unchecked_without limits h (s ∷ stations) readings e are counts = absurd cc

-- Fewer blocks than a bound have fewer measurements with a direction.
pub few_readings : (past : History) (readings : Option ℕ) → CountsReadings past readings
    → length past < 16777216 → IfSome readings (λ count. count < 16777216)
few_readings past None counts lt = tt
few_readings past (Some count) counts lt =
    let most = count_by-le-length has_direction past in omega (arith, counts, most, lt)
