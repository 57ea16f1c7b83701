-- No two stations of a file without fault have one name.
use Rattle.std.proofs.Common.{◌≡◌, ◌≢◌, ◌↔◌, ℕ, arith, Bool, true, false, List, [], ◌∷◌, ◌++◌, map}
use Rattle.std.proofs.Common.{reverse, Some, refl, sym, ap, ◌∙◌, inl, inr, subst, suc, cond, None}
use Rattle.std.specs.Str.{bytes_eq}
use Rattle.std.specs.List.{list_any, AllByRecursion, AllZip, AllPairs, Contains}
use Rattle.std.proofs.lemmas.List.Elements.{All-from_recursion}
use Rattle.std.proofs.lemmas.List.Kept.{AllPairs-cons}
use Rattle.std.proofs.lemmas.Bool.{cases_Bool, or_parts, false≢true, false_from_ne_true}
use Rattle.std.proofs.lemmas.List.{map-append, reverse-append}
use Rattle.std.proofs.lemmas.Slice.Eq.{bytes_eq-Decides}
use Rattle.station_book.specs.Limits.{FaceLimits}
use Rattle.station_book.specs.Blocks.{opens_set}
use Rattle.station_book.specs.Places.{History, Place, before, station, is_empty, first_sets}
use Rattle.station_book.specs.Faults.{open_sets, same_name, name_at, IsWithoutFault}
use Rattle.station_book.specs.Stations.{SurveyedStation, IsSurveyed, AreStations, stations_of}
use Rattle.station_book.specs.Stations.{station_named}
use Rattle.station_book.proofs.lists.Elements.{In, all_in, find_some, in_contains, contains_in}
use Rattle.station_book.proofs.lists.Elements.{same_bytes}
use Rattle.station_book.proofs.readings.CleanBlocks.{clean_set}
use Rattle.station_book.proofs.places.StationSets.{had_sets_by_names}
use Rattle.std.specs.Map.{values_of, lookup}
use Rattle.adjust_kernel.specs.Names.{IsName}
use Rattle.station_book.specs.StationStates.{AreByName}
use Rattle.station_book.proofs.lists.NameMaps.{name_eq, names_by_bytes}

module _ {X : Type 0} where
  -- R holds of each element and each later one
  abbrev pub Pairwise : (X → X → Type 0) → List X → Type 0
  Pairwise R [] = Unit {0}
  Pairwise R (x ∷ xs) = AllByRecursion (R x) xs × Pairwise R xs

  all_snoc : (P : X → Type 0) (xs : List X) (z : X) → AllByRecursion P xs → P z
      → AllByRecursion P (xs ++ z ∷ [])
  all_snoc P [] z all h = (h, tt)
  all_snoc P (x ∷ xs) z all h = (all.0, all_snoc P xs z all.1 h)

  -- What holds of each element of a list holds of each of its reverse.
  pub all_reverse : (P : X → Type 0) (xs : List X) → AllByRecursion P xs
      → AllByRecursion P (reverse xs)
  all_reverse P [] all = tt
  all_reverse P (x ∷ xs) all = subst (AllByRecursion P) (sym (reverse-append (x ∷ []) xs))
      (all_snoc P (reverse xs) x (all_reverse P xs all.1) all.0)

  -- A new last element, of which R holds with each other, may join.
  pub pairwise_snoc : (R : X → X → Type 0) (xs : List X) (z : X) → Pairwise R xs
      → AllByRecursion (λ x. R x z) xs → Pairwise R (xs ++ z ∷ [])
  pairwise_snoc R [] z pairs all = (tt, tt)
  pairwise_snoc R (x ∷ xs) z pairs all =
      (all_snoc (R x) xs z pairs.0 all.0, pairwise_snoc R xs z pairs.1 all.1)

  -- Where a test finds no element, each fails it.
  pub each_false : (p : X → Bool) (xs : List X) → list_any p xs ≡ false
      → AllByRecursion (λ x. p x ≡ false) xs
  each_false p [] e = tt
  each_false p (x ∷ xs) e =
      let parts = or_parts (p x) (list_any p xs) e in (parts.0, each_false p xs parts.1)

all_map : {X Y : Type 0} (P : Y → Type 0) (f : X → Y) (xs : List X)
    → AllByRecursion (λ x. P (f x)) xs → AllByRecursion P (map f xs)
all_map P f [] all = tt
all_map P f (x ∷ xs) all = (all.0, all_map P f xs all.1)

-- The stations have different names, so each is the first of its name.
abbrev pub AreApart : Place → Place → Type 0
AreApart older newer = same_name (name_at older) (name_at newer) ≡ false

empty_list : {X : Type 0} (xs : List X) → is_empty xs ≡ true → xs ≡ []
empty_list [] e = refl
empty_list (x ∷ xs) e = cc

-- The stations of a file without fault have different names.
pub names_differ : (limits : FaceLimits) (h : History) → IsWithoutFault limits h
    → Pairwise AreApart (stations_of h)
names_differ limits [] clean = tt
names_differ limits (b ∷ past) clean =
    let older = names_differ limits past clean.1 in elim (cases_Bool (opens_set b)) [
      | inr s ↦ rw s older
      | inl s ↦ elim (cases_Bool (is_empty (open_sets past))) [
        | inr n ↦ rw (s, n) older
        | inl n ↦
            let others =
            each_false (λ s. same_name (name_at (station (before s))) (name_at (station past)))
            (first_sets past) (sym (had_sets_by_names past (empty_list (open_sets past) n))
            ∙ (clean_set limits past b s clean.0).first_time) in
            rw (
              s,
              n,
              reverse-append ((b ∷ past) ∷ []) (first_sets past),
              map-append
                  (λ s. station (before s)) (reverse (first_sets past)) ((b ∷ past) ∷ []),
            )
            (pairwise_snoc AreApart (stations_of past) (station past) older
            (all_map (λ st. AreApart st (station past)) (λ s. station (before s))
            (reverse (first_sets past))
            (all_reverse (λ s. AreApart (station (before s)) (station past)) (first_sets past)
            others)))
      ]
    ]

-- Stations that were surveyed at such places have different names.
abbrev HaveTwoNames : SurveyedStation → SurveyedStation → Type 0
HaveTwoNames a b = a.station.name ≢ b.station.name

apart_from : (limits : FaceLimits) (h : History) (st : Place) (s : SurveyedStation)
    (sts : List Place) (ss : List SurveyedStation)
    → IsSurveyed limits h st s → AllByRecursion (AreApart st) sts
    → AllZip (IsSurveyed limits h) sts ss → AllByRecursion (HaveTwoNames s) ss
apart_from limits h st s [] [] own all zip = tt
apart_from limits h st s (x ∷ xs) (y ∷ ys) own all zip = (
  λ e. false≢true (sym all.0 ∙ (λ i. same_name (own.name i) (zip.0.name i))
      ∙ (bytes_eq-Decides s.station.name y.station.name).1 e),
  apart_from limits h st s xs ys own all.1 zip.1,
)
apart_from limits h st s xs ys own all zip = absurd zip

two_names : (limits : FaceLimits) (h : History) (sts : List Place) (ss : List SurveyedStation)
    → Pairwise AreApart sts → AllZip (IsSurveyed limits h) sts ss → Pairwise HaveTwoNames ss
two_names limits h [] [] pairs zip = tt
two_names limits h (x ∷ xs) (y ∷ ys) pairs zip =
    (apart_from limits h x y xs ys zip.0 pairs.0 zip.1, two_names limits h xs ys pairs.1 zip.1)
two_names limits h xs ys pairs zip = absurd zip

-- What holds of each element with each later one holds of each two.
pub all_pairs : {X : Type 0} (R : X → X → Type 0) (xs : List X) → Pairwise R xs → AllPairs R xs
all_pairs R [] pairs = λ i j d before inside. absurd (omega arith)
all_pairs R (x ∷ xs) pairs = AllPairs-cons R x xs (All-from_recursion (R x) xs pairs.0)
    (all_pairs R xs pairs.1)

different_stations : (limits : FaceLimits) (h : History) (stations : List SurveyedStation)
    → IsWithoutFault limits h → AreStations limits h stations → Pairwise HaveTwoNames stations
unfolding AreStations
different_stations limits h stations clean are =
    two_names limits h (stations_of h) stations (names_differ limits h clean) are

-- No two stations of a file without fault have one name.
pub different_names : (limits : FaceLimits) (h : History) (stations : List SurveyedStation)
    → IsWithoutFault limits h → AreStations limits h stations → AllPairs HaveTwoNames stations
different_names limits h stations clean are =
    all_pairs HaveTwoNames stations (different_stations limits h stations clean are)

-- Of stations with different names, the one that is found by its name is the one that has it.
named_only : (name : List ℕ) (s : SurveyedStation) (ss : List SurveyedStation)
    → Pairwise HaveTwoNames ss → In s ss → s.station.name ≡ name → station_named name ss ≡ Some s
named_only name s [] pairs listed e = absurd listed
named_only name s (x ∷ xs) pairs (inl here) e =
    let t : bytes_eq x.station.name name ≡ true = (bytes_eq-Decides x.station.name name).1
    (ap (λ (y : SurveyedStation). y.station.name) (sym here) ∙ e) in
    rw t (ap (λ (y : SurveyedStation). Some y) (sym here))
named_only name s (x ∷ xs) pairs (inr later) e = elim (cases_Bool (bytes_eq x.station.name name)) [
  | inl t ↦ absurd (all_in (HaveTwoNames x) s xs pairs.0 later
      ((bytes_eq-Decides x.station.name name).0 t ∙ sym e))
  | inr f ↦ rw f (named_only name s xs pairs.1 later e)
]

-- The station that is found by a name is the one station that has this name.
pub its_station : (limits : FaceLimits) (h : History) (stations : List SurveyedStation)
    (name : List ℕ) (s : SurveyedStation) → IsWithoutFault limits h → AreStations limits h stations
    → (station_named name stations ≡ Some s) ↔ (Contains stations s × (s.station.name ≡ name))
its_station limits h stations name s clean are = (there, back) where
  there : station_named name stations ≡ Some s → Contains stations s × (s.station.name ≡ name)
  there e =
      let found = find_some (λ s. bytes_eq s.station.name name) s stations e in
      (contains_in s stations found.0, (bytes_eq-Decides s.station.name name).0 found.1)

  back : Contains stations s × (s.station.name ≡ name) → station_named name stations ≡ Some s
  back c = named_only name s stations (different_stations limits h stations clean are)
      (in_contains s stations c.0) c.1

rest_by_name : (e : List ℕ × SurveyedStation) (es : List (List ℕ × SurveyedStation))
    → AreByName (e ∷ es) → AreByName es
rest_by_name e es h k d lt = h (suc k) d (omega (arith, lt))

-- the map finds the first station of the name
pub found_named : (name : List ℕ) (es : List (List ℕ × SurveyedStation)) → AreByName es
    → lookup (name_eq name) es ≡ station_named name (values_of es)
found_named name [] h = refl
found_named name (e ∷ es) h =
    let same : name_eq name e.0 ≡ bytes_eq e.1.station.name name = names_by_bytes name e.0
    ∙ same_bytes name e.0 ∙ ap (λ (n : List ℕ). bytes_eq n name) (h 0 e (omega arith)).1 in
    λ i. cond (same i) (Some e.1) (found_named name es (rest_by_name e es h) i)

-- what is no name is that of no station
pub none_named : (name : List ℕ) (es : List (List ℕ × SurveyedStation)) → AreByName es
    → (IsName name → ⊥) → station_named name (values_of es) ≡ None
none_named name [] h never = refl
none_named name (e ∷ es) h never =
    let own = h 0 e (omega arith) in
    rw (false_from_ne_true (bytes_eq e.1.station.name name) (λ is. never
    (subst IsName (own.1 ∙ (bytes_eq-Decides e.1.station.name name).0 is) own.0)))
    (none_named name es (rest_by_name e es h) never)
