-- The newest of the stations that are kept, and the earlier ones: the code has the oldest of these
-- first, and what is kept has the newest.
use Rattle.std.proofs.Common.{◌≡◌, ℕ, Bool, true, false, ◌||◌, List, [], ◌∷◌, ◌++◌, reverse}
use Rattle.std.proofs.Common.{Option, Some, refl, sym, ap, ◌∙◌, subst}
use Rattle.std.specs.List.{list_any}
use Rattle.std.specs.Str.{bytes_eq}
use Rattle.std.specs.Map.{values_of}
use Rattle.std.proofs.lemmas.List.{reverse-append, reverse-reverse}
use Rattle.std.proofs.lemmas.List.Elements.{All-append, All-cons, All-nil}
use Rattle.std.proofs.lemmas.List.Folds.{list_any-append}
use Rattle.adjust_kernel.specs.Names.{IsName}
use Rattle.station_book.specs.Stations.{SurveyedStation}
use Rattle.station_book.specs.StationState.{StationState, begun}
use Rattle.station_book.specs.StationStates.{StationStates, AreByName, IsAfter, states_of}
use Rattle.station_book.specs.StationStates.{with_station, is_known, is_among, survey_of, surveys_of}
use Rattle.station_book.specs.StationStates.{surveyed_so_far}

-- the newest of these stations, and those before it
pub record HasNewest (s : StationStates) : Type 0 where
  pub newest : List ℕ × StationState
  pub older : List (List ℕ × SurveyedStation)
  pub is : s ≡ Some (newest, older)

-- Two tests give the same whichever comes first.
pub or_turned : (a b : Bool) → (a || (b || false)) ≡ (b || a)
or_turned true true = refl
or_turned a b = refl

module _ {V : Type 0} where
  any_reverse : (p : List ℕ × V → Bool) (es : List (List ℕ × V))
      → list_any p (reverse es) ≡ list_any p es
  any_reverse p [] = refl
  any_reverse p (e ∷ es) = ap (list_any p) (reverse-append (e ∷ []) es)
      ∙ list_any-append p (reverse es) (e ∷ []) ∙ or_turned (list_any p (reverse es)) (p e)
      ∙ ap (λ v. p e || v) (any_reverse p es)

  -- a name is known of the one list as of the other
  pub known_reversed : (name : List ℕ) (es : List (List ℕ × V))
      → list_any (λ e. bytes_eq name e.0) (reverse es) ≡ list_any (λ e. bytes_eq name e.0) es
  known_reversed name es = any_reverse (λ e. bytes_eq name e.0) es

-- What is known of a name where the last station has another.
pub known_before : (o : Option (List ℕ × StationState)) (es : List (List ℕ × SurveyedStation))
    (l : List ℕ × StationState) (name : List ℕ) → o ≡ Some l → bytes_eq name l.0 ≡ false
    → is_known name (states_of o es) ≡ is_among name es
known_before o es l name is differ =
    ap (λ (m : Option (List ℕ × StationState)). is_known name (states_of m es)) is
    ∙ ap (λ (b : Bool). b || is_among name (reverse es)) differ
    ∙ known_reversed name es

-- The last station has a name that no earlier one has.
pub last_new : (o : Option (List ℕ × StationState)) (es : List (List ℕ × SurveyedStation))
    (l : List ℕ × StationState) → o ≡ Some l → IsAfter o es → is_among l.0 es ≡ false
last_new o es l is after =
    subst (λ (m : Option (List ℕ × StationState)). IsAfter m es) is after

-- The same, where room was made among the earlier ones.
pub last_new_there : (o : Option (List ℕ × StationState))
    (es there : List (List ℕ × SurveyedStation)) (l : List ℕ × StationState) → Some l ≡ o
    → there ≡ es → IsAfter o es → is_among l.0 there ≡ false
last_new_there o es there l is same after =
    ap (is_among l.0) same ∙ last_new o es l (sym is) after

-- the earlier stations, and then what the last one gives
module _ (o : Option (List ℕ × StationState)) (es all : List (List ℕ × SurveyedStation))
    (l : List ℕ × StationState) (x : SurveyedStation) (s : StationStates) (is : o ≡ Some l)
    (view : states_of o es ≡ s) (made : x ≡ survey_of l) (added : all ≡ es ++ (l.0, x) ∷ []) where
  turned : reverse all ≡ surveyed_so_far s
  turned = ap reverse added ∙ reverse-append es ((l.0, x) ∷ [])
      ∙ (λ i. (l.0, made i) ∷ reverse es)
      ∙ ap (λ (m : Option (List ℕ × StationState)). surveyed_so_far (states_of m es)) (sym is)
      ∙ ap surveyed_so_far view

  pub all_surveyed : all ≡ reverse (surveyed_so_far s)
  all_surveyed = sym (reverse-reverse all) ∙ ap reverse turned

  -- Another station may follow.
  pub next_after : (name : List ℕ) (w : StationState) → is_known name s ≡ false
      → IsAfter (Some (name, w)) all
  next_after name w new = sym (known_reversed name all) ∙ ap (is_among name) turned ∙ new

  pub next_begun : (name name' : List ℕ) (number : ℕ) (w : StationState) → name ≡ name'
      → w ≡ begun number → states_of (Some (name, w)) all ≡ with_station name' number s
  next_begun name name' number w named is_begun =
      λ i. Some ((named i, is_begun i), turned i)

-- The last station joins the earlier ones, each by its name.
pub all_by_name : (o : Option (List ℕ × StationState))
    (es there all : List (List ℕ × SurveyedStation)) (l : List ℕ × StationState)
    (x : SurveyedStation) → Some l ≡ o → there ≡ es → x ≡ survey_of l
    → all ≡ there ++ (l.0, x) ∷ [] → AreByName es → IsName x.station.name → AreByName all
all_by_name o es there all l x is same made added named valid =
    subst AreByName (sym (added ∙ (λ i. same i ++ (l.0, x) ∷ [])))
    (All-append (λ e. IsName e.0 × (e.0 ≡ e.1.station.name)) es ((l.0, x) ∷ []) named
    (All-cons (λ e. IsName e.0 × (e.0 ≡ e.1.station.name)) (l.0, x) [] (
      subst (λ (t : SurveyedStation). IsName t.station.name) made valid,
      ap (λ (t : SurveyedStation). t.station.name) (sym made),
    )
    (All-nil (λ e. IsName e.0 × (e.0 ≡ e.1.station.name)))))

-- The last station joins the earlier ones: these are all that are answered.
pub joined : (o : Option (List ℕ × StationState)) (es there all : List (List ℕ × SurveyedStation))
    (l : List ℕ × StationState) (x : SurveyedStation) (s : StationStates) → Some l ≡ o
    → states_of o es ≡ s → there ≡ es → x ≡ survey_of l → all ≡ there ++ (l.0, x) ∷ []
    → values_of all ≡ surveys_of s
joined o es there all l x s is view same made added =
    ap values_of (all_surveyed o es all l x s (sym is) view made
    (added ∙ (λ i. same i ++ (l.0, x) ∷ [])))
