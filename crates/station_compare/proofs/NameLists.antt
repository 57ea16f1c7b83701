-- The names of stations, made name by name.
use Rattle.std.proofs.Common.{◌≡◌, ◌∙◌, ◌<◌, ◌≤◌, ℕ, zero, suc, ◌+◌, List, [], ◌∷◌, ◌++◌}
use Rattle.std.proofs.Common.{ap, append_assoc, arith, codes, flat_map, get_or, inl, inr, length}
use Rattle.std.proofs.Common.{slice_get, sym, take}
use Rattle.std.proofs.lemmas.List.{append-nil, take_all, take_more}
use Rattle.std.proofs.lemmas.List.Concat.{flat_map-append}
use Rattle.std.proofs.lemmas.Option.{slice_get_cases}
use Rattle.std.specs.List.{join_by}
use Rattle.station_book.specs.Stations.{SurveyedStation}
use Rattle.station_compare.specs.HintTexts.{names_before}
use Rattle.station_compare.specs.NameLists.{name_after}

-- A name after the first, with the comma before it.
abbrev after : SurveyedStation → List ℕ
after s = codes ", " ++ s.station.name

-- One name more, of those after the first.
after_more : (xs : List SurveyedStation) (i : ℕ) (x : SurveyedStation) → i < length xs
    → get_or xs i x ≡ x
    → flat_map after (take (i + 1) xs) ≡ flat_map after (take i xs) ++ after x
after_more xs i x inside here =
    ap (flat_map after) (take_more xs i x inside)
    ∙ ap (λ y. flat_map after (take i xs ++ (y ∷ []))) here
    ∙ flat_map-append after (take i xs) (x ∷ [])
    ∙ ap (λ (t : List ℕ). flat_map after (take i xs) ++ t) (append-nil (after x))

-- Of no stations there is no name.
none_named : (count : ℕ) → names_before count [] ≡ []
none_named count =
    ap (join_by (λ s. s.station.name) (codes ", ")) (take_all count [] (omega arith))

-- One name more, where there is one.
pub names_more : (stations : List SurveyedStation) (place : ℕ)
    → names_before (place + 1) stations
    ≡ names_before place stations ++ name_after place (slice_get stations place)
names_more [] place =
    none_named (place + 1) ∙ sym (append-nil (names_before place []) ∙ none_named place)
names_more (s ∷ stations) zero = append-nil s.station.name
names_more (s ∷ stations) (suc i) =
    let first = s.station.name in
    let before = flat_map after (take i stations) in
    let next : suc i + 1 ≡ suc (i + 1) = omega arith in
    ap (λ count. names_before count (s ∷ stations)) next
    ∙ elim (slice_get_cases stations i).1 [
      | inl here ↦
          ap (λ (t : List ℕ). first ++ t) (after_more stations i here.0 here.1 here.3)
          ∙ sym (append_assoc first before (after here.0))
          ∙ ap (λ o. (first ++ before) ++ name_after (suc i) o) (sym here.2)
      | inr past ↦
          let outside : length stations ≤ i = past.0 in
          ap (λ xs. first ++ flat_map after xs)
          (take_all (i + 1) stations (omega (arith, outside)) ∙ sym (take_all i stations outside))
          ∙ sym (append-nil (first ++ before))
          ∙ ap (λ o. (first ++ before) ++ name_after (suc i) o) (sym past.1)
    ]
