-- The one text of stations, station after station.
use Rattle.std.proofs.Common.{◌≡◌, ◌∙◌, ◌++◌, ◌∷◌, ◌+◌, ◌==◌, List, ℕ, [], Some, ap}
use Rattle.std.proofs.Common.{append_assoc, arith, get_or, length, refl, slice_get, subst, sym}
use Rattle.std.proofs.Common.{take}
use Rattle.std.proofs.Common.{true}
use Rattle.std.proofs.lemmas.List.{append-nil, length-take-le, take_more}
use Rattle.std.proofs.lemmas.Bool.{ne_eqb}
use Rattle.std.proofs.lemmas.List.Folds.{concat-append}
use Rattle.std.proofs.lemmas.Option.{get_or_from_slice_get, slice_get_within}
use Rattle.std.specs.List.{AllZip, concat, zip}
use Rattle.book_answers.proofs.TextLaws.{first_alone, more_pieces}
use Rattle.book_answers.specs.Answers.{names_of}
use Rattle.book_answers.specs.Notes.{AreNotes}
use Rattle.book_answers.specs.OfStations.{HasText, IsOneText}
use Rattle.book_answers.specs.Together.{head, piece, pieces}
use Rattle.book_answers.specs.declared.arrangement.Arrangement.{Arrangement}
use Rattle.station_book.specs.Stations.{SurveyedStation}

-- One more on both sides.
all_more : {A B : Type 0} (R : A → B → Type 0) (xs : List A) (ys : List B) (x : A) (y : B)
    → AllZip R xs ys → R x y → AllZip R (xs ++ x ∷ []) (ys ++ y ∷ [])
all_more R [] [] x y all one = (one, tt)
all_more R [] (b ∷ ys) x y all one = absurd all
all_more R (a ∷ xs) [] x y all one = absurd all
all_more R (a ∷ xs) (b ∷ ys) x y all one = (all.0, all_more R xs ys x y all.1 one)

module _ (Says : SurveyedStation → List ℕ → Type 0) (residual : ℕ) (a : Arrangement) where
  abbrev named : List SurveyedStation → List (List ℕ) → List (List ℕ × List ℕ)
  named xs texts = zip (names_of xs) texts

  -- One more name and text.
  named_more : (xs : List SurveyedStation) (texts : List (List ℕ)) (x : SurveyedStation)
      (own : List ℕ) → AllZip (HasText Says residual) xs texts
      → named (xs ++ x ∷ []) (texts ++ own ∷ []) ≡ named xs texts ++ (x.station.name, own) ∷ []
  named_more [] [] x own all = refl
  named_more [] (t ∷ texts) x own all = absurd all
  named_more (y ∷ ys) [] x own all = absurd all
  named_more (y ∷ ys) (t ∷ texts) x own all =
      ap (λ (rest : List (List ℕ × List ℕ)). (y.station.name, t) ∷ rest)
      (named_more ys texts x own all.1)

  -- What one more station adds.
  pieces_more : (xs : List SurveyedStation) (texts : List (List ℕ)) (x : SurveyedStation)
      (own : List ℕ) → AllZip (HasText Says residual) xs texts
      → pieces a true (named (xs ++ x ∷ []) (texts ++ own ∷ []))
      ≡ pieces a true (named xs texts) ++ piece a (length xs == 0) (x.station.name, own)
  pieces_more [] [] x own all = first_alone a (x.station.name, own)
  pieces_more [] (t ∷ texts) x own all = absurd all
  pieces_more (y ∷ ys) [] x own all = absurd all
  pieces_more (y ∷ ys) (t ∷ texts) x own all =
      ap (pieces a true) (named_more (y ∷ ys) (t ∷ texts) x own all)
      ∙ more_pieces a (y.station.name, t) (named ys texts) (x.station.name, own)
      ∙ ap (λ first. pieces a true (named (y ∷ ys) (t ∷ texts))
      ++ piece a first (x.station.name, own)) (sym (ne_eqb (length (y ∷ ys)) 0 (omega arith)))

  -- No station has added anything.
  pub none_yet : (text : List ℕ) → text ≡ head a → IsOneText Says residual a [] text
  unfolding pieces
  none_yet text begun = record { texts = []; each = tt; text_is = begun ∙ sym (append-nil (head a)) }

  -- One more station has.
  pub one_more : (stations : List SurveyedStation) (place : ℕ) (its : SurveyedStation)
      (old new own : List ℕ) → slice_get stations place ≡ Some its
      → IsOneText Says residual a (take place stations) old → HasText Says residual its own
      → new ≡ old ++ piece a (place == 0) (its.station.name, own)
      → IsOneText Says residual a (take (place + 1) stations) new
  one_more stations place its old new own here before has put =
      let xs = take place stations in
      let last : get_or stations place its ≡ its =
      get_or_from_slice_get stations place its its here in
      let inside = slice_get_within stations place its here in
      let more : take (place + 1) stations ≡ xs ++ its ∷ [] =
      take_more stations place its inside
      ∙ ap (λ (y : SurveyedStation). xs ++ y ∷ []) last in
      let count : length xs ≡ place = length-take-le place stations (omega (arith, inside)) in
      subst (λ ys. IsOneText Says residual a ys new) (sym more) (record {
        texts = before.texts ++ own ∷ [];
        each = all_more (HasText Says residual) xs before.texts its own before.each has;
        text_is = put
            ∙ ap (λ (t : List ℕ). t ++ piece a (place == 0) (its.station.name, own))
            before.text_is
            ∙ append_assoc (head a) (pieces a true (named xs before.texts))
            (piece a (place == 0) (its.station.name, own))
            ∙ ap (λ (n : ℕ). head a ++ (pieces a true (named xs before.texts)
            ++ piece a (n == 0) (its.station.name, own))) (sym count)
            ∙ ap (λ (t : List ℕ). head a ++ t)
            (sym (pieces_more xs before.texts its own before.each));
      })

-- What one more station is told of comes after the notes of those before it.
pub note_more : (IsNote : SurveyedStation → List ℕ → Type 0) (stations : List SurveyedStation)
    (place : ℕ) (its : SurveyedStation) (old new note : List ℕ)
    → slice_get stations place ≡ Some its → AreNotes IsNote (take place stations) old
    → IsNote its note → new ≡ old ++ note → AreNotes IsNote (take (place + 1) stations) new
note_more IsNote stations place its old new note here before is put =
    let xs = take place stations in
    let more : take (place + 1) stations ≡ xs ++ its ∷ [] =
    take_more stations place its (slice_get_within stations place its here)
    ∙ ap (λ (y : SurveyedStation). xs ++ y ∷ []) (get_or_from_slice_get stations place its its here)
    in
    let one : concat (note ∷ []) ≡ note = append-nil note in
    subst (λ ys. AreNotes IsNote ys new) (sym more) (record {
      of_each = before.of_each ++ note ∷ [];
      each = all_more IsNote xs before.of_each its note before.each is;
      notes_are = put
          ∙ ap (λ (t : List ℕ). t ++ note) before.notes_are
          ∙ ap (λ (t : List ℕ). concat before.of_each ++ t) (sym one)
          ∙ sym (concat-append before.of_each (note ∷ []));
    })
