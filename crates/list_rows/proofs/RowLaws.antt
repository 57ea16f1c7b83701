-- The rows of stations, and those of a station, one after the other.
use Rattle.std.proofs.Common.{◌≡◌, ◌∙◌, ℕ, ◌+◌, ◌≤◌, List, [], ◌∷◌, ◌++◌, Some, ap}
use Rattle.std.proofs.Common.{append_assoc}
use Rattle.std.proofs.Common.{arith, flat_map, get_or, length, map, slice_get, sym, take, zip}
use Rattle.std.proofs.lemmas.List.{append-nil, take_all, take_more}
use Rattle.std.proofs.lemmas.List.Concat.{flat_map-append}
use Rattle.std.proofs.lemmas.Option.{get_or_from_slice_get, slice_get_within}
use Rattle.csv.specs.Writing.{row_text}
use Rattle.row_forms.specs.Forms.{rows_text, writer_of}
use Rattle.row_forms.specs.declared.form.RowForm.{RowForm}
use Rattle.row_forms.proofs.TextRows.{entry-more, rows_text-append}
use Rattle.station_check.proofs.ListLaws.{zip_get, zip_short}

-- A text that was put after another, and one that was put after both.
pub joined : (before middle after first second : List ℕ) → middle ≡ before ++ first
    → after ≡ middle ++ second → after ≡ before ++ (first ++ second)
joined before middle after first second put then =
    then ∙ (ap (λ (text : List ℕ). text ++ second) put ∙ append_assoc before first second)

-- After any text, the rows of one more entry join those of the entries before it.
pub entries-joined : {X : Type 0} (form : RowForm) (f : X → List (List (List ℕ)))
    (text : List ℕ) (xs : List X) (i : ℕ) (x : X) → slice_get xs i ≡ Some x
    → (text ++ rows_text form (flat_map f (take i xs))) ++ rows_text form (f x)
    ≡ text ++ rows_text form (flat_map f (take (i + 1) xs))
entries-joined form f text xs i x here =
    let last : get_or xs i x ≡ x = get_or_from_slice_get xs i x x here in
    let more : take (i + 1) xs ≡ take i xs ++ (x ∷ []) =
    take_more xs i x (slice_get_within xs i x here)
    ∙ ap (λ y. take i xs ++ (y ∷ [])) last in
    let joined : rows_text form (flat_map f (take (i + 1) xs))
    ≡ rows_text form (flat_map f (take i xs)) ++ rows_text form (f x) =
    ap (λ ys. rows_text form (flat_map f ys)) more
    ∙ ap (rows_text form) (flat_map-append f (take i xs) (x ∷ []))
    ∙ ap (λ rows. rows_text form (flat_map f (take i xs) ++ rows)) (append-nil (f x))
    ∙ rows_text-append form (flat_map f (take i xs)) (f x) in
    append_assoc text (rows_text form (flat_map f (take i xs))) (rows_text form (f x))
    ∙ ap (λ (t : List ℕ). text ++ t) (sym joined)

-- After any text, the row of what stands at a place of both lists joins those before it.
pub pair-joined : {A B C : Type 0} (form : RowForm) (f : A → B) (row : B × C → List (List ℕ))
    (text : List ℕ) (xs : List A) (ys : List C) (i : ℕ) (x : A) (y : C) → slice_get xs i ≡ Some x
    → slice_get ys i ≡ Some y
    → (text ++ rows_text form (map row (take i (zip (map f xs) ys))))
    ++ row_text (writer_of form) (row (f x, y))
    ≡ text ++ rows_text form (map row (take (i + 1) (zip (map f xs) ys)))
pair-joined form f row text xs ys i x y ex ey =
    let pairs = zip (map f xs) ys in
    let here : slice_get pairs i ≡ Some (f x, y) = zip_get f xs ys i x y ex ey in
    entry-more form row text pairs i (f x, y)
    (sym (get_or_from_slice_get pairs i (f x, y) (f x, y) here))
    (slice_get_within pairs i (f x, y) here)

-- Past the last place all pairs are there.
pub all-pairs : {A B C : Type 0} (f : A → B) (xs : List A) (ys : List C) (i : ℕ)
    → length xs ≤ i → take i (zip (map f xs) ys) ≡ zip (map f xs) ys
all-pairs f xs ys i past =
    take_all i (zip (map f xs) ys) (omega (arith, past, zip_short f xs ys))
