-- The text of rows of a form, one row after the other.
use Rattle.std.proofs.Common.{◌≡◌, ℕ, ◌+◌, ◌<◌, List, [], ◌∷◌, ◌++◌, map, take, get_or, length, ap}
use Rattle.std.proofs.Common.{sym, ◌∙◌, append_assoc}
use Rattle.std.proofs.lemmas.List.{append-nil, map-append, take_more}
use Rattle.std.proofs.lemmas.List.Concat.{flat_map-append}
use Rattle.csv.specs.Writing.{row_text}
use Rattle.row_forms.specs.Forms.{rows_text, writer_of}
use Rattle.row_forms.specs.declared.form.RowForm.{RowForm}

-- The text of joined rows is the text of the first ones and then that of the others.
pub rows_text-append : (form : RowForm) (rows more : List (List (List ℕ)))
    → rows_text form (rows ++ more) ≡ rows_text form rows ++ rows_text form more
rows_text-append form rows more = flat_map-append (row_text (writer_of form)) rows more

-- After any text, the text of one more entry joins that of the entries before it.
pub entries-more : {X : Type 0} (form : RowForm) (f : X → List (List ℕ)) (text : List ℕ)
    (xs : List X) (i : ℕ) (d : X) → i < length xs
    → (text ++ rows_text form (map f (take i xs)))
    ++ row_text (writer_of form) (f (get_or xs i d))
    ≡ text ++ rows_text form (map f (take (i + 1) xs))
entries-more form f text xs i d h =
    let x = get_or xs i d in
    let many : map f (take (i + 1) xs) ≡ map f (take i xs) ++ (f x ∷ []) =
    ap (map f) (take_more xs i d h) ∙ map-append f (take i xs) (x ∷ []) in
    let pushed : rows_text form (map f (take (i + 1) xs)) ≡ rows_text form (map f (take i xs))
    ++ row_text (writer_of form) (f x) =
    ap (rows_text form) many ∙ rows_text-append form (map f (take i xs)) (f x ∷ [])
    ∙ ap (λ (t : List ℕ). rows_text form (map f (take i xs)) ++ t)
    (append-nil (row_text (writer_of form) (f x))) in
    append_assoc text (rows_text form (map f (take i xs))) (row_text (writer_of form) (f x))
    ∙ ap (λ (t : List ℕ). text ++ t) (sym pushed)

-- So it does where the entry is known by its place.
pub entry-more : {X : Type 0} (form : RowForm) (f : X → List (List ℕ)) (text : List ℕ)
    (xs : List X) (i : ℕ) (x : X) → x ≡ get_or xs i x → i < length xs
    → (text ++ rows_text form (map f (take i xs))) ++ row_text (writer_of form) (f x)
    ≡ text ++ rows_text form (map f (take (i + 1) xs))
entry-more {X = X} form f text xs i x at h =
    ap (λ (y : X). (text ++ rows_text form (map f (take i xs)))
    ++ row_text (writer_of form) (f y)) at ∙ entries-more form f text xs i x h
