-- The text of rows, one row after the other.
use Rattle.std.proofs.Common.{◌≡◌, ℕ, ◌+◌, ◌<◌, List, [], ◌∷◌, ◌++◌, map, take, get_or, length, ap}
use Rattle.std.proofs.Common.{sym, ◌∙◌, append_assoc, Result, Ok, Err}
use Rattle.std.specs.Prelude.{OnOk}
use Rattle.std.proofs.lemmas.List.{append-nil, map-append, take_more}
use Rattle.std.proofs.lemmas.List.Concat.{flat_map-append}
use Rattle.csv.specs.Writing.{default_writer, row_text}
use Rattle.sheet_format.specs.Texts.{rows_text}

-- The text of joined rows is the text of the first ones and then that of the others.
pub rows_text-append : (rows more : List (List (List ℕ)))
    → rows_text (rows ++ more) ≡ rows_text rows ++ rows_text more
rows_text-append rows more = flat_map-append (row_text default_writer) rows more

-- After any text, the text of one more entry joins that of the entries before it.
pub entries-more : {X : Type 0} (f : X → List (List ℕ)) (text : List ℕ) (xs : List X) (i : ℕ)
    (d : X) → i < length xs
    → (text ++ rows_text (map f (take i xs))) ++ row_text default_writer (f (get_or xs i d))
    ≡ text ++ rows_text (map f (take (i + 1) xs))
entries-more f text xs i d h =
    let x = get_or xs i d in
    let many : map f (take (i + 1) xs) ≡ map f (take i xs) ++ (f x ∷ []) =
    ap (map f) (take_more xs i d h) ∙ map-append f (take i xs) (x ∷ []) in
    let pushed : rows_text (map f (take (i + 1) xs)) ≡ rows_text (map f (take i xs))
    ++ row_text default_writer (f x) =
    ap rows_text many ∙ rows_text-append (map f (take i xs)) (f x ∷ [])
    ∙ ap (λ (t : List ℕ). rows_text (map f (take i xs)) ++ t)
    (append-nil (row_text default_writer (f x))) in
    append_assoc text (rows_text (map f (take i xs))) (row_text default_writer (f x))
    ∙ ap (λ (t : List ℕ). text ++ t) (sym pushed)

-- So it does where the entry is known by its place.
pub entry-more : {X : Type 0} (f : X → List (List ℕ)) (text : List ℕ) (xs : List X) (i : ℕ) (x : X)
    → x ≡ get_or xs i x → i < length xs
    → (text ++ rows_text (map f (take i xs))) ++ row_text default_writer (f x)
    ≡ text ++ rows_text (map f (take (i + 1) xs))
entry-more {X = X} f text xs i x at h = ap (λ (y : X). (text ++ rows_text (map f (take i xs)))
    ++ row_text default_writer (f y)) at ∙ entries-more f text xs i x h

-- After any text, the four parts of a sheet's text make the whole of it.
pub parts-joined : (text first : List ℕ) (targets sets obs : List (List (List ℕ)))
    → (((text ++ first) ++ rows_text targets) ++ rows_text sets) ++ rows_text obs
    ≡ text ++ (first ++ rows_text (targets ++ (sets ++ obs)))
parts-joined text first targets sets obs =
    rw (rows_text-append targets (sets ++ obs), rows_text-append sets obs)
    (append_assoc ((text ++ first) ++ rows_text targets) (rows_text sets) (rows_text obs)
    ∙ append_assoc (text ++ first) (rows_text targets) (rows_text sets ++ rows_text obs)
    ∙ append_assoc text first (rows_text targets ++ (rows_text sets ++ rows_text obs)))

-- What follows from a fact on success holds on success.
pub on_ok : {T E P Q : Type 0} (r : Result T E) → (P → Q) → OnOk r P → OnOk r Q
on_ok (Ok x) f h = f h
on_ok (Err e) f h = h
