-- The texts of a record with one field more.
use Rattle.std.proofs.Common.{◌≡◌, ◌∙◌, ℕ, zero, suc, ◌+◌, ◌<◌, ◌≤◌, List, [], ◌∷◌, ◌++◌, length}
use Rattle.std.proofs.Common.{take, refl, arith, sym, ap, append-nil, append_assoc}
use Rattle.std.specs.Prelude.{codes, decimal, unwrap_or}
use Rattle.std.specs.List.{concat, flat_map}
use Rattle.csv.specs.Records.{field_at}
use Rattle.std.proofs.lemmas.Grind.{flat_map-append}
use Rattle.station_page.specs.TextRecords.{lengths_text, record_text}

-- The field at a place, or none of its bytes.
abbrev pub at : List (List ℕ) → ℕ → List ℕ
at fields place = unwrap_or (field_at fields place) []

-- The bytes of fields, with one more.
pub fields_more : (fields : List (List ℕ)) (place : ℕ) → place < length fields
    → concat (take (place + 1) fields) ≡ concat (take place fields) ++ at fields place
unfolding field_at
fields_more [] place inside = absurd (omega (arith, inside))
fields_more (field ∷ fields) zero inside = append-nil field
fields_more (field ∷ fields) (suc place) inside =
    let more : suc place + 1 ≡ suc (place + 1) = omega arith in
    ap (λ k. concat (take k (field ∷ fields))) more
    ∙ ap (λ l. field ++ l) (fields_more fields place (omega (arith, inside)))
    ∙ sym (append_assoc field (concat (take place fields)) (at fields place))

-- The lengths of fields after the first, each after a comma.
abbrev after_commas : List (List ℕ) → List ℕ
after_commas fields = flat_map (λ field. codes "," ++ decimal (length field)) fields

-- Those with one more.
commas_more : (fields : List (List ℕ)) (place : ℕ) → place < length fields
    → after_commas (take (place + 1) fields)
    ≡ after_commas (take place fields) ++ (codes "," ++ decimal (length (at fields place)))
unfolding field_at
commas_more [] place inside = absurd (omega (arith, inside))
commas_more (field ∷ fields) zero inside = append-nil (codes "," ++ decimal (length field))
commas_more (field ∷ fields) (suc place) inside =
    let more : suc place + 1 ≡ suc (place + 1) = omega arith in
    ap (λ k. after_commas (take k (field ∷ fields))) more
    ∙ ap (λ l. (codes "," ++ decimal (length field)) ++ l)
    (commas_more fields place (omega (arith, inside)))
    ∙ sym (append_assoc (codes "," ++ decimal (length field)) (after_commas (take place fields))
    (codes "," ++ decimal (length (at fields place))))

-- Of no field there is no length.
pub lengths_none : lengths_text [] ≡ []
unfolding lengths_text
lengths_none = refl

-- The length of the first field has no comma before it.
pub lengths_first : (fields : List (List ℕ)) (place : ℕ) → place < length fields → place ≤ 0
    → lengths_text (take (place + 1) fields)
    ≡ lengths_text (take place fields) ++ decimal (length (at fields place))
unfolding field_at lengths_text
lengths_first [] place inside none = absurd (omega (arith, inside))
lengths_first (field ∷ fields) zero inside none = append-nil (decimal (length field))
lengths_first (field ∷ fields) (suc place) inside none = absurd (omega (arith, none))

-- Each other has one.
pub lengths_more : (fields : List (List ℕ)) (place : ℕ) → place < length fields → 0 < place
    → lengths_text (take (place + 1) fields)
    ≡ (lengths_text (take place fields) ++ codes ",") ++ decimal (length (at fields place))
unfolding field_at lengths_text
lengths_more [] place inside some = absurd (omega (arith, inside))
lengths_more (field ∷ fields) zero inside some = absurd (omega (arith, some))
lengths_more (field ∷ fields) (suc place) inside some =
    let more : suc place + 1 ≡ suc (place + 1) = omega arith in
    ap (λ k. lengths_text (take k (field ∷ fields))) more
    ∙ ap (λ l. decimal (length field) ++ l) (commas_more fields place (omega (arith, inside)))
    ∙ sym (append_assoc (decimal (length field)) (after_commas (take place fields))
    (codes "," ++ decimal (length (at fields place))))
    ∙ sym (append_assoc (decimal (length field) ++ after_commas (take place fields)) (codes ",")
    (decimal (length (at fields place))))

-- The texts of records, with one more.
pub rows_more : (rows : List (List (List ℕ))) (row : List (List ℕ))
    → flat_map record_text (rows ++ (row ∷ []))
    ≡ flat_map record_text rows ++ record_text row
rows_more rows row =
    flat_map-append record_text rows (row ∷ [])
    ∙ ap (λ l. flat_map record_text rows ++ l) (append-nil (record_text row))
