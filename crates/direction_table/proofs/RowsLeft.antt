-- The rows that are left of a table, as they are gone through one by one.
use Rattle.std.proofs.Common.{◌≡◌, ◌∙◌, ℕ, ◌+◌, ◌<◌, ◌≤◌, true, List, []}
use Rattle.std.proofs.Common.{◌∷◌, ◌++◌, length, get_or, drop, map, filter, refl, ap, sym}
use Rattle.std.proofs.Common.{append_assoc}
use Rattle.std.specs.Prelude.{if◌then◌else◌}
use Rattle.std.proofs.lemmas.List.{append-nil, drop_all, drop_more, map_push}
use Rattle.csv.specs.Reading.{strip_bom}
use Rattle.csv.specs.Records.{fields_of}
use Rattle.csv.specs.declared.record.ByteRecord.{ByteRecord}
use Rattle.direction_table.specs.ByteSteps.{IsNextRecord, records_left}
use Rattle.direction_table.specs.Cells.{names_in}
use Rattle.direction_table.specs.NamingRows.{naming_rows}
use Rattle.direction_table.specs.Separators.{byte_of, kept, rows_by}
use Rattle.direction_table.specs.declared.number_columns.Naming.{Naming}
use Rattle.direction_table.specs.declared.records.Records.{Records}
use Rattle.direction_table.specs.declared.separator.Separator.{Separator}

-- The rows from a place on.
pub rows_from : List ByteRecord → ℕ → List (List (List ℕ))
rows_from rows at = map fields_of (drop at rows)

-- From the first place on they are all.
pub rows-all : (rows : List ByteRecord) → rows_from rows 0 ≡ map fields_of rows
unfolding rows_from
rows-all rows = refl

-- They are the one at the place, and those from the next on.
pub rows-more : (rows : List ByteRecord) (at : ℕ) (row : ByteRecord) → at < length rows
    → row ≡ get_or rows at row
    → rows_from rows at ≡ fields_of row ∷ rows_from rows (at + 1)
unfolding rows_from
rows-more rows at row inside is =
    rw (drop_more rows at row inside) (ap (λ r. fields_of r ∷ rows_from rows (at + 1)) (sym is))

-- None is left at the end.
pub rows-end : (rows : List ByteRecord) (at : ℕ) → length rows ≤ at → rows_from rows at ≡ []
unfolding rows_from
rows-end rows at past = rw (drop_all at rows past) refl

-- Those of them that name a target.
pub naming_from : Naming → ℕ → List (List (List ℕ))
naming_from n at = filter (names_in n.targets.now n.names) (rows_from n.rows.now at)

pub naming-all : (n : Naming) → naming_from n 0 ≡ naming_rows n
unfolding naming_from rows_from
naming-all n = refl

-- They are those from the next place on, and the one at the place if it names a target.
pub naming-more : (n : Naming) (at : ℕ) (row : ByteRecord) → at < length n.rows.now
    → row ≡ get_or n.rows.now at row
    → naming_from n at
    ≡ (if names_in n.targets.now n.names (fields_of row)
    then fields_of row ∷ naming_from n (at + 1) else naming_from n (at + 1))
unfolding naming_from
naming-more n at row inside is =
    ap (filter (names_in n.targets.now n.names)) (rows-more n.rows.now at row inside is)

pub naming-end : (n : Naming) (at : ℕ) → length n.rows.now ≤ at → naming_from n at ≡ []
unfolding naming_from
naming-end n at past = ap (filter (names_in n.targets.now n.names)) (rows-end n.rows.now at past)

-- Before the first record is read all rows of a text are left.
pub kept-all : (s : Separator) (left : Records) (bytes : List ℕ)
    → left.separator ≡ byte_of s → left.unread.now ≡ strip_bom bytes
    → map (kept s) (records_left left) ≡ rows_by s bytes
kept-all s left bytes own is = rw (own, is) refl

-- Where no record is left, the rows that were read are all.
pub kept-end : (s : Separator) (rows : List ByteRecord) (left all : List (List (List ℕ)))
    → left ≡ [] → map fields_of rows ++ map (kept s) left ≡ all → map fields_of rows ≡ all
kept-end s rows left all none e = sym (append-nil (map fields_of rows)) ∙ (rw none at e)

-- The next record is the next row.
pub kept-more : (s : Separator) (rows : List ByteRecord) (left : List (List (List ℕ)))
    (raw row : ByteRecord) (all after : List (List (List ℕ)))
    → IsNextRecord left true (fields_of raw) after → fields_of row ≡ kept s (fields_of raw)
    → map fields_of rows ++ map (kept s) left ≡ all
    → map fields_of (rows ++ (row ∷ [])) ++ map (kept s) after ≡ all
kept-more s rows left raw row all after next is e =
    rw (
      map_push fields_of rows row,
      append_assoc (map fields_of rows) (fields_of row ∷ []) (map (kept s) after),
      is,
    ) (rw next at e)
