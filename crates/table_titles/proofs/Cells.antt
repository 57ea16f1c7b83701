-- The cells of a row with a title, by their places.
use Rattle.std.proofs.Common.{◌≡◌, ℕ, ◌+◌, ◌<◌, ◌≤◌, List, [], ◌∷◌, length, drop, refl}
use Rattle.std.specs.Prelude.{◌||◌, if◌then◌else◌, Option, Some, None}
use Rattle.std.specs.Option.{ok_or}
use Rattle.std.proofs.lemmas.List.{drop_all, drop_more}
use Rattle.direction_table.proofs.FieldsAt.{at, at-is}
use Rattle.table_titles.specs.Titles.{columns_from, has_title, is_title, the_one}
use Rattle.table_titles.specs.declared.fault.TitlesFault.TheVariants.{NoTitle}
use Rattle.table_titles.specs.declared.titles.TitleOf.{TitleOf}

-- A cell from a place on is a title where the one there is, or one from the next on.
pub any_more : (title : List ℕ) (fields : List (List ℕ)) (place : ℕ) → place < length fields
    → has_title title (drop place fields)
    ≡ (is_title title (at fields place) || has_title title (drop (place + 1) fields))
any_more title fields place inside =
    rw (at-is fields place inside, drop_more fields place [] inside) refl

-- The columns from a place on are that one, if its cell is the title, and those from the next on.
pub columns_more : (title : List ℕ) (fields : List (List ℕ)) (place : ℕ) → place < length fields
    → columns_from title place (drop place fields)
    ≡ (if is_title title (at fields place)
    then place ∷ columns_from title (place + 1) (drop (place + 1) fields)
    else columns_from title (place + 1) (drop (place + 1) fields))
unfolding columns_from
columns_more title fields place inside =
    rw (at-is fields place inside, drop_more fields place [] inside) refl

-- The column that was found so far, if one was, and then others.
abbrev pub found_so_far : Option ℕ → List ℕ → List ℕ
found_so_far None columns = columns
found_so_far (Some column) columns = column ∷ columns

-- At the end of a row it is the one, or there is none.
pub found-end : (of : TitleOf) (found : Option ℕ) (title : List ℕ) (fields : List (List ℕ))
    (place : ℕ) → length fields ≤ place
    → found_so_far found (columns_from title place (drop place fields))
    ≡ columns_from title 0 fields
    → ok_or found (NoTitle of) ≡ the_one of (columns_from title 0 fields)
unfolding columns_from
found-end of found title fields place past e =
    let none = drop_all place fields past in
    let all = rw none at e in
    rw (← all) (by found)
  where
    by : (found : Option ℕ) → ok_or found (NoTitle of) ≡ the_one of (found_so_far found [])
    by None = refl
    by (Some column) = refl
