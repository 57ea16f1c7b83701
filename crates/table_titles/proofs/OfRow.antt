-- The columns of a table's bytes by its row of titles, and how its reader is left by them.
use Rattle.std.proofs.Common.{◌≡◌, ◌⊎◌, ℕ, ◌≤◌, ◌<◌, List, [], ◌∷◌, length, Option, Some, None}
use Rattle.std.proofs.Common.{Result, Ok, Err, refl, inl, inr}
use Rattle.std.specs.Prelude.{IfErr, nat_lt}
use Rattle.std.proofs.lemmas.Bool.{cases_Bool, le-ltb, lt-ltb}
use Rattle.byte_ends.specs.Came.{IsReadOut, Leaves}
use Rattle.byte_ends.specs.Source.{ReaderChange}
use Rattle.direction_table.specs.StatedColumns.{two_columns}
use Rattle.direction_table.specs.declared.form.ColumnPair.{ColumnPair}
use Rattle.direction_table.specs.declared.reading.TheConstants.{LONGEST_TABLE}
use Rattle.table_titles.specs.TitledInput.{titles_left}
use Rattle.table_titles.specs.Titles.{are_two, both, columns_by_titles, columns_from}
use Rattle.table_titles.specs.Titles.{columns_in_any, the_one, title_row}
use Rattle.table_titles.specs.declared.fault.TitlesFault.{TitlesFault}
use Rattle.table_titles.specs.declared.fault.TitlesFault.TheVariants as fault
use Rattle.table_titles.specs.declared.titles.TitleOf.{TitleOf}
use Rattle.table_titles.specs.declared.titles.TitleOf.TheVariants.{Targets, Directions}

-- Bytes that are too many have that fault.
pub too_long : (targets directions bytes : List ℕ) → LONGEST_TABLE < length bytes
    → Err fault.TooLong ≡ columns_by_titles targets directions bytes
unfolding columns_by_titles
too_long targets directions bytes long = rw (lt-ltb LONGEST_TABLE (length bytes) long) refl

-- The others have the columns of the row of titles.
pub of_row : (targets directions bytes : List ℕ) (row : Option (List (List ℕ)))
    → length bytes ≤ LONGEST_TABLE → row ≡ title_row targets bytes
    → columns_in_any targets directions row ≡ columns_by_titles targets directions bytes
unfolding columns_by_titles
of_row targets directions bytes row short is =
    rw (le-ltb LONGEST_TABLE (length bytes) short, is) refl

-- A fault is none of reading.
NotRead : TitlesFault → Type 0
NotRead why = why ≡ fault.Read → ⊥

one-not-read : (of : TitleOf) (columns : List ℕ) → IfErr (the_one of columns) NotRead
unfolding NotRead
one-not-read of [] = λ e. cc e
one-not-read of (column ∷ []) = tt
one-not-read of (first ∷ second ∷ others) = λ e. cc e

two-not-read : (pair : Option ColumnPair) → IfErr (are_two pair) NotRead
unfolding NotRead
two-not-read None = λ e. cc e
two-not-read (Some pair) = tt

both-not-read : (names directions : Result ℕ TitlesFault) → IfErr names NotRead
    → IfErr directions NotRead → IfErr (both names directions) NotRead
both-not-read (Err why) directions a b = a
both-not-read (Ok names) (Err why) a b = b
both-not-read (Ok names) (Ok directions) a b = two-not-read (two_columns names directions)

any-not-read : (targets directions : List ℕ) (row : Option (List (List ℕ)))
    → IfErr (columns_in_any targets directions row) NotRead
unfolding NotRead
any-not-read targets directions None = λ e. cc e
any-not-read targets directions (Some row) =
    both-not-read (the_one Targets (columns_from targets 0 row))
    (the_one Directions (columns_from directions 0 row)) (one-not-read Targets _)
    (one-not-read Directions _)

not-read : (targets directions bytes : List ℕ)
    → IfErr (columns_by_titles targets directions bytes) NotRead
unfolding columns_by_titles NotRead
not-read targets directions bytes =
    elim (cases_Bool (nat_lt LONGEST_TABLE (length bytes))) [
      | inl e ↦ rw e (λ z. cc z)
      | inr e ↦ rw e (any-not-read targets directions (title_row targets bytes))
    ]

-- So a reader that has ended is left as each answer says.
pub left_by : (targets directions bytes : List ℕ) (r : Result ColumnPair TitlesFault)
    (reader : ReaderChange)
    → (r ≡ columns_by_titles targets directions bytes) ⊎ (r ≡ Err fault.Memory)
    → IsReadOut reader → Leaves titles_left r reader
unfolding NotRead
left_by targets directions bytes (Ok pair) reader is out = out
left_by targets directions bytes (Err fault.Read) reader (inl e) out =
    absurd ((rw (← e) at (not-read targets directions bytes)) refl)
left_by targets directions bytes (Err fault.Read) reader (inr e) out = cc e
left_by targets directions bytes (Err fault.TooLong) reader is out = out.unfailed
left_by targets directions bytes (Err (fault.NoTitle of)) reader is out = out
left_by targets directions bytes (Err (fault.TwiceTitled of)) reader is out = out
left_by targets directions bytes (Err fault.SameTitle) reader is out = out
left_by targets directions bytes (Err fault.Memory) reader is out = out.unfailed
