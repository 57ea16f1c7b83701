-- What is said of stations, line by line.
use Rattle.std.proofs.Common.{◌≡◌, ◌≢◌, ◌∙◌, ◌++◌, ◌∷◌, ◌+◌, ◌-◌, ◌<◌, ◌≤◌, List, ℕ, [], true}
use Rattle.std.proofs.Common.{false, Option, Some, None, zero, suc, ap, append_assoc, arith, drop}
use Rattle.std.proofs.Common.{get_or, length, refl, sym}
use Rattle.std.specs.Borrow.{Bor}
use Rattle.std.specs.Prelude.{Bool, if◌then◌else◌, is_some, option_map, slice_get}
use Rattle.std.specs.Prelude.{slice_index_or}
use Rattle.std.proofs.lemmas.Option.{get_or_from_slice_get, slice_get_within}
use Rattle.std.proofs.lemmas.List.{append-nil, drop-map, drop_all}
use Rattle.station_book.specs.Stations.{SurveyedStation}
use Rattle.station_tables.proofs.LineLaws.{from_here}
use Rattle.station_tables.specs.Lines.{of_lines}
use Rattle.station_tables.specs.Parts.{as_line, has_row, part_of, row_numbers}
use Rattle.station_tables.specs.Said.{is_of, said_of}
use Rattle.station_tables.specs.Strays.{is_stray, of_how_many, stray_from}

-- what stands where no line is
abbrev pub no_line : Bor (List ℕ)
no_line = record { ref_ptr = (0, 0); now = [] }

-- what stands in a line that is held
abbrev pub held : List (Bor (List ℕ)) → ℕ → List ℕ
held lines place = (get_or lines place no_line).now

module _ (lines : List (Bor (List ℕ))) (place : ℕ) (inside : place < length lines) where
  abbrev line : List ℕ
  line = held lines place

  abbrev others : List (List ℕ)
  others = drop (place + 1) (of_lines lines)

  -- The lines from a place are the one there, and those that come.
  here : drop place (of_lines lines) ≡ line ∷ others
  here =
      drop-map (λ (l : Bor (List ℕ)). l.now) place lines
      ∙ ap of_lines (from_here lines no_line place inside)
      ∙ ap (λ (ls : List (List ℕ)). line ∷ ls)
      (sym (drop-map (λ (l : Bor (List ℕ)). l.now) (place + 1) lines))

  part_first : (name l : List ℕ) (ls : List (List ℕ))
      → part_of name (l ∷ ls) ≡ as_line (said_of name l) ++ part_of name ls
  unfolding part_of
  part_first name l ls = refl

  -- What the line says is added.
  pub part_more : (name old new whole : List ℕ) → new ≡ old ++ as_line (said_of name line)
      → old ++ part_of name (drop place (of_lines lines)) ≡ whole → new ++ part_of name others ≡ whole
  part_more name old new whole added held =
      ap (λ (t : List ℕ). t ++ part_of name others) added
      ∙ append_assoc old (as_line (said_of name line)) (part_of name others)
      ∙ ap (λ (t : List ℕ). old ++ t)
      (sym (ap (part_of name) here ∙ part_first name line others))
      ∙ held

  rows_with : (name l : List ℕ) (n : ℕ) (ls : List (List ℕ)) → has_row name l ≡ true
      → row_numbers name n (l ∷ ls) ≡ n ∷ row_numbers name (n + 1) ls
  unfolding row_numbers
  rows_with name l n ls e = rw e refl

  rows_without : (name l : List ℕ) (n : ℕ) (ls : List (List ℕ)) → has_row name l ≡ false
      → row_numbers name n (l ∷ ls) ≡ row_numbers name (n + 1) ls
  unfolding row_numbers
  rows_without name l n ls e = rw e refl

  -- The first row that comes is the line, where it is one,
  pub row_here : (name : List ℕ) (n : ℕ) → has_row name line ≡ true
      → slice_index_or (row_numbers name n (drop place (of_lines lines))) 0 0 ≡ n
  row_here name n e =
      ap (λ (ls : List (List ℕ)). slice_index_or (row_numbers name n ls) 0 0) here
      ∙ ap (λ (ns : List ℕ). slice_index_or ns 0 0) (rows_with name line n others e)

  -- and each other comes after it.
  pub row_later : (name : List ℕ) (n before : ℕ) → before ≢ 0 → has_row name line ≡ true
      → slice_index_or (row_numbers name (n + 1) others) (before - 1) 0
      ≡ slice_index_or (row_numbers name n (drop place (of_lines lines))) before 0
  row_later name n zero some e = absurd (some refl)
  row_later name n (suc before) some e =
      let less : suc before - 1 ≡ before = omega arith in
      rw less (sym (
      ap (λ (ls : List (List ℕ)). slice_index_or (row_numbers name n ls) (suc before) 0) here
      ∙ ap (λ (ns : List ℕ). slice_index_or ns (suc before) 0) (rows_with name line n others e)))

  -- Where the line is none, all come after it.
  pub no_row_here : (name : List ℕ) (n before : ℕ) → has_row name line ≡ false
      → slice_index_or (row_numbers name (n + 1) others) before 0
      ≡ slice_index_or (row_numbers name n (drop place (of_lines lines))) before 0
  no_row_here name n before e = sym (
      ap (λ (ls : List (List ℕ)). slice_index_or (row_numbers name n ls) before 0) here
      ∙ ap (λ (ns : List ℕ). slice_index_or ns before 0) (rows_without name line n others e))

  strays_with : (stations : List SurveyedStation) (l : List ℕ) (n : ℕ) (ls : List (List ℕ))
      → is_stray stations l ≡ true → stray_from stations n (l ∷ ls) ≡ Some n
  unfolding stray_from
  strays_with stations l n ls e = rw e refl

  strays_without : (stations : List SurveyedStation) (l : List ℕ) (n : ℕ) (ls : List (List ℕ))
      → is_stray stations l ≡ false → stray_from stations n (l ∷ ls) ≡ stray_from stations (n + 1) ls
  unfolding stray_from
  strays_without stations l n ls e = rw e refl

  -- The first line that is of no station is this one, where it is so; else it comes after it.
  pub stray_here : (stations : List SurveyedStation) (n : ℕ) → is_stray stations line ≡ true
      → stray_from stations n (drop place (of_lines lines)) ≡ Some n
  stray_here stations n e =
      ap (stray_from stations n) here ∙ strays_with stations line n others e

  pub stray_later : (stations : List SurveyedStation) (n : ℕ) → is_stray stations line ≡ false
      → stray_from stations (n + 1) others
      ≡ stray_from stations n (drop place (of_lines lines))
  stray_later stations n e =
      sym (ap (stray_from stations n) here ∙ strays_without stations line n others e)

-- After the last line there is nothing.
pub none_held : (lines : List (Bor (List ℕ))) (place : ℕ) → length lines ≤ place
    → drop place (of_lines lines) ≡ []
none_held lines place end =
    drop-map (λ (l : Bor (List ℕ)). l.now) place lines ∙ ap of_lines (drop_all place lines end)

pub no_part : (name put whole : List ℕ) → put ++ part_of name [] ≡ whole → put ≡ whole
unfolding part_of
no_part name put whole held = sym (append-nil put) ∙ held

pub no_rows : (name : List ℕ) (n before : ℕ) → slice_index_or (row_numbers name n []) before 0 ≡ 0
unfolding row_numbers
no_rows name n before = refl

pub no_strays : (stations : List SurveyedStation) (n : ℕ) → stray_from stations n [] ≡ None
unfolding stray_from
no_strays stations n = refl

-- Of as many of the stations that come a line is as of those after the one at the place, and of this
-- one, where it is of that.
module _ (line : List ℕ) (stations : List SurveyedStation) (place : ℕ) (its : SurveyedStation)
    (here : slice_get stations place ≡ Some its) where
  count_first : (own : Bool) (xs : List SurveyedStation) → is_of its.station.name line ≡ own
      → of_how_many (its ∷ xs) line ≡ (if own then 1 else 0) + of_how_many xs line
  count_first true xs e = rw e (omega arith)
  count_first false xs e = rw e (omega arith)

  count_from : (own : Bool) → is_of its.station.name line ≡ own
      → of_how_many (drop place stations) line
      ≡ (if own then 1 else 0) + of_how_many (drop (place + 1) stations) line
  count_from own e =
      ap (λ (xs : List SurveyedStation). of_how_many xs line)
      (from_here stations its place (slice_get_within stations place its here)
      ∙ ap (λ (s : SurveyedStation). s ∷ drop (place + 1) stations)
      (get_or_from_slice_get stations place its its here))
      ∙ count_first own (drop (place + 1) stations) e

  pub count_here : (count : ℕ) → is_of its.station.name line ≡ true
      → count + 1 + of_how_many (drop (place + 1) stations) line
      ≡ count + of_how_many (drop place stations) line
  count_here count e = omega (arith, count_from true e)

  pub count_later : (count : ℕ) → is_of its.station.name line ≡ false
      → count + of_how_many (drop (place + 1) stations) line
      ≡ count + of_how_many (drop place stations) line
  count_later count e = omega (arith, count_from false e)

-- Whether there is something doesn't hang on what is made of it.
pub some_made : (said : Option (Bor (List ℕ))) (o : Option (List ℕ))
    → option_map (λ (s : Bor (List ℕ)). s.now) said ≡ o → is_some said ≡ is_some o
some_made None o e = ap is_some e
some_made (Some s) o e = ap is_some e
