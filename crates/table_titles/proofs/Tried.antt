-- The row of titles, by the separators that were tried.
use Rattle.std.proofs.Common.{◌≡◌, ℕ, List, Option, Some, None, true, false, refl}
use Rattle.std.specs.Prelude.{option_map}
use Rattle.std.specs.Option.{is_some}
use Rattle.csv.specs.Records.{fields_of}
use Rattle.csv.specs.declared.record.ByteRecord.{ByteRecord}
use Rattle.table_titles.specs.Titles.{comma, semicolon, tab, title_row, title_row_by}

module _ (title bytes : List ℕ) where
  -- One by commas is the one.
  pub by-commas : (row : Option ByteRecord) → is_some row ≡ true
      → option_map fields_of row ≡ title_row_by title bytes comma
      → option_map fields_of row ≡ title_row title bytes
  unfolding title_row
  by-commas None some is = cc some
  by-commas (Some row) some is = rw (← is) refl

  -- Where there is none, one by semicolons is.
  pub by-semicolons : (first row : Option ByteRecord) → is_some first ≡ false
      → option_map fields_of first ≡ title_row_by title bytes comma → is_some row ≡ true
      → option_map fields_of row ≡ title_row_by title bytes semicolon
      → option_map fields_of row ≡ title_row title bytes
  unfolding title_row
  by-semicolons (Some first) row none first-is some is = cc none
  by-semicolons None None none first-is some is = cc some
  by-semicolons None (Some row) none first-is some is = rw (← first-is, ← is) refl

  -- Where there is none either, it is the one by tabs.
  pub by-tabs : (first second : Option ByteRecord) → is_some first ≡ false
      → option_map fields_of first ≡ title_row_by title bytes comma → is_some second ≡ false
      → option_map fields_of second ≡ title_row_by title bytes semicolon
      → title_row title bytes ≡ title_row_by title bytes tab
  unfolding title_row
  by-tabs (Some first) second none first-is nor second-is = cc none
  by-tabs None (Some second) none first-is nor second-is = cc nor
  by-tabs None None none first-is nor second-is = rw (← first-is, ← second-is) refl
