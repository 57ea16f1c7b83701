use Rattle.std.proofs.Common.{◌≡◌, ℕ, List, Bor, Some, length, true}
use Rattle.std.specs.Prelude.{[], unwrap_or}
use Rattle.csv.specs.Reading.{Ready, is_flexible, source_of}
use Rattle.csv.specs.declared.reader.Trim.TheVariants as trim
use Rattle.direction_table.specs.ByteSteps.{config_with}
use Rattle.table_titles.proofs.RowsLeft.{IsLeft}
use Rattle.table_titles.proofs.row.title_row_by.Given as goal

abbrev pub invariant-rows : goal.invariant-rows
invariant-rows l = (l.reader.trim ≡ trim.None) × Ready l.reader
    × (l.reader.config ≡ config_with l.fn.separator) × (is_flexible l.reader ≡ true)
    × IsLeft (λ (b : Bor (List ℕ)). Some b.now) l.fn.title l.fn.bytes l.fn.separator l.reader

abbrev pub decreases-rows : goal.decreases-rows
decreases-rows l =
    length (unwrap_or (source_of (λ (b : Bor (List ℕ)). Some b.now) l.reader) [])
