use Rattle.std.proofs.Common.{◌≡◌, ◌<◌, ℕ, List, Some, true}
use Rattle.std.specs.List.{flat_map}
use Rattle.csv.specs.Reading.{Reached, Ready, is_flexible, source_of, strip_bom}
use Rattle.csv.specs.declared.parser.State.TheVariants as st
use Rattle.csv.specs.declared.reader.Trim.TheVariants as trim
use Rattle.station_page.specs.TextRecords.{record_text, separated_by}
use Rattle.station_page.proofs.records.records_text.Given as goal

abbrev pub invariant-loop-row : goal.invariant-loop-row
invariant-loop-row l =
    (l.row-iterator.rdr.trim ≡ trim.None) × Ready l.row-iterator.rdr
    × (0 < l.row-iterator.left)
    × (l.row-iterator.rdr.config ≡ separated_by l.fn.separator)
    × (is_flexible l.row-iterator.rdr ≡ true)
    × (rest : List ℕ) × (source_of (λ s. Some s.now) l.row-iterator.rdr ≡ Some rest)
    × (rows : List (List (List ℕ)))
    × Reached (separated_by l.fn.separator) st.StartRecord (strip_bom l.fn.text) rows
    l.row-iterator.rdr.state rest
    × (l.records.items ≡ flat_map record_text rows)
