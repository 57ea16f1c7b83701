use Rattle.std.proofs.Common.{◌≡◌, ◌<◌, ℕ, List, Some, false, length, true}
use Rattle.std.specs.Prelude.{◌-◌}
use Rattle.sheet_format.specs.Drafts.{rows_of_draft}
use Rattle.csv.specs.Machine.{ends_at_end}
use Rattle.csv.specs.Reading.{Ready, default_config, is_flexible, records_from, source_of}
use Rattle.csv.specs.declared.reader.Trim.TheVariants as trim
use Rattle.sheet_format.specs.Rows.{records_of}
use Rattle.sheet_format.proofs.FirstFaults.{HasRead}
use Rattle.sheet_format.proofs.reading.read_rows.Given as goal

abbrev pub invariant-rows : goal.invariant-rows
invariant-rows l = (l.reader.trim ≡ trim.None) × Ready l.reader × (l.reader.config ≡ default_config)
    × (ends_at_end l.reader.state ≡ false)
    × (y : List ℕ) × (source_of (λ s. Some s.now) l.reader ≡ Some y)
    × (n : ℕ) × (length y < n)
    × HasRead (records_of l.fn.bytes) l.draft (records_from default_config n l.reader.state y)
    × (is_flexible l.reader ≡ true)

abbrev pub decreases-rows : goal.decreases-rows
decreases-rows l = length (records_of l.fn.bytes) - length (rows_of_draft l.draft)
