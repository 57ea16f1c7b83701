-- What each answer makes of `out`, and what the run then answers.
use Rattle.std.specs.Prelude.{◌≡◌, ◌⊎◌, ℕ, List, Option, Some, None, Result, Ok, Err, IsOk, true}
use Rattle.byte_ends.specs.Sink.{WriterChange}
use Rattle.station_check.specs.RunEndings.{IsCutShort, IsWritten, PrintsAnswer}
use Rattle.station_compare.specs.declared.fault.CompareFault.{CompareFault}
use Rattle.station_compare.specs.declared.fault.CompareFault.TheVariants.{Apart, Write}
use Rattle.station_compare.specs.declared.how_far.HowFar.{HowFar}
use Rattle.table_report.specs.Stating.{ReportValue}

-- A text: it is written whole and flushed, or in part where a call of `out` failed.
abbrev pub PrintsText : {A : Type 0} → List ℕ → Result A CompareFault → WriterChange → Type 0
PrintsText text r out = PrintsAnswer (λ text. text) Write (Ok text) r out

-- What is answered of a report that was written whole: that the directions are apart, where they
-- are beyond the limit.
abbrev pub IsVerdict : {A : Type 0} → Option HowFar → Result A CompareFault → Type 0
IsVerdict None r = IsOk r
IsVerdict (Some how_far) r = r ≡ Err (Apart how_far)

-- A report of this text: where it was written whole and flushed, its verdict, by how far its
-- directions are apart beyond the limit; where a call of `out` failed, that, and some of the first
-- bytes were written.
abbrev pub PrintsVerdict : {A : Type 0} → List ℕ → Option HowFar → Result A CompareFault
    → WriterChange → Type 0
PrintsVerdict text beyond r out =
    (IsVerdict beyond r × IsWritten text out × (out.is_flushed ≡ true))
    ⊎ ((r ≡ Err Write) × IsCutShort text out)

-- A report with a table.
abbrev pub PrintsReport : {A : Type 0} → ReportValue → Result A CompareFault → WriterChange → Type 0
PrintsReport report r out = PrintsVerdict report.text report.beyond r out
