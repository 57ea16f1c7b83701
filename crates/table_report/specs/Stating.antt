-- What a report with a table says, in the order of the sentence: it is the report of a station; and
-- of the table, which states a direction of each of its targets, it has, after the adjusted
-- directions, each stated direction with its difference from the least-squares one after the
-- rotation that makes the largest difference smallest, and that difference less the lower median of
-- all; and how far the directions, with the numbers that its rows write, are apart: within the limit
-- in force, or beyond it.
use Rattle.std.specs.Prelude.{◌≡◌, ℕ, List, Option, Some, None, ℤ, if◌then◌else◌, nat_le}
use Rattle.adjust_kernel.specs.Stations.{StationValue}
use Rattle.direction_table.specs.Tables.{IsTableText}
use Rattle.direction_table.specs.declared.form.TableForm.{TableForm}
use Rattle.directions_apart.specs.Apart.{stated_by}
use Rattle.least_directions.specs.LeastDirections.{AreApart}
use Rattle.report_phrases.specs.declared.language.Language.{Language}
use Rattle.station_book.specs.declared.result_limits.ResultLimits.{ResultLimits}
use Rattle.station_book.specs.Stations.{SurveyedStation}
use Rattle.station_compare.specs.LimitInForce.{limit_in_force, off_in}
use Rattle.station_compare.specs.declared.how_far.HowFar.{HowFar}
use Rattle.station_differences.specs.Differences.{AreCompared}
use Rattle.station_differences.specs.declared.compared.TargetDifference.{TargetDifference}
use Rattle.station_report.specs.NoteTexts.{ReportHead}
use Rattle.station_report.specs.Stating.{IsReportText}
use Rattle.table_report.specs.Sections.{section_text}

-- What is asked of a report with a table: what stands in its head that is not of the station; the
-- path of the table, as it is named in it; how the table is to be read; and the limit of the
-- comparison, in units of 0.000001 gon, where one is stated.
pub record ReportAsked : Type 0 where
  pub head : ReportHead
  pub table_path : List ℕ
  pub form : TableForm
  pub within : Option ℕ

-- A report with a table: its text; and how far the directions are apart, where that is beyond the
-- limit in force.
pub record ReportValue : Type 0 where
  pub text : List ℕ
  pub beyond : Option HowFar

-- how far directions are apart, where that is beyond the limit
abbrev pub beyond_of : HowFar → Option HowFar
beyond_of h = if nat_le h.apart h.limit then None else Some h

-- This is the section in a language of stated directions beside their station, with this limit,
-- where the numbers of the table may be off from them by so many parts.
pub record IsSection (language : Language) (station : StationValue) (path : List ℕ)
    (directions : List ℤ) (off limit : ℕ) (section : List ℕ) (beyond : Option HowFar)
    : Type 0 where
  -- The rows of the targets, with these directions and the least-squares ones, and their
  -- differences.
  pub rows : List TargetDifference
  pub compared : AreCompared station directions rows
  -- So far are they apart, as the comparison says; and the limit that is printed is the one that
  -- they are held to.
  pub how_far : HowFar
  pub are_apart : AreApart station (stated_by directions) off how_far.apart
  pub held_to : how_far.limit ≡ limit
  pub section_is : section ≡ section_text language path station rows how_far
  pub beyond_is : beyond ≡ beyond_of how_far

-- This is the report of a station with these stated directions, from which the numbers of the table
-- may be off by so many parts; it states these limits.
pub record IsReportBeside (asked : ReportAsked) (limits : ResultLimits) (its : SurveyedStation)
    (directions : List ℤ) (off limit : ℕ) (report : ReportValue) : Type 0 where
  pub section : List ℕ
  pub is_section : IsSection asked.head.notes.language its.station asked.table_path directions off
      limit section report.beyond
  pub is_report : IsReportText asked.head limits its section report.text

-- This is the report of a station with the directions that a table's bytes state. The limit is the
-- one in force: the stated one, or the usual one for the steps to which the table rounds.
pub record IsReportOfTable (asked : ReportAsked) (limits : ResultLimits) (its : SurveyedStation)
    (bytes : List ℕ) (report : ReportValue) : Type 0 where
  pub directions : List ℤ
  pub states : IsTableText asked.form its.station.targets bytes directions
  pub beside : IsReportBeside asked limits its directions
      (off_in asked.form its.station.targets bytes)
      (limit_in_force asked.form asked.within its.station.targets bytes) report
