-- The section of a report that has a table beside the adjusted directions (profile), in the language
-- of the report but for the verdict. Its lines are at most 78 characters wide, but for that of a path.
use Rattle.std.specs.Prelude.{ℕ, Bool, List, ◌++◌, length, codes, decimal, if◌then◌else◌, nat_le, ℤ}
use Rattle.std.specs.List.{flat_map}
use Rattle.adjust_kernel.specs.Stations.{StationValue}
use Rattle.angle_texts.specs.MgonTexts.{mgon_text, thousandths_text}
use Rattle.report_phrases.specs.Phrases.{said}
use Rattle.report_phrases.specs.declared.language.Language.{Language}
use Rattle.report_phrases.specs.declared.phrase.Phrase.TheVariants as phrase
use Rattle.station_compare.specs.AgreementTexts.{targets_word}
use Rattle.station_compare.specs.declared.how_far.HowFar.{HowFar}
use Rattle.station_differences.specs.DifferenceTexts.{are_short, from_median_text, stated_text}
use Rattle.station_differences.specs.Medians.{median_of}
use Rattle.station_differences.specs.declared.compared.TargetDifference.{TargetDifference}
use Rattle.station_report.specs.Columns.{left_text, right_text}
use Rattle.station_report.specs.NoteTexts.{label_text}
use Rattle.station_report.specs.ReportTexts.{entry_text, file_text}

-- The line of a target: its name, its stated direction in gon, and the difference in mgon, as it is
-- and less the median.
abbrev pub target_line : Bool → ℤ → TargetDifference → List ℕ
target_line short median row =
    codes "  " ++ (left_text 16 row.target
    ++ (right_text 18 (stated_text short row.stated)
    ++ (right_text 14 (mgon_text row.difference)
    ++ (right_text 19 (from_median_text median row.difference) ++ codes "\n"))))

-- The lines of all targets: stated directions with six decimals, or with nine where some needs
-- more; and the differences less the lower median of all, which is that of `differences`.
abbrev pub target_lines : List TargetDifference → List ℕ
target_lines rows = flat_map (target_line (are_short rows) (median_of rows)) rows

-- the limit of the comparison: of units of 0.001 mgon
abbrev pub limit_text : Language → ℕ → List ℕ
limit_text language limit =
    entry_text (said language phrase.LimitOfDifferences) (thousandths_text limit ++ codes " mgon")

-- a verdict: of how many targets, and how far they are apart, each after words of its own
abbrev pub found_line : List ℕ → List ℕ → StationValue → ℕ → List ℕ
found_line verdict words station apart =
    verdict ++ (decimal (length station.targets) ++ (targets_word (length station.targets)
    ++ (words ++ (thousandths_text apart ++ codes " mgon\n"))))

-- The line of the verdict: the table agrees where its directions are no further apart than the limit.
abbrev pub verdict_line : StationValue → HowFar → List ℕ
verdict_line station h =
    if nat_le h.apart h.limit
    then found_line (codes "agrees: ") (codes ", within ") station h.apart
    else found_line (codes "apart: ") (codes ", by ") station h.apart

-- The end of the section: the table as it was named, the limit, and the verdict.
abbrev pub verdict_text : Language → List ℕ → StationValue → HowFar → List ℕ
verdict_text language path station h =
    codes "\n" ++ (file_text (said language phrase.Table) path ++ (limit_text language h.limit
    ++ (label_text (said language phrase.Comparison) ++ verdict_line station h)))

-- The section.
abbrev pub section_text : Language → List ℕ → StationValue → List TargetDifference → HowFar
    → List ℕ
section_text language path station rows h =
    said language phrase.StatedDirections
    ++ (said language phrase.StatedColumns
    ++ (target_lines rows ++ verdict_text language path station h))
