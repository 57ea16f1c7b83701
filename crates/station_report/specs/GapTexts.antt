-- The lines of the head of a report that say which directions a station lacks (profile).
use Rattle.std.specs.Prelude.{ℕ, ◌*◌, ◌-◌, List, [], ◌++◌, length, codes, decimal, ◌==◌}
use Rattle.std.specs.Prelude.{if◌then◌else◌}
use Rattle.std.specs.Option.{option_map_or}
use Rattle.adjust_kernel.specs.Stations.{StationValue}
use Rattle.report_phrases.specs.Phrases.{said}
use Rattle.report_phrases.specs.declared.language.Language.{Language}
use Rattle.report_phrases.specs.declared.phrase.Phrase.TheVariants as phrase
use Rattle.station_report.specs.Columns.{each_place, left_text}
use Rattle.station_report.specs.Readings.{name_of, number_of, place_of}

-- How many directions a station lacks: of as many as all sets of all targets have, those that it
-- has not.
abbrev pub gaps_of : StationValue → ℕ
gaps_of station = length station.sets * length station.targets - length station.obs

-- the number of a set, after a blank, where the set lacks a target
abbrev pub lacking_number : StationValue → ℕ → ℕ → List ℕ
lacking_number station target set = option_map_or (λ place. []) (place_of station set target)
    (codes " " ++ decimal (number_of station set))

-- the numbers of all sets that lack a target
abbrev pub lacking_sets : StationValue → ℕ → List ℕ
lacking_sets station target = each_place (length station.sets) (lacking_number station target)

-- the line of a target of this name, where some sets lack it
abbrev pub gap_line : Language → List ℕ → List ℕ → List ℕ
gap_line language name sets =
    if length sets == 0 then []
    else codes "  " ++ (left_text 20 name
    ++ (said language phrase.InSet ++ (sets ++ codes "\n")))

-- the line of a target, by its place
abbrev pub gaps_at : Language → StationValue → ℕ → List ℕ
gaps_at language station target =
    gap_line language (name_of station target) (lacking_sets station target)
