-- The text of a report (profile), in the order in which it is printed. Its fixed phrases are those
-- of its language. Lines are at most 78 characters wide, which a page of A4 holds, but for those of
-- paths, notes and missing directions.
use Rattle.std.specs.Prelude.{ℕ, ◌+◌, ◌-◌, ◌*◌, ◌/◌, ◌%◌, List, [], ◌++◌, length, codes, decimal, ℤ, pos}
use Rattle.std.specs.Prelude.{Option, Some, None, slice_index_or, if◌then◌else◌, ◌==◌}
use Rattle.std.specs.Prelude.{◌&&◌, nat_le, nat_lt}
use Rattle.std.specs.Option.{option_map_or}
use Rattle.adjust_kernel.specs.Stations.{StationValue}
use Rattle.angle_texts.specs.MgonTexts.{mgon_text, short_mgon_text, thousandths_text}
use Rattle.byte_digests.specs.NameTexts.{name_text}
use Rattle.direction_table.specs.Texts.{direction_text}
use Rattle.adjust_kernel.specs.declared.bounds.TheConstants.{TURN}
use Rattle.adjust_kernel.specs.declared.units.TheConstants.{HALF_UNIT, UNIT}
use Rattle.report_phrases.specs.Phrases.{said}
use Rattle.report_phrases.specs.declared.language.Language.{Language}
use Rattle.report_phrases.specs.declared.phrase.Phrase.TheVariants as phrase
use Rattle.station_book.specs.declared.result_limits.ResultLimits.{ResultLimits}
use Rattle.station_book.specs.Stations.{SurveyedStation}
use Rattle.station_check.specs.declared.version.TheConstants.{VERSION}
use Rattle.station_report.specs.Columns.{each_place, left_text, right_text}
use Rattle.station_report.specs.Deviations.{degrees_of}
use Rattle.station_report.specs.FaceMeans.{half_mean_below, mean_below, spread_below}
use Rattle.station_report.specs.GapTexts.{gaps_at, gaps_of}
use Rattle.station_report.specs.NoteTexts.{ReportHead, notes_text, signature_text}
use Rattle.station_report.specs.NoteTexts.{label_text as label_column}
use Rattle.station_report.specs.Readings.{first_value, name_of, number_of, place_of, reading_one}
use Rattle.station_report.specs.Readings.{reading_two, zenith_at, zenith_mean, zenith_one, zenith_two}
use Rattle.station_report.specs.Readings.{set_at, target_at, two_c_at, two_i_at, value_at}
use Rattle.station_report.specs.Zeniths.{mean_of_zeniths, zenith_deviation, zeniths_of}
use Rattle.station_report.specs.declared.accuracy.Accuracy.{Accuracy}
use Rattle.station_results.specs.Greatest.{residual_at}
use Rattle.station_results.specs.declared.adjusted.AdjustedObs.{AdjustedObs}

-- a direction in gon with five decimals, as it was read: of units of 0.00001 gon
abbrev pub read_text : ℕ → List ℕ
read_text units = direction_text 5 (10_000 * units)

-- a direction in gon with six decimals: of half units
abbrev pub mean_text : ℕ → List ℕ
mean_text half_units = direction_text 6 (HALF_UNIT * half_units)

-- a line that says what something is: its name, in a column of 22 characters, and the text
abbrev pub entry_text : List ℕ → List ℕ → List ℕ
entry_text name text = label_column name ++ (text ++ codes "\n")

-- A line that names a file: the path, in which a line feed, a carriage return and a backslash are
-- escaped as `sha256sum` escapes them, and each other control byte is a code, so that no path makes
-- lines of its own or moves what a terminal shows by a control byte of ASCII.
abbrev pub file_text : List ℕ → List ℕ → List ℕ
file_text name path = entry_text name (name_text path)

-- the line of the program and its version, and an empty one
abbrev pub title_text : Language → List ℕ
title_text language = codes "station_check " ++ (VERSION.now ++ said language phrase.Title)

-- the program and its version, the field file, and the station
abbrev pub named_text : Language → List ℕ → StationValue → List ℕ
named_text language path station = title_text language
    ++ (file_text (said language phrase.FieldFile) path
    ++ entry_text (said language phrase.Station) station.name)

-- how much was measured
abbrev pub counts_text : Language → StationValue → List ℕ
counts_text language station =
    entry_text (said language phrase.Sets) (decimal (length station.sets))
    ++ (entry_text (said language phrase.Targets) (decimal (length station.targets))
    ++ entry_text (said language phrase.TwoFaceDirections) (decimal (length station.obs)))

-- How many directions are missing; and a line of each target that some sets lack.
abbrev pub gaps_text : Language → StationValue → List ℕ
gaps_text language station =
    entry_text (said language phrase.MissingDirections) (decimal (gaps_of station))
    ++ each_place (length station.targets) (gaps_at language station)

-- a limit of residuals in mgon with three decimals: of half units
abbrev pub residual_limit_text : ℕ → List ℕ
residual_limit_text half_units =
    thousandths_text (HALF_UNIT / UNIT * half_units) ++ codes " mgon"

-- the limits of face differences, and that of residuals: each that was in force
abbrev pub limits_text : Language → ResultLimits → List ℕ
limits_text language limits =
    entry_text (said language phrase.LimitOfTwoC)
    (short_mgon_text (pos limits.faces.two_c) ++ codes " mgon")
    ++ (entry_text (said language phrase.LimitOfTwoI)
    (short_mgon_text (pos limits.faces.two_i) ++ codes " mgon")
    ++ entry_text (said language phrase.LimitOfResiduals) (residual_limit_text limits.residual))

-- The head: the program and its version, the field file as it was named, the station, what was told
-- to note, how much was measured, what is missing, and the limits.
abbrev pub head_text : ReportHead → ResultLimits → StationValue → List ℕ
head_text head limits station =
    let language = head.notes.language in
    named_text language head.path station
    ++ (notes_text head.notes ++ (counts_text language station
    ++ (gaps_text language station ++ limits_text language limits)))

-- the number of the set of an observation, and the name of its target
abbrev pub label_text : StationValue → ℕ → List ℕ
label_text station place =
    right_text 5 (decimal (number_of station (set_at station place)))
    ++ (codes "  " ++ left_text 16 (name_of station (target_at station place)))

-- What was read in face I and in face II, by a two-face direction and its 2c; and the mean less the
-- two-face direction of the first observation of the set: in half units, from 0 and below a full
-- circle.
abbrev pub angles_text : ℕ → ℤ → ℕ → List ℕ
angles_text value two_c first =
    right_text 11 (read_text (reading_one value two_c))
    ++ (right_text 11 (read_text (reading_two value two_c))
    ++ right_text 13 (mean_text ((value + (TURN - first)) % TURN)))

-- 2c and 2i, and the end of the line
abbrev pub differences_text : ℤ → ℤ → List ℕ
differences_text two_c two_i =
    right_text 10 (short_mgon_text two_c) ++ (right_text 10 (short_mgon_text two_i) ++ codes "\n")

-- The line of an observation: the number of its set, the name of its target, what was read in face
-- I and in face II, their mean less that of the first observation of the set, 2c and 2i.
abbrev pub reading_line : SurveyedStation → ℕ → List ℕ
reading_line its place =
    label_text its.station place
    ++ (angles_text (value_at its.station place) (two_c_at its place) (first_value its.station place)
    ++ differences_text (two_c_at its place) (two_i_at its place))

-- the line of an observation, if the observation is of this set
abbrev pub line_of : StationValue → (ℕ → List ℕ) → ℕ → ℕ → List ℕ
line_of station line set place = if set_at station place == set then line place else []

-- The lines of a set, after an empty one.
abbrev pub set_text : StationValue → (ℕ → List ℕ) → ℕ → List ℕ
set_text station line set = codes "\n" ++ each_place (length station.obs) (line_of station line set)

-- The lines of all observations, set by set.
abbrev pub sets_text : StationValue → (ℕ → List ℕ) → List ℕ
sets_text station line = each_place (length station.sets) (set_text station line)

-- a line below the columns of 2c and of 2i: words, and a number of 0.01 mgon of each
abbrev pub foot_line : List ℕ → ℤ → ℤ → List ℕ
foot_line words two_c two_i =
    codes "  " ++ (left_text 56 words
    ++ (right_text 10 (short_mgon_text two_c)
    ++ (right_text 10 (short_mgon_text two_i) ++ codes "\n")))

-- The means of 2c and of 2i, half of them, and of each the greatest less the least.
abbrev pub foot_text : Language → SurveyedStation → List ℕ
foot_text language its =
    let count = length its.station.obs in
    codes "\n"
    ++ (foot_line (said language phrase.Mean)
    (mean_below count (two_c_at its)) (mean_below count (two_i_at its))
    ++ (foot_line (said language phrase.HalfOfMean)
    (half_mean_below count (two_c_at its)) (half_mean_below count (two_i_at its))
    ++ foot_line (said language phrase.Spread)
    (spread_below count (two_c_at its)) (spread_below count (two_i_at its))))

-- The readings, set by set, and what 2c and 2i have together.
abbrev pub readings_text : Language → SurveyedStation → List ℕ
readings_text language its =
    said language phrase.Readings
    ++ (said language phrase.ReadingColumns
    ++ (sets_text its.station (reading_line its) ++ foot_text language its))

-- the zenith angles that were read in face I and in face II, and their mean: by that of face I and 2i
abbrev pub zeniths_text : ℤ → ℤ → List ℕ
zeniths_text zenith two_i =
    right_text 11 (read_text (zenith_one zenith))
    ++ (right_text 11 (read_text (zenith_two zenith two_i))
    ++ (right_text 13 (mean_text (zenith_mean zenith two_i)) ++ codes "\n"))

-- The line of an observation: the number of its set, the name of its target, and its zenith angles.
abbrev pub zenith_line : SurveyedStation → ℕ → List ℕ
zenith_line its place =
    label_text its.station place ++ zeniths_text (zenith_at its place) (two_i_at its place)

-- the standard deviation of the mean of zenith angles in mgon; a dash where there is one alone
abbrev pub zenith_deviation_text : List ℕ → List ℕ
zenith_deviation_text zeniths =
    if nat_lt (length zeniths) 2 then codes "-" else thousandths_text (zenith_deviation zeniths)

-- the mean of zenith angles in gon with six decimals
abbrev pub zenith_mean_text : List ℕ → List ℕ
zenith_mean_text zeniths = direction_text 6 (UNIT * mean_of_zeniths zeniths)

-- how many zenith angles there are, their mean, and the standard deviation of that mean
abbrev pub zenith_numbers_text : List ℕ → List ℕ
zenith_numbers_text zeniths =
    right_text 6 (decimal (length zeniths))
    ++ (right_text 13 (zenith_mean_text zeniths)
    ++ (right_text 20 (zenith_deviation_text zeniths) ++ codes "\n"))

-- The line of a target: its name, and the numbers of its zenith angles, of which each set that has
-- the target has one.
abbrev pub zenith_mean_line : SurveyedStation → ℕ → List ℕ
zenith_mean_line its target =
    codes "  " ++ (left_text 16 (name_of its.station target)
    ++ zenith_numbers_text (zeniths_of its target))

-- The means of zenith angles, target by target.
abbrev pub zenith_means_text : Language → SurveyedStation → List ℕ
zenith_means_text language its =
    said language phrase.ZenithMeans
    ++ (said language phrase.ZenithMeanColumns
    ++ each_place (length its.station.targets) (zenith_mean_line its))

-- The zenith angles, set by set, and their means by target.
abbrev pub zenith_angles_text : Language → SurveyedStation → List ℕ
zenith_angles_text language its =
    said language phrase.ZenithAngles
    ++ (said language phrase.ZenithColumns
    ++ (sets_text its.station (zenith_line its) ++ zenith_means_text language its))

-- The line of a target: its name, and its adjusted direction.
abbrev pub direction_line : StationValue → List ℕ → ℕ → List ℕ
direction_line station directions target =
    codes "  " ++ (left_text 16 (name_of station target)
    ++ (right_text 13 (direction_text 6 (slice_index_or directions target 0)) ++ codes "\n"))

-- The adjusted directions, target by target.
abbrev pub directions_text : Language → StationValue → List ℕ → List ℕ
directions_text language station directions =
    said language phrase.Directions
    ++ (said language phrase.DirectionColumns
    ++ each_place (length station.targets) (direction_line station directions))

-- the residual of a set and a target in mgon; a dash where the set has no such observation
abbrev pub cell_text : StationValue → List AdjustedObs → ℕ → ℕ → List ℕ
cell_text station rows target set =
    option_map_or (λ place. mgon_text (residual_at rows place)) (place_of station set target)
    (codes "-")

-- what stands in the column of a set, if it is one of the seven from one on
abbrev pub column_text : ℕ → ℕ → List ℕ → List ℕ
column_text start set text =
    if nat_le start set && nat_lt set (start + 7) then right_text 8 text else []

-- the numbers of seven sets from one on, or of as many as there are, in their columns
abbrev pub number_columns : StationValue → ℕ → List ℕ
number_columns station start =
    each_place (length station.sets)
    (λ set. column_text start set (decimal (number_of station set)))

-- the line above the columns
abbrev pub numbers_line : Language → StationValue → ℕ → List ℕ
numbers_line language station start =
    said language phrase.ResidualColumns ++ (number_columns station start ++ codes "\n\n")

-- the residuals of a target in these sets, in their columns
abbrev pub cell_columns : StationValue → List AdjustedObs → ℕ → ℕ → List ℕ
cell_columns station rows start target =
    each_place (length station.sets)
    (λ set. column_text start set (cell_text station rows target set))

-- the line of a target: its name, and its residuals in these sets
abbrev pub residuals_line : StationValue → List AdjustedObs → ℕ → ℕ → List ℕ
residuals_line station rows start target =
    codes "  " ++ (left_text 16 (name_of station target)
    ++ (cell_columns station rows start target ++ codes "\n"))

-- the residuals of seven sets from one on: their numbers, and a line for each target
abbrev pub group_text : Language → StationValue → List AdjustedObs → ℕ → List ℕ
group_text language station rows start =
    numbers_line language station start
    ++ each_place (length station.targets) (residuals_line station rows start)

-- the same, at each seventh set
abbrev pub group_at : Language → StationValue → List AdjustedObs → ℕ → List ℕ
group_at language station rows start =
    if start % 7 == 0 then group_text language station rows start else []

-- The residuals, a row for each target and a column for each set, seven sets beside each other.
abbrev pub residuals_text : Language → StationValue → List AdjustedObs → List ℕ
residuals_text language station rows =
    said language phrase.Residuals
    ++ each_place (length station.sets) (group_at language station rows)

-- the set and the target of an observation
abbrev pub place_text : Language → StationValue → ℕ → List ℕ
place_text language station place =
    decimal (number_of station (set_at station place))
    ++ (said language phrase.AndTarget ++ name_of station (target_at station place))

-- the residual of an observation, with its set and its target
abbrev pub greatest_text : Language → StationValue → List AdjustedObs → ℕ → List ℕ
greatest_text language station rows place =
    mgon_text (residual_at rows place)
    ++ (said language phrase.AndSet ++ place_text language station place)

-- a sum of squares in mgon^2 with six decimals: of squares of 0.001 mgon
abbrev pub squares_text : ℕ → List ℕ
squares_text squares = direction_text 6 (1_000 * squares) ++ codes " mgon^2"

-- a standard deviation, its unit mgon and of what it is: of units of 0.001 mgon
abbrev pub deviation_text : ℕ → List ℕ → List ℕ
deviation_text units of_what = mgon_text (pos units) ++ of_what

-- the standard deviation of each adjusted direction, if it is stated
abbrev pub of_adjusted_text : Language → Option ℕ → List ℕ
of_adjusted_text language None = said language phrase.NotOfAdjusted
of_adjusted_text language (Some units) = deviation_text units (said language phrase.OfEachAdjusted)

-- How accurate directions are: the sum of the squares of all residuals, the standard deviation of
-- one two-face direction, and that of each adjusted direction.
abbrev pub accuracy_text : Language → Accuracy → List ℕ
accuracy_text language a =
    entry_text (said language phrase.SumOfSquares) (squares_text a.squares)
    ++ (entry_text (said language phrase.StandardDeviation)
    (deviation_text a.of_one (said language phrase.OfOneDirection))
    ++ entry_text (said language phrase.StandardDeviation)
    (of_adjusted_text language a.of_adjusted))

-- The end: the greatest residual, the degrees of freedom, and the accuracy.
abbrev pub end_text : Language → StationValue → List AdjustedObs → ℕ → Accuracy → List ℕ
end_text language station rows greatest accuracy =
    codes "\n"
    ++ (entry_text (said language phrase.GreatestResidual)
    (greatest_text language station rows greatest)
    ++ (entry_text (said language phrase.DegreesOfFreedom) (decimal (degrees_of station))
    ++ accuracy_text language accuracy))

-- What stands in place of residuals where no angle was measured twice: each would be 0, whatever was
-- read.
abbrev pub nothing_text : Language → List ℕ
nothing_text language = codes "\n"
    ++ entry_text (said language phrase.DegreesOfFreedom) (said language phrase.NothingToCompare)

-- What the sets say of each other: the residuals and the end; or that there is nothing to compare.
abbrev pub agreement_text : Language → StationValue → List AdjustedObs → ℕ → Option Accuracy
    → List ℕ
agreement_text language station rows greatest None = nothing_text language
agreement_text language station rows greatest (Some accuracy) =
    residuals_text language station rows ++ end_text language station rows greatest accuracy

-- The report, with a section after the adjusted directions: that of a table beside them, or none.
abbrev pub report_text : ReportHead → ResultLimits → SurveyedStation → List ℕ → List ℕ
    → List AdjustedObs → ℕ → Option Accuracy → List ℕ
report_text head limits its directions section rows greatest accuracy =
    let language = head.notes.language in
    head_text head limits its.station
    ++ (readings_text language its
    ++ (zenith_angles_text language its
    ++ (directions_text language its.station directions
    ++ (section
    ++ (agreement_text language its.station rows greatest accuracy
    ++ signature_text head.notes)))))
