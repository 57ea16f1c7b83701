-- What is told of the stations of a field file, as text: to be compared with the field book
-- (profile).
use Rattle.std.specs.Prelude.{ℕ, ◌+◌, ◌/◌, Bool, false, ◌&&◌, not, List, [], ◌∷◌, ◌++◌, ◌==◌}
use Rattle.std.specs.Prelude.{if◌then◌else◌, Option, Some, None, codes, decimal}
use Rattle.std.specs.List.{flat_map}
use Rattle.std.specs.Str.{bytes_eq}
use Rattle.station_book.specs.Places.{is_among, with_new}
use Rattle.set_marks.specs.FaultNames.{mark_kind_name}
use Rattle.set_marks.specs.Zeniths.{spread}
use Rattle.set_marks.specs.declared.equal_sets.SetPair.{SetPair}
use Rattle.set_marks.specs.declared.flaw.Flaw.{Flaw}
use Rattle.set_marks.specs.declared.marked.Marked.{Marked}
use Rattle.set_marks.specs.declared.recognized.Recognized.{Recognized}
use Rattle.set_marks.specs.declared.remarks.Remarks.{Remarks}
use Rattle.set_marks.specs.declared.zeniths.ZenithRange.{ZenithRange}
use Rattle.station_mark.specs.LeadsOn.{leads_on}

-- the ending of a word for this many: none for one
abbrev pub plural : ℕ → List ℕ
plural count = if count == 1 then [] else codes "s"

-- so many of a thing: `1 set`, `4 sets`
abbrev pub counted : ℕ → List ℕ → List ℕ
counted count thing = decimal count ++ (codes " " ++ (thing ++ plural count))

-- so many readings are in no set of the copy: `37 readings stay outside`
abbrev pub left_outside_text : ℕ → List ℕ
left_outside_text readings = counted readings (codes "reading")
    ++ (if readings == 1 then codes " stays outside" else codes " stay outside")

-- of a station without sets, how many readings it has: `no sets; 37 readings stay outside`
abbrev pub without_sets_text : ℕ → List ℕ
without_sets_text readings = codes "no sets; " ++ left_outside_text readings

-- a fault, and where it stands: `block 14: ReadTwice`
unfoldable pub flaw_text : Flaw → List ℕ
flaw_text f = codes "block " ++ (decimal f.block ++ (codes ": " ++ mark_kind_name f.kind))

-- of a station with a fault, this and how many readings the station has:
-- `not recognized, block 14: ReadTwice; 22 readings stay outside`
abbrev pub unrecognized_text : Flaw → ℕ → List ℕ
unrecognized_text f readings =
    codes "not recognized, " ++ (flaw_text f ++ (codes "; " ++ left_outside_text readings))

-- the same, and what leads on
abbrev pub fault_text : Flaw → ℕ → List ℕ
fault_text f readings = unrecognized_text f readings ++ (codes ": " ++ leads_on f.kind)

-- the target that opens the sets, and the one at which the first set turns: `, from TOWER to P12`
abbrev pub ends_text : Option Remarks → List ℕ
ends_text None = []
ends_text (Some m) = codes ", from " ++ (m.opening ++ (codes " to " ++ m.turning))

-- how many sets, and of how many targets: `4 sets, 6 targets`
abbrev pub sets_text : Recognized → List ℕ
sets_text r = counted r.sets (codes "set") ++ (codes ", " ++ counted r.targets (codes "target"))

-- the readings in none of the sets: `; 1 reading before them and 2 after stay outside`
abbrev pub outside_text : Recognized → List ℕ
outside_text r =
    codes "; " ++ (counted r.before (codes "reading") ++ (codes " before them and "
    ++ (decimal r.after ++ codes " after stay outside")))

-- what is told of a station with sets:
-- `4 sets, 6 targets, from TOWER to P12; 1 reading before them and 2 after stay outside`
abbrev pub with_sets_text : Recognized → List ℕ
with_sets_text r = sets_text r ++ (ends_text r.remarks ++ outside_text r)

-- what is told of a station with readings, and without a fault
abbrev pub faultless_text : Recognized → List ℕ
faultless_text r = if r.sets == 0 then without_sets_text r.before else with_sets_text r

-- what is told of a station with readings, which may have a fault
abbrev pub told_text : Recognized → Option Flaw → List ℕ
told_text r None = faultless_text r
told_text r (Some f) = fault_text f r.before

-- what is told of a station with readings
abbrev pub recognized_text : Recognized → List ℕ
recognized_text r = told_text r r.fault

-- what the line of a station begins with
abbrev pub line_head : List ℕ → List ℕ
line_head name = codes "note: station " ++ (name ++ codes ": ")

-- the line that tells this of a station
abbrev pub note_line : List ℕ → List ℕ → List ℕ
note_line name told = line_head name ++ (told ++ codes "\n")

-- The same, but no line where there is none of what it tells.
abbrev pub line_of_some : ℕ → List ℕ → List ℕ → List ℕ
line_of_some count name told = if count == 0 then [] else note_line name told

-- that so many are missing
abbrev pub are_missing : ℕ → List ℕ
are_missing count = if count == 1 then codes " is missing" else codes " are missing"

-- what is missing: `4 of 28 directions are missing`
abbrev pub missing_text : Remarks → List ℕ
missing_text m =
    decimal m.missing ++ (codes " of " ++ (counted m.directions (codes "direction")
    ++ are_missing m.missing))

-- what stands after the sets as sets of another station do:
-- `2 targets after the sets in both faces: of another station?`
abbrev pub others_text : Remarks → List ℕ
others_text m =
    counted m.others (codes "target")
    ++ codes " after the sets in both faces: of another station?"

-- that sets which are read by targets are followed by a reading of the target that opens them:
-- `TOWER is read again after the sets: is a reading of theirs missing?`
abbrev pub opened_again_text : List ℕ → List ℕ
opened_again_text opening =
    opening ++ codes " is read again after the sets: is a reading of theirs missing?"

-- the line that says so, where it is so
abbrev pub opened_again_line : List ℕ → Remarks → List ℕ
opened_again_line name m =
    if m.opened_again then note_line name (opened_again_text m.opening) else []

-- that two sets are equal: `sets 1 and 3 are the same to the last digit`
abbrev pub pair_text : SetPair → List ℕ
pair_text p =
    codes "sets " ++ (decimal p.earlier ++ (codes " and " ++ (decimal p.later
    ++ codes " are the same to the last digit")))

-- the lines of these pairs of sets
abbrev pub pair_lines : List ℕ → List SetPair → List ℕ
pair_lines name pairs = flat_map (λ p. note_line name (pair_text p)) pairs

-- Units of 0.00001 gon in whole mgon, 100 in each: the nearest number, and of two as near the
-- greater one.
abbrev pub whole_mgon : ℕ → ℕ
whole_mgon units = (units + 50) / 100

-- how far apart the zenith angles of a target are: `the zenith angles of MAST differ by 84 mgon`
abbrev pub zeniths_text : ZenithRange → List ℕ
zeniths_text z =
    codes "the zenith angles of " ++ (z.target ++ (codes " differ by "
    ++ (decimal (whole_mgon (spread z)) ++ codes " mgon")))

-- the lines of these targets
abbrev pub zenith_lines : List ℕ → List ZenithRange → List ℕ
zenith_lines name [] = []
zenith_lines name (z ∷ zs) = note_line name (zeniths_text z) ++ zenith_lines name zs

-- the lines of what is told of a station's sets beyond their numbers, where it has any
abbrev pub remarks_lines : List ℕ → Option Remarks → List ℕ
remarks_lines name None = []
remarks_lines name (Some m) =
    line_of_some m.missing name (missing_text m)
    ++ (line_of_some m.others name (others_text m)
    ++ (opened_again_line name m
    ++ (pair_lines name m.equal_sets ++ zenith_lines name m.zeniths)))

-- the line of a station that is set up again, where it is
abbrev pub again_line : Bool → List ℕ → List ℕ
again_line again name = if again then note_line name (codes "set up again") else []

-- The lines of a station with readings, which is set up again or not.
abbrev pub station_lines : Bool → Recognized → List ℕ
station_lines again r =
    again_line again r.name
    ++ (note_line r.name (recognized_text r) ++ remarks_lines r.name r.remarks)

-- Readings follow the station's set-up line.
abbrev pub has_readings : Recognized → Bool
has_readings r = not ((r.sets == 0) && (r.before == 0))

-- The next set-up line has the same name: it is the same station, and its line was written again.
abbrev pub is_named_again : List ℕ → List Recognized → Bool
is_named_again name [] = false
is_named_again name (r ∷ later) = bytes_eq r.name name

-- How a station before these others is told, after stations with readings that have these names:
-- whether it is set up again; a set-up line without readings not at all, where the next one has the
-- same name.
abbrev pub told_again : List (List ℕ) → Recognized → List Recognized → Option Bool
told_again names r later = if has_readings r then Some (is_among names r.name)
    else if is_named_again r.name later then None else Some false

-- what a station is told by its readings
abbrev pub read_lines : Option Bool → Recognized → List ℕ
read_lines None r = []
read_lines (Some again) r =
    if has_readings r then station_lines again r else note_line r.name (codes "no readings")

-- how often a set-up line was written again while its station was open:
-- `set-up line written again 2 times, taken as the same set-up`
abbrev pub written_again_text : ℕ → List ℕ
written_again_text count =
    codes "set-up line written again "
    ++ (counted count (codes "time") ++ codes ", taken as the same set-up")

-- The lines of a station, which is told so: the last is that its set-up line was written again,
-- where it was.
abbrev pub next_lines : Option Bool → Recognized → List ℕ
next_lines again r =
    read_lines again r
    ++ line_of_some r.written_again r.name (written_again_text r.written_again)

-- these names, and that of a station with readings
abbrev pub names_after : List (List ℕ) → Recognized → List (List ℕ)
names_after names r = if has_readings r then with_new names r.name else names

-- the lines of these stations, after stations with readings that have these names
abbrev pub stations_text : List (List ℕ) → List Recognized → List ℕ
stations_text names [] = []
stations_text names (r ∷ later) =
    next_lines (told_again names r later) r ++ stations_text (names_after names r) later

-- the last line: that this is to be compared
abbrev pub last_line : List ℕ
last_line = codes "note: compare this with the field book\n"

-- The notes: the lines of these stations, and the last line.
abbrev pub notes_text : List Recognized → List ℕ
notes_text stations = stations_text [] stations ++ last_line

-- the notes of a marked file
abbrev pub notes_of : Marked → List ℕ
notes_of m = notes_text m.stations.items
