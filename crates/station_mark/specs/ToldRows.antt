-- What is told of the stations of a field file as rows for other programs (profile): the notes as
-- data.
use Rattle.std.specs.Prelude.{ℕ, Bool, true, false, List, [], ◌∷◌, ◌++◌, Option, Some, None, codes}
use Rattle.std.specs.Prelude.{decimal}
use Rattle.std.specs.List.{flat_map}
use Rattle.csv.specs.Writing.{row_text}
use Rattle.row_forms.specs.Forms.{writer_of}
use Rattle.row_forms.specs.declared.form.RowForm.TheVariants.{Commas}
use Rattle.set_marks.specs.FaultNames.{mark_kind_name}
use Rattle.set_marks.specs.Zeniths.{spread}
use Rattle.set_marks.specs.declared.equal_sets.SetPair.{SetPair}
use Rattle.set_marks.specs.declared.flaw.Flaw.{Flaw}
use Rattle.set_marks.specs.declared.recognized.Recognized.{Recognized}
use Rattle.set_marks.specs.declared.remarks.Remarks.{Remarks}
use Rattle.set_marks.specs.declared.zeniths.ZenithRange.{ZenithRange}
use Rattle.station_mark.specs.Notes.{names_after, told_again, whole_mgon}

-- the titles of the columns
abbrev pub told_titles : List ℕ
told_titles = codes "station,told,first,second,name,other\n"

-- A row: the name of the station, what is told of it, and of that two numbers and two names.
abbrev pub told_row : List ℕ → List ℕ → ℕ → ℕ → List ℕ → List ℕ → List ℕ
told_row station told first second name other =
    row_text (writer_of Commas)
    (station ∷ told ∷ decimal first ∷ decimal second ∷ name ∷ other ∷ [])

-- a row of numbers alone
abbrev pub numbers_row : List ℕ → List ℕ → ℕ → ℕ → List ℕ
numbers_row station told first second = told_row station told first second [] []

-- 1 where it is so, and else 0
abbrev pub one_if : Bool → ℕ
one_if true = 1
one_if false = 0

-- the block of the station's fault and its name, where it has one
abbrev pub fault_rows : List ℕ → Option Flaw → List ℕ
fault_rows station None = []
fault_rows station (Some f) =
    told_row station (codes "fault") f.block 0 (mark_kind_name f.kind) []

-- two sets that are equal
abbrev pub pair_row : List ℕ → SetPair → List ℕ
pair_row station p = numbers_row station (codes "equal") p.earlier p.later

-- by how many mgon the zenith angles of a target differ, and its name
abbrev pub zenith_row : List ℕ → ZenithRange → List ℕ
zenith_row station z =
    told_row station (codes "zeniths") (whole_mgon (spread z)) 0 z.target []

-- What is told of a station's sets beyond their numbers, where it has any: the target that opens
-- them, and the one at which the first set turns; how many directions are missing, of how many; how
-- many targets after the sets are read in both faces and stand in none of them, and whether the
-- target that opens sets which are read by targets is read again after them; the sets that are
-- equal; and the targets whose zenith angles differ.
abbrev pub remarks_rows : List ℕ → Option Remarks → List ℕ
remarks_rows station None = []
remarks_rows station (Some m) =
    told_row station (codes "ends") 0 0 m.opening m.turning
    ++ (numbers_row station (codes "missing") m.missing m.directions
    ++ (numbers_row station (codes "after") m.others (one_if m.opened_again)
    ++ (flat_map (pair_row station) m.equal_sets ++ flat_map (zenith_row station) m.zeniths)))

-- The rows of a station: how often its set-up line was written again, and whether it is set up
-- again; its fault; how many sets it has, and how many targets they have; how many readings stand
-- outside of them, before and after; and what else is told of its sets.
abbrev pub station_rows : Bool → Recognized → List ℕ
station_rows again r =
    numbers_row r.name (codes "set-up") r.written_again (one_if again)
    ++ (fault_rows r.name r.fault
    ++ (numbers_row r.name (codes "sets") r.sets r.targets
    ++ (numbers_row r.name (codes "outside") r.before r.after
    ++ remarks_rows r.name r.remarks)))

-- The rows of a station that is told so.
abbrev pub next_rows : Option Bool → Recognized → List ℕ
next_rows None r = []
next_rows (Some again) r = station_rows again r

-- the rows of these stations, after stations with readings that have these names
abbrev pub stations_rows : List (List ℕ) → List Recognized → List ℕ
stations_rows names [] = []
stations_rows names (r ∷ later) =
    next_rows (told_again names r later) r ++ stations_rows (names_after names r) later

-- The rows of these stations, below the titles.
abbrev pub told_rows : List Recognized → List ℕ
told_rows stations = told_titles ++ stations_rows [] stations
