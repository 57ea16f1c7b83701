-- What the code keeps of the blocks of a file, and what it answers on the way.
use Rattle.std.specs.Prelude.{◌≡◌, ℕ, ◌+◌, Bool, List, [], ◌∷◌, ◌++◌, length, false, if◌then◌else◌}
use Rattle.std.specs.Prelude.{Option, Some, None, is_some, Result, Ok, Err, ⊤}
use Rattle.gsi_word.specs.Blocks.{GsiBlock}
use Rattle.gsi_file.specs.FileAnswers.{FileAnswers}
use Rattle.station_book.specs.Places.{History}
use Rattle.job_statements.specs.declared.beginnings.Beginnings.{Beginnings}
use Rattle.set_marks.specs.declared.fault.MarkFault.{MarkFault}
use Rattle.set_marks.specs.declared.fault.MarkFault.TheVariants.{File, Reading, At, Memory}
use Rattle.set_marks.specs.declared.readings.Readings.{Readings}
use Rattle.set_marks.specs.declared.judging.StationNames.{StationNames}
use Rattle.set_marks.specs.declared.marking.Marking.{Marking}
use Rattle.set_marks.specs.declared.division.Divided.{Divided}
use Rattle.set_marks.specs.declared.sight.Sight.{Sight}
use Rattle.job_statements.specs.Numbers.{Said, said_in}
use Rattle.set_marks.specs.Stations.{SetUp, Occupation, begun, open_name, begins_after, sight_in}
use Rattle.set_marks.specs.Stations.{fault_of_blocks, stations_of}
use Rattle.set_marks.specs.WrittenAgain.{is_written_again, written_again_of}
use Rattle.set_marks.specs.Judging.{Before, none_before, names_after, judged_from}
use Rattle.set_marks.specs.Marking.{marks_from, recognized_from, station_marks, is_open_after}
use Rattle.set_marks.specs.Marking.{recognized}
use Rattle.set_marks.specs.Markings.{AreBlocks, IsFault}

-- There was no memory; or this is the fault.
abbrev pub IsMemoryOr : Option MarkFault → MarkFault → Type 0
IsMemoryOr fault Memory = ⊤
IsMemoryOr fault (File e) = ⊥
IsMemoryOr fault (Reading number kind) = fault ≡ Some (Reading number kind)
IsMemoryOr fault (At number kind) = fault ≡ Some (At number kind)

-- The station of this name, where one is open, with its readings.
abbrev pub open_one : Option (List ℕ) → List Sight → List Occupation
open_one None rs = []
open_one (Some name) rs = record { name = name; sights = rs } ∷ []

-- the station that is open, with its readings so far
abbrev pub open_in : Readings → List Occupation
open_in r = open_one r.station r.sights.items

-- how often the set-up line of the station of this name was written again, where one is open
abbrev pub open_count : Option (List ℕ) → ℕ → List ℕ
open_count None n = []
open_count (Some name) n = n ∷ []

-- how often that of the station that is open was written again so far
abbrev pub count_in : Readings → List ℕ
count_in r = open_count r.station r.written_again

-- the begin of a station, where one is open
abbrev pub begun_in : Option (List ℕ) → List SetUp
begun_in None = []
begun_in (Some name) = record { name = name; from = 0 } ∷ []

-- the names, as those of the stations before one
abbrev pub before_in : StationNames → Before
before_in names =
    record { marked = names.marked; faulty = names.faulty; visits = names.visits }

-- These stations, of whose sets this is stated, and whose set-up lines were written again so often,
-- are judged, marked and told, whichever come after them.
pub record AreMarkedFirst (stated : Said) (ended : List Occupation) (counts : List ℕ) (m : Marking)
    : Type 0 where
  pub same : said_in m.stated ≡ stated
  pub marks : (later : List Occupation)
      → marks_from false (judged_from stated none_before (ended ++ later))
      ≡ m.marks.items ++ marks_from m.in_set (judged_from stated (before_in m.names) later)
  pub told : (later : List Occupation) (more : List ℕ)
      → recognized_from (counts ++ more) (judged_from stated none_before (ended ++ later))
      ≡ m.stations.items ++ recognized_from more (judged_from stated (before_in m.names) later)

-- The station that is open has ended too.
abbrev pub Ends : Readings → Readings → Type 0
Ends old new = (stated : Said) (ended : List Occupation) (counts : List ℕ)
    → AreMarkedFirst stated ended counts old.marking
    → AreMarkedFirst stated (ended ++ open_in old) (counts ++ count_in old) new.marking

-- A block begins a station of this name, and ends the one that was open.
pub record BeginsStation (name : List ℕ) (old new : Readings) : Type 0 where
  pub station : new.station ≡ Some name
  pub sights : new.sights.items ≡ []
  pub count : new.written_again ≡ 0
  pub ends : Ends old new

-- A block begins none, and is one more reading, if it is one, or the set-up line of the station that
-- is open, if it is that, written again.
pub record AddsReading (again : Bool) (b : GsiBlock) (number : ℕ) (old new : Readings)
    : Type 0 where
  pub station : new.station ≡ old.station
  pub sights : new.sights.items ≡ old.sights.items ++ sight_in number b
  pub count : new.written_again ≡ (if again then old.written_again + 1
      else old.written_again)
  pub marking : new.marking ≡ old.marking

-- the one, where a block begins a station of this name, or the other
abbrev pub AddsTo : Option (List ℕ) → Bool → GsiBlock → ℕ → Readings → Readings → Type 0
AddsTo (Some name) again b number old new = BeginsStation name old new
AddsTo None again b number old new = AddsReading again b number old new

-- the name of the station that a block begins where one of this name is open, unless one is stated
abbrev pub begins_in : Beginnings → Option (List ℕ) → GsiBlock → Option (List ℕ)
begins_in beginnings current b =
    if is_some beginnings.station then None else begins_after beginnings current b

-- whether it is the set-up line of this station, written again, unless one is stated
abbrev pub is_again_in : Beginnings → Option (List ℕ) → GsiBlock → Bool
is_again_in beginnings current b =
    if is_some beginnings.station then false else is_written_again beginnings current b

-- A block more is kept: the station that it begins, or its reading.
pub record Adds (beginnings : Beginnings) (b : GsiBlock) (number : ℕ) (old new : Readings)
    : Type 0 where
  pub adds : AddsTo (begins_in beginnings old.station b) (is_again_in beginnings old.station b)
      b number old new
  pub blocks : new.blocks ≡ number

-- These blocks are kept: the stations that have ended, of whose sets this is stated, and the one
-- that is open; and how often the set-up line of each was written again.
pub record Keeps (beginnings : Beginnings) (stated : Said) (h : History) (r : Readings)
    : Type 0 where
  pub ended : List Occupation
  pub counts : List ℕ
  pub stations : stations_of beginnings h ≡ ended ++ open_in r
  pub counted : written_again_of beginnings h ≡ counts ++ count_in r
  pub are_ended : AreMarkedFirst stated ended counts r.marking
  pub station : r.station ≡ open_name (begun beginnings h)
  pub blocks : r.blocks ≡ length h

-- The blocks of the file are kept, and none has a fault by itself.
pub record AreReadings (beginnings : Beginnings) (stated : Said) (answers : FileAnswers)
    (r : Readings) : Type 0 where
  pub blocks : History
  pub are_blocks : AreBlocks answers blocks
  pub clean : fault_of_blocks beginnings blocks ≡ None
  pub kept : Keeps beginnings stated blocks r

-- What is answered of the readings of a file.
abbrev pub AnswersReadings : Beginnings → Said → FileAnswers → Result Readings MarkFault
    → Type 0
AnswersReadings beginnings stated answers (Ok r) = AreReadings beginnings stated answers r
AnswersReadings beginnings stated answers (Err fault) = IsFault beginnings answers fault

-- A station more, which was set up under this name, and whose set-up line was written again so
-- often, is marked and told.
pub record TakesStation (line : List ℕ) (written : ℕ) (s : Occupation) (d : Divided)
    (old new : Marking) : Type 0 where
  pub stated : new.stated ≡ old.stated
  pub marks : new.marks.items ≡ old.marks.items ++ station_marks old.in_set s d
  pub stations : new.stations.items ≡ old.stations.items ++ recognized written s d ∷ []
  pub names : before_in new.names ≡ names_after (before_in old.names) line s d
  pub in_set : new.in_set ≡ is_open_after old.in_set s d

-- These stations, of whose sets this is stated, and whose set-up lines were written again so often,
-- are judged, marked and told.
pub record AreMarked (stated : Said) (stations : List Occupation) (counts : List ℕ) (m : Marking)
    : Type 0 where
  pub same : said_in m.stated ≡ stated
  pub marks : m.marks.items ≡ marks_from false (judged_from stated none_before stations)
  pub told : m.stations.items ≡ recognized_from counts (judged_from stated none_before stations)
