-- What each station of a field file is judged to be, by itself (profile). Of the stations before it
-- no more than their names counts.
use Rattle.std.specs.Prelude.{ℕ, Bool, false, ◌&&◌, ◌||◌, not, List, [], ◌∷◌, length}
use Rattle.std.specs.Prelude.{if◌then◌else◌, Option, Some, None, nat_le, nat_lt, slice_get}
use Rattle.station_book.specs.declared.bounds.TheConstants.{MOST_STATIONS}
use Rattle.station_book.specs.Places.{History, is_among, with_new}
use Rattle.station_book.specs.Faults.{first_of}
use Rattle.job_statements.specs.declared.beginnings.Beginnings.{Beginnings}
use Rattle.set_marks.specs.declared.flaw.Flaw.{Flaw}
use Rattle.set_marks.specs.declared.fault.MarkKind.TheVariants as kinds
use Rattle.set_marks.specs.declared.division.Divided.{Divided}
use Rattle.set_marks.specs.declared.division.Divided.TheVariants.{NoSets, Sets, Flawed}
use Rattle.set_marks.specs.declared.sight.Sight.{Sight}
use Rattle.set_marks.specs.declared.span.Span.{Span}
use Rattle.set_marks.specs.Marks.{width_of}
use Rattle.job_statements.specs.Numbers.{Said, numbers_of}
use Rattle.set_marks.specs.Stations.{Occupation, stations_of}
use Rattle.set_marks.specs.Divisions.{is_of, flaw_when, flaw_found, in_span}
use Rattle.set_marks.specs.Divisions.{has_no_sets, is_read_in_two, one_too_many}
use Rattle.set_marks.specs.Ways.{divided}
use Rattle.set_marks.specs.Visits.{Visits, once_more, times, visit_name}

-- The names of the stations before one: of those that have sets, and of those that have a fault;
-- and how often each name came at the set-ups of both.
pub record Before : Type 0 where
  pub marked : List (List ℕ)
  pub faulty : List (List ℕ)
  pub visits : Visits

-- no station
abbrev pub none_before : Before
none_before = record { marked = []; faulty = []; visits = [] }

-- one of them has this name
abbrev pub was_before : Before → List ℕ → Bool
was_before before name = is_among before.marked name || is_among before.faulty name

-- a station before this one, which has sets or a fault, has its name
abbrev pub twice_fault : Before → Occupation → Option Flaw
twice_fault before s =
    flaw_when (was_before before s.name) kinds.StationTwice (slice_get s.sights 0)

-- the first of these readings of this target
abbrev pub first_of_target : List ℕ → List Sight → Option Sight
first_of_target name [] = None
first_of_target name (r ∷ rs) = if is_of name r then Some r else first_of_target name rs

-- A station of this name reads a target of it in face II: so it is where the set-up line of the next
-- station is lost, whose backsight is this one.
abbrev pub itself_fault : List ℕ → List Sight → Option Flaw
itself_fault line rs =
    flaw_when (is_read_in_two rs line) kinds.SightsItself (first_of_target line rs)

-- The same of the name of the set-up line, and of that which the station is called, which a visit
-- after the first has of its own.
abbrev pub own_name_fault : List ℕ → Occupation → Option Flaw
own_name_fault line s = first_of (
    itself_fault line s.sights
    ∷ itself_fault s.name s.sights
    ∷ [])

-- the name has no room in the width of the line of the reading at this place
abbrev pub is_too_long : List ℕ → Option Sight → Bool
is_too_long name None = false
is_too_long name (Some r) = nat_lt (width_of r.wide) (length name)

-- The fault of the name of a station whose sets stand here, after these stations: 1,000 stations
-- have sets; or it has no room in a code line.
abbrev pub name_fault : Before → Occupation → Span → Option Flaw
name_fault before s span = first_of (
    flaw_when (nat_le MOST_STATIONS (length before.marked)) kinds.TooManyStations
    (slice_get s.sights 0)
    ∷ flaw_when (is_too_long s.name (slice_get s.sights span.from)) kinds.NameTooLong
    (slice_get s.sights span.from)
    ∷ [])

-- its sets read a target more than the 100 that a station may have
abbrev pub targets_fault : Occupation → Span → Option Flaw
targets_fault s span =
    flaw_found kinds.TooManyTargets (one_too_many [] (in_span span s.sights))

-- The fault of a station that was set up under this name, and whose sets stand here, after these
-- stations, the first that stands: its name was had; it sights itself; or the fault of its name.
abbrev pub sets_fault : Before → List ℕ → Occupation → Span → Option Flaw
sets_fault before line s span = first_of (
    twice_fault before s
    ∷ own_name_fault line s
    ∷ name_fault before s span
    ∷ [])

-- The fault of a station whose readings are so divided, after these stations, the first that
-- stands: one without sets has none; where something is wrong with its readings, its name was had,
-- or this; where they are sets, one of its name, or that of its targets.
abbrev pub division_fault : Before → List ℕ → Occupation → Divided → Option Flaw
division_fault before line s NoSets = None
division_fault before line s (Flawed f) = first_of (twice_fault before s ∷ Some f ∷ [])
division_fault before line s (Sets span) =
    first_of (sets_fault before line s span ∷ targets_fault s span ∷ [])

-- The fault of a station that was set up under this name, after these stations, where this is
-- stated.
abbrev pub station_fault : Said → Before → List ℕ → Occupation → Option Flaw
station_fault stated before line s =
    division_fault before line s (divided (numbers_of stated s.name) s.sights)

-- its fault, if it has one; else what its readings are
abbrev pub settled : Option Flaw → Divided → Divided
settled None d = d
settled (Some f) d = Flawed f

-- What a station that was set up under this name is judged to be: without sets; with sets, and
-- where they stand; or to have a fault.
abbrev pub judged : Said → Before → List ℕ → Occupation → Divided
judged stated before line s =
    settled (station_fault stated before line s) (divided (numbers_of stated s.name) s.sights)

-- A station as it is called, after these: where it isn't without sets, and it is stated that a name
-- that comes again is another set-up, by the name of this visit; else by that of its set-up line.
abbrev pub called : Bool → Before → Occupation → Occupation
called again before s = record {
  name = if again && not (has_no_sets s.sights) then visit_name s.name (times before.visits s.name)
      else s.name;
  sights = s.sights;
}

-- the names, and those of a station that isn't without sets and was set up under this name
abbrev pub names_after : Before → List ℕ → Occupation → Divided → Before
names_after before line s NoSets = before
names_after before line s (Sets span) = record {
  marked = with_new before.marked s.name;
  faulty = before.faulty;
  visits = once_more before.visits line;
}
names_after before line s (Flawed f) = record {
  marked = before.marked;
  faulty = with_new before.faulty s.name;
  visits = once_more before.visits line;
}

-- a station, and what it is judged to be
pub record Judged : Type 0 where
  pub station : Occupation
  pub division : Divided

-- What a station is judged to be, after these, by the name that it is called.
abbrev pub judged_called : Said → Before → Occupation → Divided
judged_called stated before s = judged stated before s.name (called stated.again before s)

-- the names after it
abbrev pub names_past : Said → Before → Occupation → Before
names_past stated before s =
    names_after before s.name (called stated.again before s) (judged_called stated before s)

-- These stations, which come after others, each as it is called, and what it is judged to be.
abbrev pub judged_from : Said → Before → List Occupation → List Judged
judged_from stated before [] = []
judged_from stated before (s ∷ ss) =
    record { station = called stated.again before s; division = judged_called stated before s }
    ∷ judged_from stated (names_past stated before s) ss

-- The stations of a file, in its order, and what each is judged to be.
abbrev pub judged_of : Beginnings → Said → History → List Judged
judged_of beginnings stated h = judged_from stated none_before (stations_of beginnings h)
