-- What is put into a field file, what is told of it, and what it is refused for, by its blocks
-- alone (profile).
use Rattle.std.specs.Prelude.{ℕ, suc, ◌-◌, ◌==◌, Bool, true, false, ◌&&◌, not, List, [], ◌∷◌, ◌++◌}
use Rattle.std.specs.Prelude.{length, drop, if◌then◌else◌, Option, Some, None, is_none, nat_lt}
use Rattle.std.specs.Prelude.{slice_get, is_some, ◌||◌}
use Rattle.std.specs.List.{list_all, list_any}
use Rattle.std.specs.Str.{bytes_eq}
use Rattle.station_book.specs.Places.{History, is_empty}
use Rattle.station_book.specs.Faults.{first_of}
use Rattle.job_statements.specs.declared.beginnings.Beginnings.{Beginnings}
use Rattle.set_marks.specs.declared.flaw.Flaw.{Flaw}
use Rattle.set_marks.specs.declared.fault.MarkKind.{MarkKind}
use Rattle.set_marks.specs.declared.fault.MarkKind.TheVariants as kinds
use Rattle.set_marks.specs.declared.division.Divided.{Divided}
use Rattle.set_marks.specs.declared.division.Divided.TheVariants.{NoSets, Sets, Flawed}
use Rattle.set_marks.specs.declared.mark.Code.{Code}
use Rattle.set_marks.specs.declared.mark.Code.TheVariants.{Station, Set, Close}
use Rattle.set_marks.specs.declared.mark.BlockMark.{BlockMark}
use Rattle.set_marks.specs.declared.recognized.Recognized.{Recognized}
use Rattle.set_marks.specs.declared.sight.Sight.{Sight}
use Rattle.set_marks.specs.declared.span.Span.{Span}
use Rattle.job_statements.specs.declared.stated.NamedNumber.{NamedNumber}
use Rattle.job_statements.specs.Numbers.{Said}
use Rattle.set_marks.specs.Stations.{Occupation}
use Rattle.set_marks.specs.WrittenAgain.{written_again_of}
use Rattle.set_marks.specs.Divisions.{starts_of, targets_of, in_span, are_by_targets}
use Rattle.set_marks.specs.Judging.{Judged, judged_of}
use Rattle.set_marks.specs.Remarks.{remarks_of}

-- a code line before the block of this reading, in the width of its line
abbrev pub mark_at : Option Sight → Code → List BlockMark
mark_at None code = []
mark_at (Some r) code = record { block = r.block; wide = r.wide; code = code } ∷ []

-- code 20 before the first reading of each set, numbered from here on
abbrev pub set_marks : ℕ → List ℕ → List Sight → List BlockMark
set_marks number [] rs = []
set_marks number (from ∷ starts) rs =
    mark_at (slice_get rs from) (Set number) ++ set_marks (suc number) starts rs

-- code 30 before the first of these readings, where a set is open
abbrev pub close_mark : Bool → List Sight → List BlockMark
close_mark in_set rs = if in_set then mark_at (slice_get rs 0) Close else []

-- A station whose sets stand here, where a set of an earlier station is open or not: code 30 before
-- the readings before them, which are in no set; code 10 and 20 before the first set; code 20
-- before each other one; and code 30 after the last, where readings stand after it.
abbrev pub sets_marks : Bool → Occupation → Span → List BlockMark
sets_marks in_set s span =
    close_mark (in_set && nat_lt 0 span.from) s.sights
    ++ (mark_at (slice_get s.sights span.from) (Station s.name)
    ++ (set_marks 1 (starts_of (in_span span s.sights)) (in_span span s.sights)
    ++ mark_at (slice_get s.sights span.to) Close))

-- the code lines of a station
abbrev pub station_marks : Bool → Occupation → Divided → List BlockMark
station_marks in_set s (Sets span) = sets_marks in_set s span
station_marks in_set s d = close_mark in_set s.sights

-- whether a set is open after a station
abbrev pub is_open_after : Bool → Occupation → Divided → Bool
is_open_after in_set s (Sets span) = is_none (slice_get s.sights span.to)
is_open_after in_set s d = in_set && is_empty s.sights

-- the code lines of these stations, where a set is open before them or not
abbrev pub marks_from : Bool → List Judged → List BlockMark
marks_from in_set [] = []
marks_from in_set (j ∷ js) =
    station_marks in_set j.station j.division
    ++ marks_from (is_open_after in_set j.station j.division) js

-- The code lines of a file, each with the number of the block before which it stands. A station
-- with a fault has none of its own, as one without sets.
abbrev pub marks_of : Beginnings → Said → History → List BlockMark
marks_of beginnings stated h = marks_from false (judged_of beginnings stated h)

-- what is told of a station of which all readings stand outside, with its fault, if it has one, and
-- whose set-up line was written again so often
abbrev pub outside : ℕ → Occupation → Option Flaw → Recognized
outside written s fault = record {
  name = s.name;
  fault = fault;
  sets = 0;
  targets = 0;
  by_targets = false;
  before = length s.sights;
  after = 0;
  remarks = None;
  written_again = written;
}

-- what is told of a station whose set-up line was written again so often
abbrev pub recognized : ℕ → Occupation → Divided → Recognized
recognized written s NoSets = outside written s None
recognized written s (Flawed f) = outside written s (Some f)
recognized written s (Sets span) = record {
  name = s.name;
  fault = None;
  sets = length (starts_of (in_span span s.sights));
  targets = length (targets_of (in_span span s.sights));
  by_targets = are_by_targets (in_span span s.sights);
  before = span.from;
  after = length s.sights - span.to;
  remarks = remarks_of (in_span span s.sights) (drop span.to s.sights);
  written_again = written;
}

-- What is told of these stations, also of one without readings. Their set-up lines were written
-- again so often; that of one without a count never.
abbrev pub recognized_from : List ℕ → List Judged → List Recognized
recognized_from counts [] = []
recognized_from [] (j ∷ js) = recognized 0 j.station j.division ∷ recognized_from [] js
recognized_from (n ∷ counts) (j ∷ js) =
    recognized n j.station j.division ∷ recognized_from counts js

-- What is told of a file: of each station, in the file's order, with how often its set-up line was
-- written again.
abbrev pub recognized_of : Beginnings → Said → History → List Recognized
recognized_of beginnings stated h =
    recognized_from (written_again_of beginnings h) (judged_of beginnings stated h)

-- the fault of the first of these stations that has one
abbrev pub first_fault : List Recognized → Option Flaw
first_fault [] = None
first_fault (r ∷ rs) = first_of (r.fault ∷ first_fault rs ∷ [])

-- one of them has sets
abbrev pub have_sets : List Recognized → Bool
have_sets rs = list_any (λ r. not (r.sets == 0)) rs

-- no station of a file has sets whose last block has the number before this one: it has no block, or
-- none that makes a set
abbrev pub no_sets_kind : ℕ → MarkKind
no_sets_kind end = if end == 1 then kinds.Empty else kinds.NoSets

-- of the end of the file, with this number, where no station has sets
abbrev pub no_sets_fault : ℕ → List Recognized → Option Flaw
no_sets_fault end rs =
    if have_sets rs then None else Some (record { block = end; kind = no_sets_kind end })

-- a station of this name has sets, or a fault
abbrev pub has_station : List Recognized → List ℕ → Bool
has_station rs name =
    list_any (λ r. bytes_eq r.name name && (is_some r.fault || not (r.sets == 0))) rs

-- each of these numbers is stated of such a station
abbrev pub are_of_stations : List Recognized → List NamedNumber → Bool
are_of_stations rs numbers = list_all (λ n. has_station rs n.name) numbers

-- of the end of the file, with this number, where a number is stated of a station by itself that
-- isn't there, or has no sets
abbrev pub unfound_fault : Said → ℕ → List Recognized → Option Flaw
unfound_fault stated end rs =
    if are_of_stations rs stated.sets.of_one && are_of_stations rs stated.targets.of_one
    then None else Some (record { block = end; kind = kinds.NoSuchStation })

-- the fault is that a name comes again: this is a doubt about the file, and not about one station
abbrev pub is_twice_kind : MarkKind → Bool
is_twice_kind kinds.StationTwice = true
is_twice_kind kind = false

-- that the station's name was had
abbrev pub is_twice : Option Flaw → Bool
is_twice None = false
is_twice (Some f) = is_twice_kind f.kind

-- It is stated that stations with a fault stay outside, and they may: a station has sets, and no
-- name comes again.
abbrev pub may_stay_outside : Said → List Recognized → Bool
may_stay_outside stated rs =
    stated.others && (have_sets rs && not (list_any (λ r. is_twice r.fault) rs))

-- The fault for which a file is refused whose last block has the number before this one, and of
-- whose stations this is told, the first that stands: that of the first station that has one, unless
-- these may stay outside; that none has sets; or that a number is stated of one that isn't there.
abbrev pub refusal : Said → ℕ → List Recognized → Option Flaw
refusal stated end rs = first_of (
    (if may_stay_outside stated rs then None else first_fault rs)
    ∷ no_sets_fault end rs
    ∷ unfound_fault stated end rs
    ∷ [])
