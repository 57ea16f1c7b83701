-- The rule (profile): which readings of a station are its sets. Details are left out. Of the other
-- readings the first ones may lead and the last ones may be an ending; those between are the sets.
-- There are three endings: nothing, check sights and a check pair. For each the fewest leading
-- readings are looked for with which those between are sets. If one ending alone gives sets, these
-- are the station's.
use Rattle.std.specs.Prelude.{ℕ, suc, ◌+◌, Bool, ◌&&◌, not, nat_lt, nat_le, List, [], ◌∷◌, length}
use Rattle.std.specs.Prelude.{map, fold, take, drop, if◌then◌else◌, Option, Some, None}
use Rattle.std.specs.Prelude.{is_none, is_some, slice_get}
use Rattle.gsi_file.specs.FileAnswers.{least}
use Rattle.station_book.specs.Faults.{first_of}
use Rattle.set_marks.specs.declared.bounds.TheConstants.{MOST_READINGS}
use Rattle.set_marks.specs.declared.fault.MarkKind.TheVariants as kinds
use Rattle.set_marks.specs.declared.flaw.Flaw.{Flaw}
use Rattle.set_marks.specs.declared.division.Divided.{Divided}
use Rattle.set_marks.specs.declared.division.Divided.TheVariants.{NoSets, Flawed}
use Rattle.set_marks.specs.declared.outside.Ending.{Ending}
use Rattle.set_marks.specs.declared.outside.Ending.TheVariants.{Nothing, CheckSights, CheckPair}
use Rattle.set_marks.specs.declared.sight.Sight.{Sight}
use Rattle.set_marks.specs.declared.span.Span.{Span}
use Rattle.job_statements.specs.declared.stated.Numbers.{Numbers}
use Rattle.set_marks.specs.Divisions.{flaw_at, flaw_when, flaw_found, later, sets_flaw, starts_of}
use Rattle.set_marks.specs.Divisions.{cut_end, first_cut, seconds_of, rest_of, place_of, unknown_in}
use Rattle.set_marks.specs.Divisions.{part}
use Rattle.set_marks.specs.Divisions.{begins_in_two, has_no_sets, divided_unless, span_from}
use Rattle.set_marks.specs.Outside.{may_precede, is_ended, in_ending, before_ending, may_end}
use Rattle.set_marks.specs.Outside.{may_follow}
use Rattle.set_marks.specs.Doubts.{doubt_after}

-- the first detail of a station, from one place up to another
abbrev pub detail_between : List Sight → ℕ → ℕ → Option Sight
detail_between all from to = unknown_in (seconds_of all) (part from to all)

-- What is wrong with the sets of these readings (`sets`), of which none is a detail, if the sets
-- begin at these places of them, and the first at this place of all readings of the station. It is
-- the first of these that is found: something is wrong in a set; a detail stands among the sets;
-- the leading readings may not stand before them.
abbrev pub cut_flaw : List Sight → List Sight → ℕ → List ℕ → List Sight → Option Flaw
cut_flaw all leading place starts sets = first_of (
    sets_flaw (first_cut starts sets) 0 (cut_end starts sets) starts sets
    ∷ flaw_found kinds.FaceMissing (detail_between all place (place + cut_end starts sets))
    ∷ flaw_when (not (may_precede starts sets leading place)) kinds.OneSet (slice_get sets 0)
    ∷ [])

-- This ending, with these readings (`ended`), may not stand after these sets, which begin at this
-- place of the station: it may not stand after such sets; or the first set has two targets, and no
-- detail stands between the sets and the ending. Such a detail is one of the station's readings
-- from this place on, of as many as `sets` has and one more.
abbrev pub is_no_end : List Sight → ℕ → Ending → List Sight → List Sight → Bool
is_no_end all place ending sets ended =
    not (may_end ending sets ended && may_follow ending (first_cut (starts_of sets) sets)
    (is_some (detail_between all place (place + suc (length sets)))))

-- What is wrong if these readings lead, and `rs`, which begin at this place of the station, are
-- sets and after them this ending. It is the first of these that is found: `rs` can't have this
-- ending (a flaw at no reading); something is wrong with the sets; the ending may not stand after
-- them.
abbrev pub flaw_after : Ending → List Sight → List Sight → ℕ → List Sight → Option Flaw
flaw_after ending all leading place rs =
    if not (is_ended ending rs) then Some (flaw_at kinds.OneTarget None)
    else first_of (
    cut_flaw all leading place (starts_of (before_ending ending rs)) (before_ending ending rs)
    ∷ flaw_when (is_no_end all place ending (before_ending ending rs) (in_ending ending rs))
    kinds.OneTarget (slice_get (in_ending ending rs) 0)
    ∷ [])

-- What is wrong with this ending and so many leading readings. If there are no others, it is a flaw
-- at no reading.
abbrev pub flaw_of : Ending → List Sight → ℕ → Option Flaw
flaw_of ending rs leading =
    if nat_le (length (rest_of rs)) leading then Some (flaw_at kinds.OneSet None)
    else flaw_after ending rs (take leading (rest_of rs))
    (place_of (seconds_of rs) leading rs) (drop leading (rest_of rs))

-- With this ending and so many leading readings nothing is wrong, so the others are sets.
abbrev pub is_division : Ending → List Sight → ℕ → Bool
is_division ending rs leading = is_none (flaw_of ending rs leading)

-- the most leading readings that are tried: 200, or all but one of those that are no details, if
-- these are fewer
abbrev pub most_leading : List Sight → ℕ
most_leading rs = length (take MOST_READINGS (drop 1 (rest_of rs)))

-- The fewest leading readings with which this ending gives sets.
abbrev pub leading_of : Ending → List Sight → Option ℕ
leading_of ending rs = least (is_division ending rs) (most_leading rs)

-- An ending is given up if there are leading readings and the first set, which begins after them,
-- begins in face II: nothing shows that they are no part of that set. Here `rest` are all readings
-- that are no details, and `leading` is how many lead.
abbrev pub is_given_up : List Sight → ℕ → Bool
is_given_up rest leading = nat_lt 0 leading && begins_in_two (drop leading rest)

-- the number of leading readings that was found for an ending, unless the ending is given up
abbrev pub kept : List Sight → Option ℕ → Option ℕ
kept rest None = None
kept rest (Some leading) = if is_given_up rest leading then None else Some leading

-- what is wrong if the ending is given up: the face of the first reading of the first set
abbrev pub given_up : List Sight → Option ℕ → Option Flaw
given_up rest None = None
given_up rest (Some leading) =
    flaw_when (is_given_up rest leading) kinds.FirstFace (slice_get rest leading)

-- A way to divide the readings of a station: an ending, and so many leading readings.
pub record Way : Type 0 where
  pub ending : Ending
  pub leading : ℕ

-- these ways, and before them the one with this ending, if it gives sets
abbrev pub with_way : Ending → Option ℕ → List Way → List Way
with_way ending None ways = ways
with_way ending (Some leading) ways = record { ending = ending; leading = leading } ∷ ways

-- the number of leading readings with which this ending gives sets, unless the ending is given up
abbrev pub gives : Ending → List Sight → Option ℕ
gives ending rs = kept (rest_of rs) (leading_of ending rs)

-- The ways to divide these readings: one with each ending that gives sets.
abbrev pub ways_of : List Sight → List Way
ways_of rs =
    with_way Nothing (gives Nothing rs)
    (with_way CheckSights (gives CheckSights rs) (with_way CheckPair (gives CheckPair rs) []))

-- Of what is wrong with no ending and with 0, 1, 2 and 3 leading readings, what stands latest in
-- the file: with that number of leading readings the sets get furthest.
abbrev pub latest_flaw : List Sight → Option Flaw
latest_flaw rs = fold later None (map (flaw_of Nothing rs) (0 ∷ 1 ∷ 2 ∷ 3 ∷ []))

-- What is wrong if no ending gives sets: that one is given up, the last of the three that is; if
-- none is given up, the latest flaw.
abbrev pub no_way_flaw : List Sight → Option Flaw
no_way_flaw rs = first_of (
    given_up (rest_of rs) (leading_of CheckPair rs)
    ∷ given_up (rest_of rs) (leading_of CheckSights rs)
    ∷ given_up (rest_of rs) (leading_of Nothing rs)
    ∷ latest_flaw rs
    ∷ [])

-- the readings that are no details after the leading ones of this way
abbrev pub after_leading : List Sight → Way → List Sight
after_leading rs way = drop way.leading (rest_of rs)

-- the readings between the leading ones and the ending of this way: its sets
abbrev pub sets_by : List Sight → Way → List Sight
sets_by rs way = before_ending way.ending (after_leading rs way)

-- The doubt about the sets of this way, if there is one.
abbrev pub doubt_by : Numbers → List Sight → Way → Option Flaw
doubt_by stated rs way = doubt_after stated (take way.leading (rest_of rs)) (sets_by rs way)
    (after_leading rs way)

-- Where the sets of this way stand in the station. Details may stand before the first set, and none
-- stands among the sets.
abbrev pub span_by : List Sight → Way → Span
span_by rs way = span_from (place_of (seconds_of rs) way.leading rs) (sets_by rs way)

-- What the readings are, if these are the ways to divide them. Without a way something is wrong. If
-- there is one, they are its sets, unless there is a doubt about these. If there are more, nothing
-- shows which is meant.
abbrev pub divided_by : Numbers → List Sight → List Way → Divided
divided_by stated rs [] = divided_unless (no_way_flaw rs) (span_from 0 [])
divided_by stated rs (way ∷ []) = divided_unless (doubt_by stated rs way) (span_by rs way)
divided_by stated rs (way ∷ another ∷ ways) =
    Flawed (flaw_at kinds.MayBeShifted (slice_get (rest_of rs) way.leading))

-- What a station's readings are, if this is stated of its sets: no sets; sets, and where they
-- stand; or something is wrong.
abbrev pub divided : Numbers → List Sight → Divided
divided stated rs = if has_no_sets rs then NoSets else divided_by stated rs (ways_of rs)
