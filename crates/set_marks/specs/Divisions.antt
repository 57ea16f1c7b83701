-- Where the sets of a station begin and end, told from its readings alone (profile). A detail is a
-- reading of a target that the station never reads in face II. Details stand outside, before the
-- sets and after them. Of the other readings some may lead, which stand outside before the sets too
-- (Outside says which). The first reading after these is of the opening target, and sets begin at
-- the 1st, 3rd, 5th .. reading of that target. In a set each target is read once in each face:
-- either by faces, all targets in one face and then all in the other; or by targets, each target in
-- both faces before the next. All sets of a station are read the same way and end with the same
-- target, and most targets of each are targets of the first set.
use Rattle.std.specs.Prelude.{ℕ, zero, suc, ◌+◌, ◌-◌, ◌*◌, ◌/◌, Bool, true, false, ◌&&◌, ◌||◌, not}
use Rattle.std.specs.Prelude.{nat_lt, nat_le, List, [], ◌∷◌, length, filter, take, drop}
use Rattle.std.specs.Prelude.{if◌then◌else◌, Option, Some, None, slice_get}
use Rattle.std.specs.List.{list_all, list_any}
use Rattle.std.specs.Str.{bytes_eq}
use Rattle.station_book.specs.Faults.{first_of}
use Rattle.station_book.specs.Places.{is_among, with_new}
use Rattle.adjust_kernel.specs.declared.bounds.TheConstants.{MOST_SETS, MOST_TARGETS}
use Rattle.set_marks.specs.declared.bounds.TheConstants.{MOST_READINGS}
use Rattle.set_marks.specs.declared.fault.MarkKind.{MarkKind}
use Rattle.set_marks.specs.declared.fault.MarkKind.TheVariants as kinds
use Rattle.set_marks.specs.declared.flaw.Flaw.{Flaw}
use Rattle.set_marks.specs.declared.division.Divided.{Divided}
use Rattle.set_marks.specs.declared.division.Divided.TheVariants.{Sets, Flawed}
use Rattle.set_marks.specs.declared.sight.Sight.{Sight}
use Rattle.set_marks.specs.declared.span.Span.{Span}

-- whether the reading is of this target
abbrev pub is_of : List ℕ → Sight → Bool
is_of name s = bytes_eq s.target name

-- whether these are the same face, where `true` stands for face II
abbrev pub is_same_face : Bool → Bool → Bool
is_same_face a b = if a then b else not b

-- whether both readings are of one target and in the same face
abbrev pub is_again : Sight → Sight → Bool
is_again a b = is_of a.target b && is_same_face a.second b.second

-- whether both readings are of one target, one of them in face I and the other in face II
abbrev pub is_pair : Sight → Sight → Bool
is_pair a b = is_of a.target b && not (is_same_face a.second b.second)

-- This is wrong at a reading. The flaw has the number of its block; where there is no reading it
-- has 0, which no block has.
abbrev pub flaw_at : MarkKind → Option Sight → Flaw
flaw_at kind None = record { block = 0; kind = kind }
flaw_at kind (Some r) = record { block = r.block; kind = kind }

-- This is wrong at a reading, if the test says so; else nothing is.
abbrev pub flaw_when : Bool → MarkKind → Option Sight → Option Flaw
flaw_when b kind r = if b then Some (flaw_at kind r) else None

-- This is wrong at the reading that was found; if none was, nothing is.
abbrev pub flaw_found : MarkKind → Option Sight → Option Flaw
flaw_found kind None = None
flaw_found kind (Some r) = Some (flaw_at kind (Some r))

-- of the readings in `all` from the place `at` on, the first whose target was read before it in
-- the same face
abbrev pub again_from : List Sight → ℕ → List Sight → Option Sight
again_from all at [] = None
again_from all at (r ∷ rs) =
    if list_any (is_again r) (take at all) then Some r else again_from all (suc at) rs

-- the first of these readings whose target was read before it in the same face
abbrev pub again_in : List Sight → Option Sight
again_in rs = again_from rs 0 rs

-- the first of these readings whose target isn't read in the other face anywhere in `all`
abbrev pub alone_among : List Sight → List Sight → Option Sight
alone_among all [] = None
alone_among all (r ∷ rs) = if list_any (is_pair r) all then alone_among all rs else Some r

-- the first of these readings whose target isn't read in the other face
abbrev pub alone_in : List Sight → Option Sight
alone_in rs = alone_among rs rs

-- All these readings are in this face.
abbrev pub are_in_face : Bool → List Sight → Bool
are_in_face second rs = list_all (λ r. is_same_face second r.second) rs

-- A set is read by faces: the first half of its readings is in one face.
abbrev pub is_by_faces : List Sight → Bool
is_by_faces [] = false
is_by_faces (r ∷ rs) = are_in_face r.second (take (length (r ∷ rs) / 2) (r ∷ rs))

-- A set is read by targets: each target is read in both faces before the next.
abbrev pub is_by_targets : List Sight → Bool
is_by_targets [] = true
is_by_targets (a ∷ []) = false
is_by_targets (a ∷ b ∷ rs) = is_pair a b && is_by_targets rs

-- Both sets are read by faces, or both by targets.
abbrev pub are_read_alike : List Sight → List Sight → Bool
are_read_alike first rs =
    (is_by_faces first && is_by_faces rs) || (is_by_targets first && is_by_targets rs)

-- the target of the first reading
abbrev pub first_target : List Sight → List ℕ
first_target [] = []
first_target (r ∷ rs) = r.target

-- the target of the last reading
abbrev pub last_target : List Sight → List ℕ
last_target [] = []
last_target (r ∷ []) = r.target
last_target (r ∷ s ∷ rs) = last_target (s ∷ rs)

-- What is wrong with the readings of a set, in whatever order they are. It is the first of these
-- that is found: a target is read twice in one face; there are more readings than 100 targets have
-- in two faces; a target is read in one face alone.
abbrev pub readings_flaw : List Sight → Option Flaw
readings_flaw rs = first_of (
    flaw_found kinds.ReadTwice (again_in (take (suc MOST_READINGS) rs))
    ∷ flaw_when (nat_lt MOST_READINGS (length rs)) kinds.TooManyTargets (slice_get rs MOST_READINGS)
    ∷ flaw_found kinds.FaceMissing (alone_in rs)
    ∷ [])

-- What is wrong with a set as a whole, where `first` is the station's first set. It is the first of
-- these that is found: the set has fewer than two targets; it is read neither by faces nor by
-- targets, or another way than the first set; it ends with another target than the first set.
abbrev pub order_flaw : List Sight → List Sight → Option Flaw
order_flaw first rs = first_of (
    flaw_when (nat_lt (length rs) 4) kinds.OneTarget (slice_get rs 0)
    ∷ flaw_when (not (are_read_alike first rs)) kinds.Order (slice_get rs (length rs / 2))
    ∷ flaw_when (not (bytes_eq (last_target first) (last_target rs))) kinds.EndsElsewhere
    (slice_get rs (length rs - 1))
    ∷ [])

-- What is wrong with these readings as a set, where `first` is the station's first set.
abbrev pub set_flaw : List Sight → List Sight → Option Flaw
set_flaw first rs = first_of (readings_flaw rs ∷ order_flaw first rs ∷ [])

-- how many of these readings are of this target
abbrev pub count_of : List ℕ → List Sight → ℕ
count_of name rs = length (filter (is_of name) rs)

-- whether a number is even
abbrev pub is_even : ℕ → Bool
is_even zero = true
is_even (suc n) = not (is_even n)

-- whether there is such a reading, and it is of this target
abbrev pub is_some_of : List ℕ → Option Sight → Bool
is_some_of name None = false
is_some_of name (Some r) = is_of name r

-- whether the reading at this place is of this target, and that was read an even number of times
-- before
abbrev pub begins_by : List ℕ → List Sight → ℕ → Bool
begins_by name rs at = is_some_of name (slice_get rs at) && is_even (count_of name (take at rs))

-- A set begins at this place: the reading there is of the target that is read first of all, and
-- that was read an even number of times before.
abbrev pub begins_set : List Sight → ℕ → Bool
begins_set rs at = begins_by (first_target rs) rs at

-- the places of these readings, if the first of them stands at this place
abbrev pub places_from : ℕ → List Sight → List ℕ
places_from at [] = []
places_from at (r ∷ rs) = at ∷ places_from (suc at) rs

-- The places at which the sets of these readings begin, if the first set begins with the first
-- reading.
abbrev pub starts_of : List Sight → List ℕ
starts_of rs = filter (begins_set rs) (places_from 0 rs)

-- the readings from one place up to another, without the one that stands there
abbrev pub part : ℕ → ℕ → List Sight → List Sight
part from to rs = take (to - from) (drop from rs)

-- where a set ends, if these are the places at which the sets after it begin: where the next one
-- begins, or at `end` if it is the last
abbrev pub next_of : ℕ → List ℕ → ℕ
next_of end [] = end
next_of end (to ∷ starts) = to

-- The readings of each set, if sets begin at these places and the last one ends at `end`.
abbrev pub parts_at : ℕ → List ℕ → List Sight → List (List Sight)
parts_at end [] rs = []
parts_at end (from ∷ starts) rs = part from (next_of end starts) rs ∷ parts_at end starts rs

-- the readings in face II
abbrev pub seconds_of : List Sight → List Sight
seconds_of rs = filter (λ r. r.second) rs

-- whether one of these readings is of this target and in face II
abbrev pub is_read_in_two : List Sight → List ℕ → Bool
is_read_in_two rs name = list_any (λ r. is_of name r && r.second) rs

-- those of these readings whose target one of the others has
abbrev pub known_in : List Sight → List Sight → List Sight
known_in others rs = filter (λ r. list_any (is_of r.target) others) rs

-- The readings that are no details: those of the targets that are read in face II.
abbrev pub rest_of : List Sight → List Sight
rest_of rs = known_in (seconds_of rs) rs

-- Some of these readings are of targets that the others have. After so many of them, this is the
-- place of the next one; or the place after the last reading, if there is none.
abbrev pub place_of : List Sight → ℕ → List Sight → ℕ
place_of others count [] = 0
place_of others zero (r ∷ rs) =
    if list_any (is_of r.target) others then 0 else suc (place_of others zero rs)
place_of others (suc count) (r ∷ rs) =
    if list_any (is_of r.target) others then suc (place_of others count rs)
    else suc (place_of others (suc count) rs)

-- the first of these readings whose target none of the others has
abbrev pub unknown_in : List Sight → List Sight → Option Sight
unknown_in others [] = None
unknown_in others (r ∷ rs) =
    if list_any (is_of r.target) others then unknown_in others rs else Some r

-- the last of these places, or 0 if there is none
abbrev pub last_place : List ℕ → ℕ
last_place [] = 0
last_place (at ∷ []) = at
last_place (at ∷ b ∷ rest) = last_place (b ∷ rest)

-- these names, and after them the targets of these readings that are not yet among them
abbrev pub names_with : List (List ℕ) → List Sight → List (List ℕ)
names_with names [] = names
names_with names (r ∷ rs) = names_with (with_new names r.target) rs

-- the targets of these readings, each once
abbrev pub targets_of : List Sight → List (List ℕ)
targets_of rs = names_with [] rs

-- whether one of these readings is of a target that one of the others has
abbrev pub is_some_known : List Sight → List Sight → Bool
is_some_known others rs = list_any (λ r. list_any (is_of r.target) others) rs

-- The place after the last of these readings whose target one of the others has: 0 where none is.
abbrev pub end_of : List Sight → List Sight → ℕ
end_of others [] = 0
end_of others (r ∷ rs) = if is_some_known others (r ∷ rs) then suc (end_of others rs) else 0

-- the readings of the first set, if sets begin at these places and the last one ends at `end`
abbrev pub first_part : ℕ → List ℕ → List Sight → List Sight
first_part end [] rs = []
first_part end (from ∷ starts) rs = part from (next_of end starts) rs

-- What is wrong first in the sets that begin at these places, of which the last ends at `end`. Here
-- `first` is the station's first set, and `count` is how many sets stand before these: a station
-- may have 40.
abbrev pub sets_flaw : List Sight → ℕ → ℕ → List ℕ → List Sight → Option Flaw
sets_flaw first count end [] rs = None
sets_flaw first count end (from ∷ starts) rs = first_of (
    flaw_when (nat_le MOST_SETS count) kinds.TooManySets (slice_get rs from)
    ∷ set_flaw first (part from (next_of end starts) rs)
    ∷ sets_flaw first (suc count) end starts rs
    ∷ [])

-- Where the last set ends, if none of these readings is a detail and their sets begin at these
-- places: after the last reading of a target that a set before the last one has. A single set takes
-- all readings.
abbrev pub cut_end : List ℕ → List Sight → ℕ
cut_end [] rs = length rs
cut_end (from ∷ []) rs = length rs
cut_end (from ∷ to ∷ starts) rs = end_of (take (last_place (to ∷ starts)) rs) rs

-- The sets into which these readings are cut, none of which is a detail.
abbrev pub cut_of : List Sight → List (List Sight)
cut_of rs = parts_at (cut_end (starts_of rs) rs) (starts_of rs) rs

-- the first of the sets into which these readings are cut, if sets begin at these places
abbrev pub first_cut : List ℕ → List Sight → List Sight
first_cut starts rs = first_part (cut_end starts rs) starts rs

-- The first reading is in face II.
abbrev pub begins_in_two : List Sight → Bool
begins_in_two [] = false
begins_in_two (r ∷ rs) = r.second

-- The first two readings are of one target, one in each face.
abbrev pub begins_with_pair : List Sight → Bool
begins_with_pair [] = false
begins_with_pair (a ∷ []) = false
begins_with_pair (a ∷ b ∷ rs) = is_pair a b

-- The sets of these readings are read by targets, as the first two readings show: they are of one
-- target, one in each face.
abbrev pub are_by_targets : List Sight → Bool
are_by_targets rs = begins_with_pair rs

-- Most targets of a set, more than half of them, are targets of the first set. A set reads each of
-- them twice, so these are more than half of its readings.
abbrev pub is_mostly_known : List Sight → List Sight → Bool
is_mostly_known first set = nat_lt (length set) (2 * length (known_in first set))

-- of two flaws the one that stands later in the file, and the first if both stand at one block
abbrev pub later : Option Flaw → Option Flaw → Option Flaw
later None b = b
later (Some a) None = Some a
later (Some a) (Some b) = if nat_lt a.block b.block then Some b else Some a

-- A sight back in both faces, and details: the first two readings are of one target, one in each
-- face; all readings in face II are of it; and another target is read.
abbrev pub is_sight_back : List Sight → Bool
is_sight_back rs =
    begins_with_pair rs && list_all (λ r. not r.second || is_of (first_target rs) r) rs
    && not (list_all (is_of (first_target rs)) rs)

-- A station has no sets: none of its readings is in face II, or they are a sight back and details.
abbrev pub has_no_sets : List Sight → Bool
has_no_sets rs = are_in_face false rs || is_sight_back rs

-- what is wrong with the sets that stand here; if nothing is, these sets
abbrev pub divided_unless : Option Flaw → Span → Divided
divided_unless None span = Sets span
divided_unless (Some f) span = Flawed f

-- where the sets of these readings stand in the station, if the first set begins at this place and
-- no detail stands among the sets
abbrev pub span_from : ℕ → List Sight → Span
span_from from rs = record { from = from; to = from + cut_end (starts_of rs) rs }

-- The readings of a station's sets, which stand here: from the first of the first set to the last
-- of the last.
abbrev pub in_span : Span → List Sight → List Sight
in_span span rs = part span.from span.to rs

-- The sets of these readings, if each reading is in a set.
abbrev pub sets_of : List Sight → List (List Sight)
sets_of rs = parts_at (length rs) (starts_of rs) rs

-- the first of these sets
abbrev pub first_set : List Sight → List Sight
first_set rs = first_part (length rs) (starts_of rs) rs

-- The first of these readings with one target too many: it is of a new target, where 100 others
-- have been read. These names are those of the targets that were read before.
abbrev pub one_too_many : List (List ℕ) → List Sight → Option Sight
one_too_many names [] = None
one_too_many names (r ∷ rs) =
    if not (is_among names r.target) && nat_le MOST_TARGETS (length names) then Some r
    else one_too_many (with_new names r.target) rs
