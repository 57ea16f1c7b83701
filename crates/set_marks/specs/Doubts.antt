-- The doubts about sets that were found (profile): nothing is wrong with them, but other sets may
-- be meant. The first set may begin earlier, with some of the leading readings: then all sets are
-- shifted. Of sets that are read by targets nothing shows where they begin, so their number has to
-- be stated. And a set of other targets than the first may be of another set-up.
use Rattle.std.specs.Prelude.{Bool, ◌&&◌, ◌||◌, not, nat_le, ◌==◌, List, [], ◌∷◌, length, drop}
use Rattle.std.specs.Prelude.{if◌then◌else◌, Option, None, slice_get}
use Rattle.std.specs.List.{list_any}
use Rattle.std.specs.Str.{bytes_eq}
use Rattle.station_book.specs.Faults.{first_of}
use Rattle.set_marks.specs.declared.fault.MarkKind.TheVariants as kinds
use Rattle.set_marks.specs.declared.flaw.Flaw.{Flaw}
use Rattle.set_marks.specs.declared.sight.Sight.{Sight}
use Rattle.job_statements.specs.declared.stated.Numbers.{Numbers}
use Rattle.job_statements.specs.Numbers.{is_another, is_asked}
use Rattle.set_marks.specs.Divisions.{is_of, is_pair, first_target, last_target, is_by_targets}
use Rattle.set_marks.specs.Divisions.{flaw_when, flaw_found, starts_of, cut_end, cut_of, first_cut}
use Rattle.set_marks.specs.Divisions.{part, targets_of, begins_with_pair, are_by_targets}
use Rattle.set_marks.specs.Divisions.{is_mostly_known}

-- One of the leading readings is of the target that ends this set, and the set begins with another.
abbrev pub reads_end : List Sight → List Sight → Bool
reads_end leading set =
    not (bytes_eq (last_target set) (first_target set))
    && list_any (is_of (last_target set)) leading

-- A set that is read by targets may begin earlier, with some of the leading readings: one of these
-- is of the target that ends the set, which begins with another; and the set has two targets, or
-- one of the leading readings is in face II.
abbrev pub leads_to_end : List Sight → List Sight → Bool
leads_to_end leading set =
    reads_end leading set && is_by_targets set
    && (nat_le (length set) 4 || list_any (λ r. r.second) leading)

-- One of the leading readings is in face II, and of a target of these sets, but not of the one that
-- opens them.
abbrev pub leads_within : List Sight → List Sight → Bool
leads_within leading in_sets =
    list_any (λ r. (r.second && not (is_of (first_target in_sets) r))
    && list_any (is_of r.target) in_sets) leading

-- One of these readings is in face II, and none of them is of its target in face I.
abbrev pub has_lone_second : List Sight → Bool
has_lone_second rs = list_any (λ r. r.second && not (list_any (λ s. is_pair r s) rs)) rs

-- The sets, of which this is the first, may begin earlier, with some of the leading readings. One
-- of these is in face II, and none of them is of its target in face I. Or the first set is read by
-- targets and may begin earlier. Or it is read by targets, and a leading reading in face II is of a
-- target of the sets, but not of the one that opens them: the leading readings may be of the first
-- set, and some after them may be lost.
abbrev pub may_be_shifted : List Sight → List Sight → List Sight → Bool
may_be_shifted leading set in_sets =
    has_lone_second leading
    || (leads_to_end leading set || (is_by_targets set && leads_within leading in_sets))

-- the first reading of the first of these sets of which no more than half of the targets are
-- targets of the station's first set
abbrev pub stranger_among : List Sight → List (List Sight) → Option Sight
stranger_among first [] = None
stranger_among first (set ∷ sets) =
    if is_mostly_known first set then stranger_among first sets else slice_get set 0

-- Sets that are read by targets may go on: the two readings after them are of one target, one in
-- each face, as the next two of a set are. So the sets may begin with another target. Here `rs` are
-- the readings of the sets and all after them, without details.
abbrev pub may_go_on : List Sight → List Sight → Bool
may_go_on sets rs =
    are_by_targets sets && begins_with_pair (drop (cut_end (starts_of sets) sets) rs)

-- Sets that are read by targets may have gone on: a reading after them is in face II. It may be of
-- a target as the next of a set is, of which a reading is lost or was read once more. So the sets
-- may begin with another target.
abbrev pub may_have_gone_on : List Sight → List Sight → Bool
may_have_gone_on sets rs =
    are_by_targets sets && list_any (λ r. r.second) (drop (cut_end (starts_of sets) sets) rs)

-- Why the sets of these readings can't be taken by the numbers that are stated. It is the first of
-- these that is found: another number of sets is stated; there is one set, read by targets, and no
-- number of targets is stated; another number of targets is stated.
abbrev pub numbers_flaw : Numbers → List Sight → Option Flaw
numbers_flaw stated rs = first_of (
    flaw_when (is_another stated.sets (length (starts_of rs))) kinds.SetCount (slice_get rs 0)
    ∷ flaw_when (is_asked (are_by_targets rs && (length (starts_of rs) == 1)) stated.targets)
    kinds.ByTargets (slice_get rs 0)
    ∷ flaw_when (is_another stated.targets
    (length (targets_of (part 0 (cut_end (starts_of rs) rs) rs)))) kinds.TargetCount
    (slice_get rs 0)
    ∷ [])

-- The doubt about sets that stand after these leading readings, and of which this is stated. It is
-- the first of these that is found: the sets may begin earlier; they are read by targets, and no
-- number of sets is stated; they may go on, or may have gone on; they can't be taken by the numbers
-- that are stated; no more than half of the targets of a set are targets of the first. Here `sets`
-- are the readings of the sets up to an ending, and `rs` these and all after them. None of these
-- readings is a detail.
abbrev pub doubt_after : Numbers → List Sight → List Sight → List Sight → Option Flaw
doubt_after stated leading sets rs = first_of (
    flaw_when (may_be_shifted leading (first_cut (starts_of sets) sets)
    (part 0 (cut_end (starts_of sets) sets) sets)) kinds.MayBeShifted (slice_get sets 0)
    ∷ flaw_when (is_asked (are_by_targets sets) stated.sets) kinds.ByTargets (slice_get sets 0)
    ∷ flaw_when (may_go_on sets rs) kinds.PairAfter
    (slice_get rs (cut_end (starts_of sets) sets))
    ∷ flaw_when (may_have_gone_on sets rs) kinds.MayBeShifted (slice_get sets 0)
    ∷ numbers_flaw stated sets
    ∷ flaw_found kinds.OtherTargets
    (stranger_among (first_cut (starts_of sets) sets) (cut_of sets))
    ∷ [])
