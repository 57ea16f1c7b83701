-- What is told of the sets of a station beyond their numbers, from its readings alone (profile). It
-- is what a field book shows at a glance. Sets that begin elsewhere than in the book, that miss
-- readings or that are another station's differ from it there.
use Rattle.std.specs.Prelude.{ℕ, ◌-◌, ◌*◌, ◌/◌, Bool, ◌&&◌, not, List, length, filter}
use Rattle.std.specs.Prelude.{if◌then◌else◌, Option, Some, None, slice_get}
use Rattle.std.specs.List.{list_any}
use Rattle.set_marks.specs.declared.remarks.Remarks.{Remarks}
use Rattle.set_marks.specs.declared.sight.Sight.{Sight}
use Rattle.set_marks.specs.declared.equal_sets.SetPair.{SetPair}
use Rattle.set_marks.specs.declared.zeniths.ZenithRange.{ZenithRange}
use Rattle.set_marks.specs.Divisions.{is_of, is_pair, is_by_targets, starts_of, first_set}
use Rattle.set_marks.specs.Divisions.{targets_of, first_target, are_by_targets}
use Rattle.set_marks.specs.EqualSets.{equal_sets}
use Rattle.set_marks.specs.Zeniths.{spread_ranges}

-- How many readings of a set come before it turns: the first half where it is read by faces, and
-- all where it is read by targets, since that one never turns.
abbrev pub length_to_turn : List Sight → ℕ
length_to_turn set = if is_by_targets set then length set else length set / 2

-- the last reading of a set before it turns
abbrev pub turning_of : List Sight → Option Sight
turning_of set = slice_get set (length_to_turn set - 1)

-- How many directions so many sets have if each of them has all targets of these readings.
abbrev pub full_count : ℕ → List Sight → ℕ
full_count sets in_sets = sets * length (targets_of in_sets)

-- How many of these directions are missing: a direction takes two readings, one in each face.
abbrev pub missing_count : ℕ → List Sight → ℕ
missing_count sets in_sets = full_count sets in_sets - length in_sets / 2

-- A reading after the sets seems to be another station's: it is in face II, no set has its target,
-- and this is read in face I after the sets too. Detail points are read in face I alone.
abbrev pub seems_of_another : List Sight → List Sight → Sight → Bool
seems_of_another in_sets after r =
    r.second && (not (list_any (is_of r.target) in_sets) && list_any (is_pair r) after)

-- The targets that no set has and that are read in both faces after the sets, each once.
abbrev pub others_after : List Sight → List Sight → List (List ℕ)
others_after in_sets after = targets_of (filter (seems_of_another in_sets after) after)

-- After sets that are read by targets stands a reading of the target that opens them. It may be a
-- check. But if the sets in truth begin with their second target, after a sight in both faces to
-- the first, and their last reading was lost, they look so too.
abbrev pub is_opened_again : List Sight → List Sight → Bool
is_opened_again in_sets after =
    are_by_targets in_sets && list_any (is_of (first_target in_sets)) after

-- what is told of sets whose first reading is `opening`, and of which the first turns after
-- `turning`; nothing if there is no such reading
abbrev pub remarks_by : Option Sight → Option Sight → ℕ → ℕ → ℕ → Bool → List SetPair
    → List ZenithRange → Option Remarks
remarks_by None turning full missing others again equal zeniths = None
remarks_by (Some opening) None full missing others again equal zeniths = None
remarks_by (Some opening) (Some turning) full missing others again equal zeniths = Some (record {
  opening = opening.target;
  turning = turning.target;
  directions = full;
  missing = missing;
  others = others;
  opened_again = again;
  equal_sets = equal;
  zeniths = zeniths;
})

-- What is told of the sets that take all these readings, where the others are the readings of the
-- station after them. If there are no sets, nothing is told.
abbrev pub remarks_of : List Sight → List Sight → Option Remarks
remarks_of in_sets after =
    remarks_by (slice_get in_sets 0) (turning_of (first_set in_sets))
    (full_count (length (starts_of in_sets)) in_sets)
    (missing_count (length (starts_of in_sets)) in_sets)
    (length (others_after in_sets after)) (is_opened_again in_sets after)
    (equal_sets (starts_of in_sets) in_sets) (spread_ranges in_sets)
