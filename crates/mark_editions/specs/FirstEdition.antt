-- The first edition of the rule (profile): which readings of a station were its sets. Up to three
-- readings lead, and all others are sets, up to where the last of them ends: nothing is told apart
-- as detail, and nothing is an ending. What a set is and where sets begin and end is said as in the
-- second edition.
use Rattle.std.specs.Prelude.{ℕ, Bool, true, false, ◌&&◌, ◌||◌, not, nat_lt}
use Rattle.std.specs.Prelude.{List, [], ◌∷◌, length, take, drop, if◌then◌else◌}
use Rattle.std.specs.Prelude.{Option, Some, None, is_none, slice_get}
use Rattle.std.specs.List.{list_any}
use Rattle.std.specs.Str.{bytes_eq}
use Rattle.gsi_file.specs.FileAnswers.{least}
use Rattle.station_book.specs.Faults.{first_of}
use Rattle.set_marks.specs.declared.division.Divided.{Divided}
use Rattle.set_marks.specs.declared.division.Divided.TheVariants.{NoSets}
use Rattle.set_marks.specs.declared.fault.MarkKind.TheVariants as kinds
use Rattle.set_marks.specs.declared.flaw.Flaw.{Flaw}
use Rattle.set_marks.specs.declared.sight.Sight.{Sight}
use Rattle.set_marks.specs.Divisions.{is_of, is_pair, are_in_face, is_by_targets, first_target}
use Rattle.set_marks.specs.Divisions.{last_target, flaw_at, flaw_when, flaw_found, sets_flaw}
use Rattle.set_marks.specs.Divisions.{starts_of, cut_end, cut_of, first_cut, begins_in_two, later}
use Rattle.set_marks.specs.Divisions.{divided_unless, span_from}
use Rattle.set_marks.specs.Doubts.{stranger_among}

-- What is wrong first where these readings are sets, after so many that lead: a set; or there is
-- but one, and some lead.
abbrev pub flaw_behind : ℕ → List Sight → Option Flaw
flaw_behind leading [] = Some (flaw_at kinds.OneSet None)
flaw_behind leading (r ∷ rs) = first_of (
    sets_flaw (first_cut (starts_of (r ∷ rs)) (r ∷ rs)) 0 (cut_end (starts_of (r ∷ rs)) (r ∷ rs))
    (starts_of (r ∷ rs)) (r ∷ rs)
    ∷ flaw_when (nat_lt 0 leading && nat_lt (length (starts_of (r ∷ rs))) 2) kinds.OneSet (Some r)
    ∷ [])

-- What is wrong first where so many readings of a station lead, and the others are sets.
abbrev pub flaw_after_leading : List Sight → ℕ → Option Flaw
flaw_after_leading rs leading = flaw_behind leading (drop leading rs)

-- So many lead, and the others are sets.
abbrev pub divides : List Sight → ℕ → Bool
divides rs leading = is_none (flaw_after_leading rs leading)

-- The fewest leading readings after which the others are sets: at most three.
abbrev pub fewest_leading : List Sight → Option ℕ
fewest_leading rs = least (divides rs) 3

-- What is said to be wrong where there is no such number: what comes latest.
abbrev pub latest_of_all : List Sight → Option Flaw
latest_of_all rs = later (later (later (flaw_after_leading rs 0) (flaw_after_leading rs 1))
    (flaw_after_leading rs 2)) (flaw_after_leading rs 3)

-- The sets, of which this is the first, may be shifted by the leading readings: one of these is in
-- face II and none of its target in face I, or one is of the target that ends the sets and does not
-- begin them.
abbrev pub may_stand_elsewhere : List Sight → List Sight → Bool
may_stand_elsewhere leading set =
    list_any (λ r. r.second && not (list_any (λ s. is_pair r s) leading)) leading
    || (not (bytes_eq (last_target set) (first_target set))
    && list_any (is_of (last_target set)) leading)

-- There is one set, read by targets.
abbrev pub is_one_by_targets : List (List Sight) → Bool
is_one_by_targets [] = false
is_one_by_targets (set ∷ []) = is_by_targets set
is_one_by_targets (set ∷ next ∷ sets) = false

-- The doubt about readings that are sets after these leading ones, the first that stands: the first
-- set begins in face II; the sets may be shifted; there is but one, read by targets; or a set has
-- other targets than the first.
abbrev pub doubt_behind : List Sight → List Sight → Option Flaw
doubt_behind leading rs = first_of (
    flaw_when (begins_in_two rs) kinds.FirstFace (slice_get rs 0)
    ∷ flaw_when (may_stand_elsewhere leading (first_cut (starts_of rs) rs)) kinds.MayBeShifted
    (slice_get rs 0)
    ∷ flaw_when (is_one_by_targets (cut_of rs)) kinds.ByTargets (slice_get rs 0)
    ∷ flaw_found kinds.OtherTargets (stranger_among (first_cut (starts_of rs) rs) (cut_of rs))
    ∷ [])

-- all in one face, or none at all
abbrev pub are_in_one_face : List Sight → Bool
are_in_one_face [] = true
are_in_one_face (r ∷ rs) = are_in_face r.second rs

-- What the readings are by the fewest that lead: the sets after them, unless they are in doubt.
abbrev pub first_by : List Sight → Option ℕ → Divided
first_by rs None = divided_unless (latest_of_all rs) (span_from 0 [])
first_by rs (Some leading) = divided_unless (doubt_behind (take leading rs) (drop leading rs))
    (span_from leading (drop leading rs))

-- What a station's readings were by the first edition: all in one face, so that it has no sets; or
-- sets, and where they stand; or something is wrong.
abbrev pub first_divided : List Sight → Divided
first_divided rs = if are_in_one_face rs then NoSets else first_by rs (fewest_leading rs)
