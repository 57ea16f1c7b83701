-- The sets of a station in words.
use Rattle.std.specs.Prelude.{◌≡◌, ◌≤◌, ℕ, Bool, true, ◌&&◌, List, ◌++◌, length, take, drop}
use Rattle.std.specs.Prelude.{filter, Contains, All}
use Rattle.std.specs.List.{flat_map}
use Rattle.adjust_kernel.specs.declared.bounds.TheConstants.{MOST_SETS}
use Rattle.set_marks.specs.declared.sight.Sight.{Sight}
use Rattle.set_marks.specs.declared.span.Span.{Span}
use Rattle.set_marks.specs.Divisions.{is_of, is_same_face, sets_of, first_set, in_span}
use Rattle.set_marks.specs.Divisions.{is_mostly_known}

-- those of these readings that are of this target and in this face
abbrev pub readings_in : List ℕ → Bool → List Sight → List Sight
readings_in name second rs = filter (λ r. is_of name r && is_same_face second r.second) rs

-- Each target of a set is read once in each face: one reading of the set is of it in face I, and
-- one in face II. There are four readings at least.
pub record ReadsEachOnce (set : List Sight) : Type 0 where
  pub many : 4 ≤ length set
  pub once : (s : Sight) (second : Bool) → Contains set s
      → length (readings_in s.target second set) ≡ 1

-- The readings of all these sets, one set after another.
abbrev pub one_after_another : List (List Sight) → List Sight
one_after_another sets = flat_map (λ set. set) sets

-- The sets of these readings stand here. There are 1 to 40 sets, and each reads each of its targets
-- once in each face. Of each set more than half of the targets are targets of the first. The
-- readings are those before the sets, then those of the sets, one set after another, and then those
-- after the last set: no reading is missing, and none is in two sets.
pub record AreSets (rs : List Sight) (span : Span) : Type 0 where
  pub some : 1 ≤ length (sets_of (in_span span rs))
  pub few : length (sets_of (in_span span rs)) ≤ MOST_SETS
  pub each : All ReadsEachOnce (sets_of (in_span span rs))
  pub known : All (λ set. is_mostly_known (first_set (in_span span rs)) set ≡ true)
      (sets_of (in_span span rs))
  pub in_order : rs
      ≡ take span.from rs ++ (one_after_another (sets_of (in_span span rs)) ++ drop span.to rs)
