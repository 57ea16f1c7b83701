-- Where the last of a station's sets ends, in words.
use Rattle.std.specs.Prelude.{◌≡◌, ◌≤◌, ℕ, Bool, true, false, ◌&&◌, ◌||◌, not}
use Rattle.std.specs.Prelude.{List, ◌++◌, length, filter, take, drop, All, Any, ◌==◌}
use Rattle.std.specs.List.{list_any}
use Rattle.std.specs.Str.{bytes_eq}
use Rattle.set_marks.specs.declared.sight.Sight.{Sight}
use Rattle.set_marks.specs.declared.span.Span.{Span}
use Rattle.set_marks.specs.Divisions.{is_of, first_target, last_target, starts_of, last_place}
use Rattle.set_marks.specs.Divisions.{in_span, are_in_face, begins_with_pair, are_by_targets}
use Rattle.set_marks.specs.Divisions.{is_read_in_two, first_set, seconds_of}
use Rattle.set_marks.specs.Outside.{firsts_of}

-- whether a set before the last one has this target, where these are the readings of the sets
abbrev pub was_read : List Sight → List ℕ → Bool
was_read rs name = list_any (is_of name) (take (last_place (starts_of rs)) rs)

-- These readings, after such sets, check that the instrument has not moved. All of them are in face
-- I, or there are none; or the sets are read by faces, and these are two readings of the target
-- that opens the sets, one in each face.
abbrev pub are_checks : List Sight → List Sight → Bool
are_checks sets rs =
    are_in_face false rs
    || ((length rs == 2) && begins_with_pair rs && bytes_eq (first_target rs) (first_target sets)
    && not (are_by_targets sets))

-- Of some readings of a station those that are no details: their targets are read in face II.
abbrev pub without_details : List Sight → List Sight → List Sight
without_details all rs = filter (λ r. is_read_in_two all r.target) rs

-- As many of these readings are in face I as in face II.
abbrev pub AreEven : List Sight → Type 0
AreEven rs = length (firsts_of rs) ≡ length (seconds_of rs)

-- The last of the sets that stand here ends with a reading of a target of which this is so; and no
-- reading of the station after it is of such a target, up to where its checks begin. From there on
-- only these are no details. Where they are check sights, as many of the readings before them that
-- are no details, from the first set on, are in face I as in face II. After sets of two targets
-- checks stand only after a detail.
pub record EndsLastSet (known : List ℕ → Bool) (span : Span) (rs : List Sight) : Type 0 where
  pub last : known (last_target (in_span span rs)) ≡ true
  pub after : List Sight
  pub ended : List Sight
  pub split : drop span.to rs ≡ after ++ ended
  pub strange : All (λ r. known r.target ≡ false) after
  pub checks : are_checks (in_span span rs) (without_details rs ended) ≡ true
  pub even : 1 ≤ length (without_details rs ended)
      → are_in_face false (without_details rs ended) ≡ true
      → AreEven (without_details rs (in_span span rs ++ after))
  pub apart : 1 ≤ length (without_details rs ended) → length (first_set (in_span span rs)) ≤ 4
      → Any (λ r. is_read_in_two rs r.target ≡ false) after
