-- Which readings may stand outside the sets of a station, beside details and targets that no set
-- has (profile): leading readings before the first set, and an ending after the last. An ending is
-- read when the work is done, to see that the instrument has not moved: check sights in face I, or
-- the target that opens the sets once more in both faces.
use Rattle.std.specs.Prelude.{ℕ, Bool, true, false, ◌&&◌, ◌||◌, not, ◌-◌, nat_lt, nat_le}
use Rattle.std.specs.Prelude.{List, [], length, filter, take, drop, if◌then◌else◌, is_none}
use Rattle.std.specs.List.{list_all, list_any}
use Rattle.std.specs.Str.{bytes_eq}
use Rattle.set_marks.specs.declared.outside.Ending.{Ending}
use Rattle.set_marks.specs.declared.outside.Ending.TheVariants.{Nothing, CheckSights, CheckPair}
use Rattle.set_marks.specs.declared.sight.Sight.{Sight}
use Rattle.set_marks.specs.Divisions.{is_of, are_in_face, is_by_targets, again_in, first_target}
use Rattle.set_marks.specs.Divisions.{seconds_of, first_cut, begins_with_pair, are_by_targets}

-- Each of these readings is of a target that one of the others has.
abbrev pub are_among : List Sight → List Sight → Bool
are_among others rs = list_all (λ r. list_any (is_of r.target) others) rs

-- These readings are sights to the targets of a set: they are pairs, each of another of its
-- targets, and the set is read by faces and has more than two targets.
abbrev pub are_sights_to : List Sight → List Sight → Bool
are_sights_to set rs =
    is_by_targets rs && is_none (again_in rs) && nat_lt 4 (length set)
    && not (are_by_targets set) && are_among set rs

-- These readings may stand before sets, of which this is the first, however many they are: all are
-- in face I, or they are sights to the set.
abbrev pub are_plain : List Sight → List Sight → Bool
are_plain set rs = are_in_face false rs || are_sights_to set rs

-- The readings of a single set whose targets may be sighted before it: all; or, if it has two
-- targets only, the first.
abbrev pub sighted_before : List Sight → List Sight
sighted_before set = if nat_le (length set) 4 then take 1 set else set

-- These leading readings may stand before a single set, which begins at this place of the station.
-- They are of targets of the set that may be sighted before it. All are in face I, or all are of
-- one target, or they are sights to the set. And no detail stands before the set: the place is not
-- greater than the number of the leading readings.
abbrev pub may_lead : List Sight → List Sight → ℕ → Bool
may_lead set leading place =
    are_among (sighted_before set) leading
    && (are_plain set leading || list_all (is_of (first_target leading)) leading)
    && nat_le place (length leading)

-- These leading readings may stand before sets, which begin at this place of the station and at
-- these places of their own readings: they are three at most, or such that any number of them may;
-- and if there is a single set, they may stand before it.
abbrev pub may_precede : List ℕ → List Sight → List Sight → ℕ → Bool
may_precede starts sets leading place =
    (nat_le (length leading) 3 || are_plain (first_cut starts sets) leading)
    && (nat_le 2 (length starts) || may_lead sets leading place)

-- the readings in face I
abbrev pub firsts_of : List Sight → List Sight
firsts_of rs = filter (λ r. not r.second) rs

-- how many more of these readings are in face I than in face II
abbrev pub surplus : List Sight → ℕ
surplus rs = length (firsts_of rs) - length (seconds_of rs)

-- the last so many of these readings
abbrev pub last_of : ℕ → List Sight → List Sight
last_of count rs = drop (length rs - count) rs

-- all of these readings but the last so many
abbrev pub all_but : ℕ → List Sight → List Sight
all_but count rs = take (length rs - count) rs

-- The readings of this ending, if these readings have it: none; or the last ones, as many check
-- sights as there are more readings in face I than in face II; or the last two.
abbrev pub in_ending : Ending → List Sight → List Sight
in_ending Nothing rs = []
in_ending CheckSights rs = last_of (surplus rs) rs
in_ending CheckPair rs = last_of 2 rs

-- The readings before this ending, if these readings have it.
abbrev pub before_ending : Ending → List Sight → List Sight
before_ending Nothing rs = rs
before_ending CheckSights rs = all_but (surplus rs) rs
before_ending CheckPair rs = all_but 2 rs

-- These readings can have this ending. Nothing: always. Check sights: more readings are in face I
-- than in face II, the last ones, as many as there are more, are all in face I, and others stand
-- before them. A check pair: the last two are of one target, one in each face, and others stand
-- before them.
abbrev pub is_ended : Ending → List Sight → Bool
is_ended Nothing rs = true
is_ended CheckSights rs =
    nat_lt 0 (surplus rs) && nat_lt (surplus rs) (length rs)
    && are_in_face false (in_ending CheckSights rs)
is_ended CheckPair rs = nat_lt 2 (length rs) && begins_with_pair (in_ending CheckPair rs)

-- This ending, with these readings, may stand after such sets. Of check sights nothing is asked. A
-- check pair is of the target that opens the sets, and these are read by faces.
abbrev pub may_end : Ending → List Sight → List Sight → Bool
may_end Nothing sets ending = true
may_end CheckSights sets ending = true
may_end CheckPair sets ending =
    not (are_by_targets sets) && bytes_eq (first_target ending) (first_target sets)

-- An ending may follow sets of which this is the first: the set has more than two targets, or a
-- detail stands between the sets and the ending (`apart`).
abbrev pub may_follow : Ending → List Sight → Bool → Bool
may_follow Nothing first apart = true
may_follow CheckSights first apart = nat_lt 4 (length first) || apart
may_follow CheckPair first apart = nat_lt 4 (length first) || apart
