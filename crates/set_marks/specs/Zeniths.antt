-- How far apart the zenith angles of each target are in the sets of a station (profile). The zenith
-- angles of a target are equal but for small errors. If they differ by more, a point was mistaken
-- for another, or a set is of another station.
use Rattle.std.specs.Prelude.{ℕ, ◌-◌, min, max, Bool, nat_lt, List, [], ◌∷◌, filter}
use Rattle.std.specs.Prelude.{if◌then◌else◌}
use Rattle.std.specs.Str.{bytes_eq}
use Rattle.station_book.specs.declared.bounds.TheConstants.{CIRCLE}
use Rattle.set_marks.specs.declared.zeniths.ZenithRange.{ZenithRange}
use Rattle.set_marks.specs.declared.zeniths.TheConstants.{LARGEST_SPREAD}
use Rattle.set_marks.specs.declared.sight.Sight.{Sight}

-- The zenith angle of a reading as it is in face I: one in face II is taken from a full circle.
abbrev pub zenith_in_one : Sight → ℕ
zenith_in_one r = if r.second then CIRCLE - r.angles.zenith else r.angles.zenith

-- the range of zenith angles of one reading, from the angle to itself
abbrev pub range_of : Sight → ZenithRange
range_of r =
    record { target = r.target; least = zenith_in_one r; greatest = zenith_in_one r }

-- a range, widened so that it has this zenith angle too
abbrev pub with_angle : ZenithRange → ℕ → ZenithRange
with_angle z angle =
    record { target = z.target; least = min z.least angle; greatest = max z.greatest angle }

-- These ranges with one reading more: it widens the range of its target, or begins one.
abbrev pub with_reading : List ZenithRange → Sight → List ZenithRange
with_reading [] r = range_of r ∷ []
with_reading (z ∷ zs) r =
    if bytes_eq z.target r.target then with_angle z (zenith_in_one r) ∷ zs
    else z ∷ with_reading zs r

-- these ranges with all these readings, one after another
abbrev pub ranges_with : List ZenithRange → List Sight → List ZenithRange
ranges_with zs [] = zs
ranges_with zs (r ∷ rs) = ranges_with (with_reading zs r) rs

-- The least and the greatest zenith angle of each target, in the order in which the targets are
-- read first.
abbrev pub ranges_of : List Sight → List ZenithRange
ranges_of rs = ranges_with [] rs

-- the greatest zenith angle of a target, less the least
abbrev pub spread : ZenithRange → ℕ
spread z = z.greatest - z.least

-- The zenith angles of a target differ by more than 20 mgon.
abbrev pub is_spread : ZenithRange → Bool
is_spread z = nat_lt LARGEST_SPREAD (spread z)

-- The targets of these readings whose zenith angles differ by more than 20 mgon, each with the
-- least and the greatest.
abbrev pub spread_ranges : List Sight → List ZenithRange
spread_ranges rs = filter is_spread (ranges_of rs)
