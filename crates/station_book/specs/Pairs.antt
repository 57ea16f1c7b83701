-- What the two readings of a target give, as the book computes it.
use Rattle.std.specs.Prelude.{ℕ, ◌+◌, ◌-◌, ◌*◌, ◌%◌, ℤ, pos, ◌-ℤ◌}
use Rattle.adjust_kernel.specs.declared.bounds.TheConstants.{TURN}
use Rattle.station_book.specs.declared.bounds.TheConstants.{CIRCLE, HALF_CIRCLE}
use Rattle.station_book.specs.TwoFaces.{Angles}

-- 2c and half a circle, from 0 up to a circle
abbrev pub half_turned : Angles → Angles → ℕ
half_turned first second = ((second.hz + CIRCLE) - first.hz) % CIRCLE

-- 2c: the direction in face II less that in face I, less half a circle, brought to within
-- half a circle of 0 (textbook)
abbrev pub two_c : Angles → Angles → ℤ
two_c first second = pos (half_turned first second) -ℤ pos HALF_CIRCLE

-- 2i: both zenith angles together, less a circle (textbook)
abbrev pub two_i : Angles → Angles → ℤ
two_i first second = pos (first.zenith + second.zenith) -ℤ pos CIRCLE

-- the two-face direction, in half units
abbrev pub direction : Angles → Angles → ℕ
direction first second = ((2 * first.hz + half_turned first second) + (CIRCLE + HALF_CIRCLE)) % TURN
