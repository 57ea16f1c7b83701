-- Directions as a table states them, in gon or in degrees. They are whole numbers of parts: 81
-- parts are 0.000000001 gon, 90 are 0.000000001 degrees and 25 are 0.000001 seconds, since 400 gon
-- are 360 degrees.
use Rattle.std.specs.Prelude.{ℕ, ◌-◌, ◌*◌, ◌^◌, Bool, not, ◌&&◌, ◌==◌, nat_le, if◌then◌else◌}
use Rattle.std.specs.Prelude.{List, ℤ, pos}
use Rattle.direction_table.specs.Degrees.{has_minutes, is_packed, is_sexagesimal, numbers_of}
use Rattle.direction_table.specs.Degrees.{packed_digits, packed_step, packed_value, sexagesimal_step}
use Rattle.direction_table.specs.Degrees.{sexagesimal_value}
use Rattle.direction_table.specs.Gons.{has_exponent, is_negative, is_size, is_whole_size, signed}
use Rattle.direction_table.specs.Gons.{size_decimals, size_value, unsigned}
use Rattle.direction_table.specs.declared.direction.TheConstants.{CIRCLE_PARTS, DEGREE_PARTS}
use Rattle.adjust_kernel.specs.declared.units.TheConstants.{PARTS}
use Rattle.direction_table.specs.declared.unit.AngleUnit.{AngleUnit}
use Rattle.direction_table.specs.declared.unit.AngleUnit.TheVariants.{Gon, Degrees, PackedDegrees}

-- Degrees have minutes where they have one of the marks of minutes, and no exponent.
abbrev pub are_sexagesimal : List ℕ → Bool
are_sexagesimal bytes = has_minutes bytes && not (has_exponent bytes)

-- Bytes are a number of the unit, without a sign: of gon a decimal number, of degrees one too, or
-- degrees with their minutes and seconds; of packed degrees one with these after the point.
abbrev pub is_angle : AngleUnit → List ℕ → Bool
is_angle Gon bytes = is_size bytes
is_angle Degrees bytes =
    if are_sexagesimal bytes then is_sexagesimal (numbers_of bytes) else is_size bytes
is_angle PackedDegrees bytes = is_packed (packed_digits bytes)

-- Its parts. What stands past the ninth decimal, of seconds what is less than a part, is left out.
abbrev pub angle_value : AngleUnit → List ℕ → ℕ
angle_value Gon bytes = PARTS * size_value bytes
angle_value Degrees bytes =
    if are_sexagesimal bytes then sexagesimal_value (numbers_of bytes)
    else DEGREE_PARTS * size_value bytes
angle_value PackedDegrees bytes = packed_value (packed_digits bytes)

-- One unit of the last of so many decimals, in units of the ninth; 0 where there are none.
abbrev pub last_unit : ℕ → ℕ
last_unit decimals = if decimals == 0 then 0 else 10 ^ (9 - decimals)

-- The step that a decimal number tells, where a unit of its ninth decimal has so many parts: one
-- unit of its last decimal; and one part, less than any other, where something is left out of it.
abbrev pub size_step : ℕ → List ℕ → ℕ
size_step parts bytes =
    if is_whole_size bytes then parts * last_unit (size_decimals bytes) else 1

-- The step to which a number is rounded as it is written, in parts: one unit of its last decimal,
-- or of its seconds where these have none. Gon and degrees without decimals, and 0-00-00, tell
-- none: programs write the first direction so, whatever they round the others to. There it is 0.
abbrev pub angle_step : AngleUnit → List ℕ → ℕ
angle_step Gon bytes = size_step PARTS bytes
angle_step Degrees bytes =
    if are_sexagesimal bytes then sexagesimal_step (numbers_of bytes)
    else size_step DEGREE_PARTS bytes
angle_step PackedDegrees bytes = packed_step (packed_digits bytes)

-- A field is a direction: such a number, with an optional sign before it.
abbrev pub is_direction : AngleUnit → List ℕ → Bool
is_direction unit field = is_angle unit (unsigned field)

-- A direction on the circle: a full circle, either way, is 0.
abbrev pub on_circle : Bool → ℕ → ℤ
on_circle negative size = if size == CIRCLE_PARTS then pos 0 else signed negative size

-- The direction that a field writes, in parts.
abbrev pub direction_value : AngleUnit → List ℕ → ℤ
direction_value unit field = on_circle (is_negative field) (angle_value unit (unsigned field))

-- A direction is a full circle at most, either way, by the decimals that count.
abbrev pub is_on_circle : AngleUnit → List ℕ → Bool
is_on_circle unit field = nat_le (angle_value unit (unsigned field)) CIRCLE_PARTS

-- The step that a field tells of its direction, in parts; 0 where it tells none.
abbrev pub step_in : AngleUnit → List ℕ → ℕ
step_in unit field = angle_step unit (unsigned field)
