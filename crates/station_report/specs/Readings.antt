-- What was read at each place of a station's observations.
use Rattle.std.specs.Prelude.{ℕ, Bool, ◌+◌, ◌-◌, ◌/◌, List, [], map, slice_index_or, Option}
use Rattle.std.specs.Prelude.{ℤ, pos, ◌+ℤ◌, ◌-ℤ◌, unsigned_abs, ◌==◌, ◌&&◌, position}
use Rattle.std.specs.Int.{int_rem_euclid}
use Rattle.std.specs.Option.{option_map_or}
use Rattle.adjust_kernel.specs.Stations.{StationValue}
use Rattle.adjust_kernel.specs.declared.bounds.TheConstants.{TURN}
use Rattle.adjust_kernel.specs.declared.obs.Obs.{Obs}
use Rattle.station_book.specs.Stations.{SurveyedStation}
use Rattle.station_book.specs.declared.bounds.TheConstants.{CIRCLE, HALF_CIRCLE}
use Rattle.station_book.specs.declared.faces.Faces.{Faces}

-- the name of a target, by its place
abbrev pub name_of : StationValue → ℕ → List ℕ
name_of station target = slice_index_or station.targets target []

-- the number of a set, by its place
abbrev pub number_of : StationValue → ℕ → ℕ
number_of station set = slice_index_or station.sets set 0

-- the place of the set of an observation, by the observation's place
abbrev pub set_at : StationValue → ℕ → ℕ
set_at station place = slice_index_or (map (λ (o : Obs). o.set) station.obs) place 0

-- the place of its target, likewise
abbrev pub target_at : StationValue → ℕ → ℕ
target_at station place = slice_index_or (map (λ (o : Obs). o.target) station.obs) place 0

-- its two-face direction in half units, likewise
abbrev pub value_at : StationValue → ℕ → ℕ
value_at station place = slice_index_or (map (λ (o : Obs). o.value) station.obs) place 0

-- 2c of an observation, by its place
abbrev pub two_c_at : SurveyedStation → ℕ → ℤ
two_c_at its place = slice_index_or (map (λ (f : Faces). f.two_c) its.faces) place (pos 0)

-- 2i of an observation, by its place
abbrev pub two_i_at : SurveyedStation → ℕ → ℤ
two_i_at its place = slice_index_or (map (λ (f : Faces). f.two_i) its.faces) place (pos 0)

-- the zenith angle of face I of an observation, by its place
abbrev pub zenith_at : SurveyedStation → ℕ → ℤ
zenith_at its place = slice_index_or (map (λ (f : Faces). f.zenith) its.faces) place (pos 0)

-- The direction that was read in face I, in units of 0.00001 gon: half of the two-face direction
-- less 2c, which go round the circle of two-face directions.
abbrev pub reading_one : ℕ → ℤ → ℕ
reading_one value two_c = unsigned_abs (int_rem_euclid (pos value -ℤ two_c) (pos TURN)) / 2

-- The direction that was read in face II: half a circle and 2c onward from that of face I.
abbrev pub reading_two : ℕ → ℤ → ℕ
reading_two value two_c =
    unsigned_abs (int_rem_euclid (pos (reading_one value two_c + HALF_CIRCLE) +ℤ two_c)
    (pos CIRCLE))

-- The zenith angle that was read in face I, in units of 0.00001 gon, on the circle.
abbrev pub zenith_one : ℤ → ℕ
zenith_one zenith = unsigned_abs (int_rem_euclid zenith (pos CIRCLE))

-- The zenith angle that was read in face II: 2i less that of face I, whole circles aside.
abbrev pub zenith_two : ℤ → ℤ → ℕ
zenith_two zenith two_i = unsigned_abs (int_rem_euclid (two_i -ℤ zenith) (pos CIRCLE))

-- The zenith angle of both faces in half units: half of that of face I and of what that of face II
-- lacks to a circle (textbook). It is that of face I less half of 2i.
abbrev pub zenith_mean : ℤ → ℤ → ℕ
zenith_mean zenith two_i = zenith_one zenith + (CIRCLE - zenith_two zenith two_i)

-- The two-face direction of the first observation of the set of an observation.
abbrev pub first_value : StationValue → ℕ → ℕ
first_value station place = option_map_or (value_at station)
    (position (λ (o : Obs). o.set == set_at station place) station.obs) 0

-- whether an observation is of a set and a target
abbrev pub is_of : ℕ → ℕ → Obs → Bool
is_of set target o = (o.set == set) && (o.target == target)

-- The place of the observation of a set and a target, if there is one.
abbrev pub place_of : StationValue → ℕ → ℕ → Option ℕ
place_of station set target = position (is_of set target) station.obs
