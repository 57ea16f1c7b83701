-- What the code reads in one measurement, and the faults that it finds in the block alone.
use Rattle.std.specs.Prelude.{ℕ, ◌&&◌, nat_lt, is_none, List, [], ◌∷◌, Option, Some, None, Result}
use Rattle.std.specs.Prelude.{Ok, Err, if◌then◌else◌, unwrap_or}
use Rattle.std.specs.Option.{option_map}
use Rattle.gsi_word.specs.declared.index.TheConstants.{HORIZONTAL_DIRECTION, VERTICAL_ANGLE}
use Rattle.gsi_word.specs.Blocks.{GsiBlock}
use Rattle.station_book.specs.declared.bounds.TheConstants.{CIRCLE, HALF_CIRCLE}
use Rattle.station_book.specs.declared.face.Face.{Face}
use Rattle.station_book.specs.declared.face.Face.TheVariants.{One, Two}
use Rattle.station_book.specs.declared.fault.BookKind.{BookKind}
use Rattle.station_book.specs.declared.fault.BookKind.TheVariants as kinds
use Rattle.station_book.specs.declared.angles.Reading.{Reading}
use Rattle.station_book.specs.Blocks.{has_two, lacks, angle_fault, target, angles}
use Rattle.station_book.specs.Faults.{when, first_of}

-- the face of a zenith angle
abbrev pub face_of : ℕ → Option Face
face_of zenith =
    if nat_lt 0 zenith && nat_lt zenith HALF_CIRCLE then Some One else
    (if nat_lt HALF_CIRCLE zenith && nat_lt zenith CIRCLE then Some Two else None)

-- the faults of a measurement with a direction, in themselves
abbrev pub own_faults : GsiBlock → List (Option BookKind)
own_faults b =
    when (has_two HORIZONTAL_DIRECTION b) (kinds.WordTwice HORIZONTAL_DIRECTION)
    ∷ when (has_two VERTICAL_ANGLE b) (kinds.WordTwice VERTICAL_ANGLE)
    ∷ when (lacks VERTICAL_ANGLE b) kinds.NoZenith
    ∷ option_map kinds.Hz (angle_fault HORIZONTAL_DIRECTION b)
    ∷ option_map kinds.Zenith (angle_fault VERTICAL_ANGLE b)
    ∷ when (is_none (face_of (angles b).zenith)) kinds.FaceUnclear
    ∷ []

-- what a measurement with a direction says
abbrev pub reading : GsiBlock → Reading
reading b = record {
  target = target b;
  angles = angles b;
  face = unwrap_or (face_of (angles b).zenith) One;
}

-- the reading, or its fault where it has one
abbrev pub unless_fault : Option BookKind → Reading → Result (Option Reading) BookKind
unless_fault None s = Ok (Some s)
unless_fault (Some k) s = Err k

-- what a measurement says: nothing without word 21, else its first fault or its reading
abbrev pub read : GsiBlock → Result (Option Reading) BookKind
read b =
    if lacks HORIZONTAL_DIRECTION b then Ok None
    else unless_fault (first_of (own_faults b)) (reading b)
