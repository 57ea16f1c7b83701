-- The two versions of a sheet: how each is named, and its ranges (profile).
use Rattle.std.specs.Prelude.{ℕ, if◌then◌else◌, List, ℤ, Option, Some, None, codes}
use Rattle.std.specs.Str.{bytes_eq}
use Rattle.adjust_kernel.specs.declared.bounds.TheConstants.{LARGEST_ANGLE, LARGEST_DENOMINATOR}
use Rattle.sheet_format.specs.declared.version.TheConstants.{LARGEST_ANGLE_OF_ONE}
use Rattle.sheet_format.specs.declared.version.TheConstants.{LARGEST_DENOMINATOR_OF_ONE}
use Rattle.sheet_format.specs.declared.version.Version.{Version}
use Rattle.sheet_format.specs.declared.version.Version.TheVariants.{One, Two}

-- the field that names a version: exactly one digit, so `01` names none
abbrev pub version_text : Version → List ℕ
version_text One = codes "1"
version_text Two = codes "2"

-- the version that a field names
abbrev pub version_of : List ℕ → Option Version
version_of field = if bytes_eq field (version_text One) then Some One
    else (if bytes_eq field (version_text Two) then Some Two else None)

-- the largest denominator; the smallest is 1
abbrev pub largest_denominator : Version → ℕ
largest_denominator One = LARGEST_DENOMINATOR_OF_ONE
largest_denominator Two = LARGEST_DENOMINATOR

-- the largest size of a direction or an orientation
abbrev pub largest_angle : Version → ℤ
largest_angle One = LARGEST_ANGLE_OF_ONE
largest_angle Two = LARGEST_ANGLE
