-- The faults of a block, those that come of code lines over the tree. Only what does not come of
-- them is asked of places.
use Rattle.std.specs.Prelude.{◌&&◌, ◌||◌, not, List, [], ◌∷◌, ◌++◌, Option, is_some, length}
use Rattle.std.specs.Prelude.{if◌then◌else◌, nat_le}
use Rattle.std.specs.Option.{option_map}
use Rattle.gsi_word.specs.declared.index.TheConstants.{HORIZONTAL_DIRECTION, VERTICAL_ANGLE}
use Rattle.gsi_word.specs.Blocks.{GsiBlock}
use Rattle.adjust_kernel.specs.declared.bounds.TheConstants.{MOST_SETS, MOST_TARGETS}
use Rattle.station_book.specs.declared.bounds.TheConstants.{MOST_STATIONS}
use Rattle.station_book.specs.declared.fault.BookKind.{BookKind}
use Rattle.station_book.specs.declared.fault.BookKind.TheVariants as kinds
use Rattle.station_book.specs.declared.role.Role.{Role}
use Rattle.station_book.specs.declared.role.Role.TheVariants as role
use Rattle.station_book.specs.declared.face.Face.TheVariants.{One, Two}
use Rattle.station_book.specs.Limits.{FaceLimits}
use Rattle.station_book.specs.Blocks.{lacks, has_two, angle_fault, is_of_face}
use Rattle.station_book.specs.Places.{History, is_empty, station, first_sets, targets_of}
use Rattle.station_book.specs.Faults as places
use Rattle.station_book.specs.Faults.{when, first_of, faults_as, fault_after, fault_at_end}
use Rattle.station_book.specs.Faults.{station_faults, face, face_at, same_number, has_one_face}
use Rattle.station_book.specs.Faults.{has_set_number, is_face_taken, had_sets, is_new_target}
use Rattle.station_book.specs.Faults.{is_beyond, has_no_two_c, has_no_two_i}
use Rattle.book_tree.specs.Tree.{Tree, open_readings, has_reading, tree_end_faults, code_set_faults}

-- the faults at a block with code 20 that do not come of code lines
abbrev pub other_set_faults : History → List (Option BookKind)
other_set_faults past =
    when (is_empty (places.open_sets past) && nat_le MOST_STATIONS (length (first_sets past)))
    kinds.TooManyStations
    ∷ when (nat_le MOST_SETS (length (places.open_sets past))) kinds.TooManySets
    ∷ []

-- the faults of a reading of the set that is open
abbrev pub reading_faults : FaceLimits → History → Tree → GsiBlock → List (Option BookKind)
reading_faults limits past t b =
    when (has_two HORIZONTAL_DIRECTION b) (kinds.WordTwice HORIZONTAL_DIRECTION)
    ∷ when (has_two VERTICAL_ANGLE b) (kinds.WordTwice VERTICAL_ANGLE)
    ∷ when (lacks VERTICAL_ANGLE b) kinds.NoZenith
    ∷ option_map kinds.Hz (angle_fault HORIZONTAL_DIRECTION b)
    ∷ option_map kinds.Zenith (angle_fault VERTICAL_ANGLE b)
    ∷ when (not (is_of_face One b || is_of_face Two b)) kinds.FaceUnclear
    ∷ when (has_reading b (open_readings t)) kinds.FaceTwice
    ∷ when (is_new_target b past && nat_le MOST_TARGETS (length (targets_of (station past) past)))
    kinds.TooManyTargets
    ∷ when (is_beyond (has_no_two_c limits.two_c) b past) kinds.TwoC
    ∷ when (is_beyond (has_no_two_i limits.two_i) b past) kinds.TwoI
    ∷ []

-- The faults of a block of this role, in their order, after these blocks and their tree.
abbrev pub faults_by : Role → FaceLimits → History → Tree → GsiBlock → List (Option BookKind)
faults_by role.Station limits past t b = tree_end_faults t ++ station_faults b
faults_by role.Set limits past t b =
    tree_end_faults t ++ (code_set_faults t b ++ other_set_faults past)
faults_by role.Close limits past t b = tree_end_faults t
faults_by role.Measurement limits past t b =
    if not (lacks HORIZONTAL_DIRECTION b) && is_some t.current then reading_faults limits past t b
    else []
faults_by role.Other limits past t b = []
