-- A field book as a tree: its stations, their sets, and the readings of each set, the newest first.
use Rattle.std.specs.Prelude.{◌≡◌, ℕ, Bool, ◌&&◌, not, List, [], ◌∷◌, ◌++◌, Option, Some, None}
use Rattle.std.specs.Prelude.{is_none, is_some, if◌then◌else◌}
use Rattle.std.specs.List.{AllByRecursion, list_any}
use Rattle.std.specs.Option.{option_map}
use Rattle.std.specs.Str.{bytes_eq}
use Rattle.gsi_word.specs.declared.index.TheConstants.{HORIZONTAL_DIRECTION}
use Rattle.gsi_word.specs.Blocks.{GsiBlock}
use Rattle.station_book.specs.declared.fault.BookKind.{BookKind}
use Rattle.station_book.specs.declared.fault.BookKind.TheVariants as kinds
use Rattle.station_book.specs.declared.role.Role.{Role}
use Rattle.station_book.specs.declared.role.Role.TheVariants.{Station, Set, Close, Measurement}
use Rattle.station_book.specs.declared.role.Role.TheVariants.{Other}
use Rattle.station_book.specs.Blocks.{role_of, lacks, named, number, target, is_of_face, other_face}
use Rattle.station_book.specs.Faults.{face, same_name, same_number, station_faults, twice_informed}
use Rattle.station_book.specs.Faults.{when}
use Rattle.station_book.specs.Places.{History, is_empty}

-- a set: its block with code 20, and its readings
pub record SetOf : Type 0 where
  pub code : GsiBlock
  pub readings : List GsiBlock

-- a station: its block with code 10, and its sets
pub record StationOf : Type 0 where
  pub code : GsiBlock
  pub sets : List SetOf

-- A field book: the earlier stations; the block with code 10 of the last station, if there is one;
-- its sets that have ended; and the set that is open, if one is.
pub record Tree : Type 0 where
  pub older : List StationOf
  pub code : Option GsiBlock
  pub ended : List SetOf
  pub current : Option SetOf

-- these sets, and one more, if there is one
abbrev pub with_set : Option SetOf → List SetOf → List SetOf
with_set None sets = sets
with_set (Some s) sets = s ∷ sets

-- these stations, and one more with these sets, if there is one
abbrev pub with_station : Option GsiBlock → List SetOf → List StationOf → List StationOf
with_station None sets older = older
with_station (Some b) sets older = record { code = b; sets = sets } ∷ older

-- the sets of the last station
abbrev pub sets_in : Tree → List SetOf
sets_in t = with_set t.current t.ended

-- all stations
abbrev pub stations_in : Tree → List StationOf
stations_in t = with_station t.code (sets_in t) t.older

-- a set with one more reading
abbrev pub read_in : GsiBlock → SetOf → SetOf
read_in b s = record s { readings = b ∷ s.readings }

-- A field book after one more block, of this role: code 10 begins a station, code 20 a set, code 30
-- ends the set that is open, and a measurement with a direction is read in it, if one is.
abbrev pub grown_by : Role → GsiBlock → Tree → Tree
grown_by Station b t =
    record { older = stations_in t; code = Some b; ended = []; current = None }
grown_by Set b t =
    record t { ended = sets_in t; current = Some (record { code = b; readings = [] }) }
grown_by Close b t = record t { ended = sets_in t; current = None }
grown_by Measurement b t =
    if not (lacks HORIZONTAL_DIRECTION b)
    then record t { current = option_map (read_in b) t.current } else t
grown_by Other b t = t

-- the field book of these blocks, the newest first
abbrev pub tree_of : History → Tree
tree_of [] = record { older = []; code = None; ended = []; current = None }
tree_of (b ∷ past) = grown_by (role_of b) b (tree_of past)

-- the readings of a set, if there is one
abbrev pub readings_of : Option SetOf → List GsiBlock
readings_of None = []
readings_of (Some s) = s.readings

-- the readings of the set that is open
abbrev pub open_readings : Tree → List GsiBlock
open_readings t = readings_of t.current

-- one of these is of the target of this reading, in its face
abbrev pub has_reading : GsiBlock → List GsiBlock → Bool
has_reading b rs = list_any (λ r. bytes_eq (target r) (target b) && is_of_face (face b) r) rs

-- one of them is of its target, in the other face
abbrev pub has_other_face : GsiBlock → List GsiBlock → Bool
has_other_face b rs =
    list_any (λ r. bytes_eq (target r) (target b) && is_of_face (other_face (face b)) r) rs

-- the name that a block with code 10 says
abbrev pub name_in : Option GsiBlock → Option (List ℕ)
name_in None = None
name_in (Some b) = named b

-- a station that has sets has this name
abbrev pub is_used : Option (List ℕ) → List StationOf → Bool
is_used name stations =
    list_any (λ s. not (is_empty s.sets) && same_name (named s.code) name) stations

-- a set has this number
abbrev pub has_number : Option ℕ → List SetOf → Bool
has_number n sets = list_any (λ s. same_number (number s.code) n) sets

-- the faults where a set that is open ends
abbrev pub tree_end_faults : Tree → List (Option BookKind)
tree_end_faults t =
    when (is_some t.current && is_empty (open_readings t)) kinds.EmptySet
    ∷ when (is_some t.current && list_any (λ b. not (has_other_face b (open_readings t)))
    (open_readings t)) kinds.OneFace
    ∷ []

-- the faults that come of code lines, at a block with code 20
abbrev pub code_set_faults : Tree → GsiBlock → List (Option BookKind)
code_set_faults t b =
    twice_informed b
    ∷ when (is_none t.code) kinds.SetOutside
    ∷ when (is_none (number b)) kinds.SetNumber
    ∷ when (is_used (name_in t.code) t.older) kinds.StationTwice
    ∷ when (has_number (number b) (sets_in t)) kinds.SetTwice
    ∷ []

-- the same, at a reading of the set that is open
abbrev pub code_reading_faults : Tree → GsiBlock → List (Option BookKind)
code_reading_faults t b = when (has_reading b (open_readings t)) kinds.FaceTwice ∷ []

-- the same, at a block of this role
abbrev pub code_faults : Role → Tree → GsiBlock → List (Option BookKind)
code_faults Station t b = tree_end_faults t ++ station_faults b
code_faults Set t b = tree_end_faults t ++ code_set_faults t b
code_faults Close t b = tree_end_faults t
code_faults Measurement t b =
    if not (lacks HORIZONTAL_DIRECTION b) && is_some t.current then code_reading_faults t b else []
code_faults Other t b = []

-- None of these faults stands.
abbrev pub HasNone : List (Option BookKind) → Type 0
HasNone os = AllByRecursion (λ o. o ≡ None) os
