-- The blocks of a file with code lines, station by station and set by set.
use Rattle.std.specs.Prelude.{◌≡◌, ℕ, suc, Bool, true, false, ◌&&◌, ◌||◌, List, [], ◌∷◌, ◌++◌}
use Rattle.std.specs.Prelude.{length, filter, map, Option, Some, None, Contains, ⊤}
use Rattle.std.specs.List.{AllByRecursion, flat_map, list_any}
use Rattle.std.specs.Str.{bytes_eq}
use Rattle.gsi_word.specs.declared.index.TheConstants.{CODE_INFORMATION}
use Rattle.gsi_word.specs.Blocks.{GsiBlock}
use Rattle.station_book.specs.declared.face.Face.{Face}
use Rattle.station_book.specs.declared.face.Face.TheVariants.{One, Two}
use Rattle.station_book.specs.Blocks.{opens_station, opens_set, closes_set, is_opening}
use Rattle.station_book.specs.Blocks.{has_direction, has_two, named, number, target, is_of_face}
use Rattle.station_book.specs.Places.{History, is_among}
use Rattle.set_marks.specs.Found.{Found}

-- a set: its block with code 20, and the blocks after that up to the next code
pub record MarkedSet : Type 0 where
  pub code : GsiBlock
  pub blocks : List GsiBlock

-- A station that has sets: its name, its block with code 10, its sets, and what stands outside
-- after them, up to the next station with sets: nothing, or a block with code 30 and others.
pub record MarkedStation : Type 0 where
  pub name : List ℕ
  pub code : GsiBlock
  pub sets : List MarkedSet
  pub outside : List GsiBlock

-- the blocks of a set
abbrev pub blocks_of_set : MarkedSet → List GsiBlock
blocks_of_set s = s.code ∷ s.blocks

-- the blocks of a station
abbrev pub blocks_of_station : MarkedStation → List GsiBlock
blocks_of_station s = s.code ∷ (flat_map blocks_of_set s.sets ++ s.outside)

-- the blocks of a file: those before the first station with sets, and those of the stations
abbrev pub marked_blocks : List GsiBlock → List MarkedStation → List GsiBlock
marked_blocks before stations = before ++ flat_map blocks_of_station stations

-- the history of these blocks, which come after others
abbrev pub grown : History → List GsiBlock → History
grown past [] = past
grown past (b ∷ bs) = grown (b ∷ past) bs

-- whether the block is a reading of this target in this face
abbrev pub reads_target : List ℕ → Face → GsiBlock → Bool
reads_target name face b = has_direction b && (bytes_eq (target b) name && is_of_face face b)

-- Some of these blocks are readings, each of them has a face, and of each target that is read one
-- reading is of face I and one of face II.
pub record HasWholePairs (blocks : List GsiBlock) : Type 0 where
  pub some : list_any has_direction blocks ≡ true
  pub faced : (b : GsiBlock) → Contains blocks b → has_direction b ≡ true
      → (is_of_face One b || is_of_face Two b) ≡ true
  pub pairs : (b : GsiBlock) (face : Face) → Contains blocks b → has_direction b ≡ true
      → length (filter (reads_target (target b) face) blocks) ≡ 1

-- none of these has code 10, 20 or 30
abbrev pub HaveNoCode : List GsiBlock → Type 0
HaveNoCode blocks = AllByRecursion (λ b. is_opening b ≡ false) blocks

-- a set of this number
pub record IsMarkedSet (n : ℕ) (s : MarkedSet) : Type 0 where
  pub opens : opens_set s.code ≡ true
  pub one_word : has_two CODE_INFORMATION s.code ≡ false
  pub numbered : number s.code ≡ Some n
  pub uncoded : HaveNoCode s.blocks
  pub whole : HasWholePairs s.blocks

-- sets whose numbers go on from this one
abbrev pub AreMarkedSets : ℕ → List MarkedSet → Type 0
AreMarkedSets n [] = ⊤
AreMarkedSets n (s ∷ ss) = IsMarkedSet n s × AreMarkedSets (suc n) ss

-- nothing, or a block with code 30 and others without a code
abbrev pub IsOutside : List GsiBlock → Type 0
IsOutside [] = ⊤
IsOutside (b ∷ bs) = (closes_set b ≡ true) × HaveNoCode bs

-- a station whose name is none of these, with sets from 1 on
pub record IsMarkedStation (names : List (List ℕ)) (s : MarkedStation) : Type 0 where
  pub opens : opens_station s.code ≡ true
  pub one_word : has_two CODE_INFORMATION s.code ≡ false
  pub is_named : named s.code ≡ Some s.name
  pub new : is_among names s.name ≡ false
  pub sets : AreMarkedSets 1 s.sets
  pub outside : IsOutside s.outside

-- stations of different names, none of them one of these
abbrev pub AreMarkedStations : List (List ℕ) → List MarkedStation → Type 0
AreMarkedStations names [] = ⊤
AreMarkedStations names (s ∷ ss) =
    IsMarkedStation names s × AreMarkedStations (names ++ s.name ∷ []) ss

-- the same place for each reading among these blocks
abbrev pub for_readings : Option Found → List GsiBlock → List (Option Found)
for_readings f blocks = map (λ b. f) (filter has_direction blocks)

-- where the readings of sets are to be found, whose numbers go on from this one
abbrev pub told_of_sets : List ℕ → ℕ → List MarkedSet → List (Option Found)
told_of_sets name n [] = []
told_of_sets name n (s ∷ ss) =
    for_readings (Some (record { station = Some name; set = Some n })) s.blocks
    ++ told_of_sets name (suc n) ss

-- where the readings of a station are to be found: those outside in no set
abbrev pub told_of_station : MarkedStation → List (Option Found)
told_of_station s = told_of_sets s.name 1 s.sets ++ for_readings None s.outside

-- where the readings of a file are to be found
abbrev pub told_of : List GsiBlock → List MarkedStation → List (Option Found)
told_of before stations = for_readings None before ++ flat_map told_of_station stations
