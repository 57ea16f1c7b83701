-- What it means that a tree says of a history what the definitions by places say.
use Rattle.std.specs.Prelude.{◌≡◌, ℕ, Bool, ◌&&◌, List, map, Option, Some, None, is_some}
use Rattle.std.specs.Prelude.{if◌then◌else◌}
use Rattle.std.specs.List.{list_any}
use Rattle.std.specs.Option.{option_map}
use Rattle.gsi_word.specs.Blocks.{GsiBlock}
use Rattle.station_book.specs.Places.{History, Place, at, places, before, is_open, is_set, station}
use Rattle.station_book.specs.Places.{opening}
use Rattle.station_book.specs.Faults as places
use Rattle.station_book.specs.Faults.{name_at, same_name, had_sets}
use Rattle.book_tree.specs.Tree.{Tree, sets_in, stations_in, open_readings, name_in, is_used}

-- the block at a place
abbrev pub block_at : Place → Option GsiBlock
block_at place = at (λ b. Some b) None place

-- The blocks of these stand at these places.
abbrev pub StandAt : {X : Type 0} → (X → GsiBlock) → List X → List Place → Type 0
StandAt f xs ps = map (λ x. Some (f x)) xs ≡ map block_at ps

-- the block that opened the set that is open, if one is
abbrev pub opened : History → Option GsiBlock
opened past = if is_open past then block_at (opening past) else None

-- a set is of a station of this name
abbrev pub was_used : Option (List ℕ) → History → Bool
was_used name past =
    list_any (λ s. is_set s && same_name (name_at (station (before s))) name) (places past)

-- A tree says what is found by places: the block of the station; whether a set is open, and its
-- block; the blocks of the station's sets; the readings of the set that is open; of which names
-- stations with sets are; and whether an earlier one has the station's.
pub record Reflects (t : Tree) (past : History) : Type 0 where
  pub code : t.code ≡ block_at (station past)
  pub is_open_too : is_some t.current ≡ is_open past
  pub current : option_map (λ s. s.code) t.current ≡ opened past
  pub sets : StandAt (λ s. s.code) (sets_in t) (places.open_sets past)
  pub readings : StandAt (λ b. b) (open_readings t) (places.open_readings past)
  pub used : (name : Option (List ℕ)) → is_used name (stations_in t) ≡ was_used name past
  pub had : is_used (name_in t.code) t.older ≡ had_sets past
