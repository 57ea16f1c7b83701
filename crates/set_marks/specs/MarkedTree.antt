-- The field book of marked blocks, station by station.
use Rattle.std.specs.Prelude.{List, [], ◌∷◌, Some, None, if◌then◌else◌}
use Rattle.gsi_word.specs.Blocks.{GsiBlock}
use Rattle.station_book.specs.Blocks.{has_direction}
use Rattle.book_tree.specs.Tree.{Tree, sets_in, stations_in}
use Rattle.set_marks.specs.MarkedBlocks.{MarkedSet, MarkedStation}

-- with the readings among these blocks
abbrev pub reads : List GsiBlock → List GsiBlock → List GsiBlock
reads rs [] = rs
reads rs (b ∷ bs) = reads (if has_direction b then b ∷ rs else rs) bs

-- with this set, in which there are these readings
abbrev pub in_set : Tree → GsiBlock → List GsiBlock → Tree
in_set t code rs =
    record t { ended = sets_in t; current = Some (record { code = code; readings = rs }) }

-- with these sets
abbrev pub marked_sets : Tree → List MarkedSet → Tree
marked_sets t [] = t
marked_sets t (s ∷ ss) = marked_sets (in_set t s.code (reads [] s.blocks)) ss

-- after what stands outside: nothing, or what begins with a block with code 30
abbrev pub marked_outside : Tree → List GsiBlock → Tree
marked_outside t [] = t
marked_outside t (b ∷ bs) = record t { ended = sets_in t; current = None }

-- where this station has begun
abbrev pub begun : Tree → GsiBlock → Tree
begun t code = record { older = stations_in t; code = Some code; ended = []; current = None }

-- with these stations
abbrev pub marked_stations : Tree → List MarkedStation → Tree
marked_stations t [] = t
marked_stations t (s ∷ ss) =
    marked_stations (marked_outside (marked_sets (begun t s.code) s.sets) s.outside) ss
