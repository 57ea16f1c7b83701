-- What the words of a block say.
use Rattle.std.specs.Prelude.{⊤}
use Rattle.station_book.specs.Blocks.{angle_fault, angles, has_two, lacks, named, number, target}

-- To open this is to open all of it.
unfoldable pub said : Type 0
unfolding angle_fault angles has_two lacks named number target
said = ⊤
