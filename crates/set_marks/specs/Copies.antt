-- A copy that is the file with whole code lines put in, and with nothing else changed.
use Rattle.std.specs.Prelude.{◌≡◌, ℕ, ◌-◌, ◌<◌, ◌≤◌, true, List, [], ◌∷◌, ◌++◌, take, drop, ◌⊎◌}
use Rattle.std.specs.Prelude.{All, slice_index}
use Rattle.std.specs.List.{flat_map}
use Rattle.gsi_word.specs.Blocks.{GsiBlock, IsBlock}
use Rattle.gsi_file.specs.Parts.{is_line_end}
use Rattle.station_book.specs.Blocks.{is_opening}
use Rattle.gsi_file.specs.declared.beside.LineEnd.{LineEnd}
use Rattle.set_marks.specs.declared.mark.Mark.{Mark}
use Rattle.gsi_file.specs.Beside.{end_bytes}
use Rattle.set_marks.specs.Marks.{line_of, HasRoom}

-- The bytes from a place on, with the code lines put in before their places.
abbrev pub woven : ℕ → List ℕ → List Mark → List ℕ
woven from bytes [] = drop from bytes
woven from bytes (m ∷ ms) =
    take (m.at - from) (drop from bytes) ++ (line_of m ++ woven m.at bytes ms)

-- The places are in order, from this one up to the last, and each code line has room for what it
-- says.
abbrev pub AreOrdered : ℕ → ℕ → List Mark → Type 0
AreOrdered from last [] = from ≤ last
AreOrdered from last (m ∷ ms) =
    (from ≤ m.at) × (m.at ≤ last) × HasRoom m.wide m.code × AreOrdered m.at last ms

-- A code line: a block of code 10, 20 or 30, and a line end.
pub record IsCodeLine (line : List ℕ) : Type 0 where
  pub text : List ℕ
  pub block : GsiBlock
  pub end : LineEnd
  pub is_block : IsBlock text block
  pub has_code : is_opening block ≡ true
  pub ended : line ≡ text ++ end_bytes end

-- A line begins after a piece: the piece is empty, or its last byte ends a line.
pub record EndsLine (piece : List ℕ) : Type 0 where
  pub ends : (piece ≡ []) ⊎ ((front : List ℕ) × (byte : ℕ) × (piece ≡ front ++ byte ∷ [])
      × (is_line_end byte ≡ true))

-- A piece of the file, and the code line that is put in after it.
pub record Cut : Type 0 where
  pub piece : List ℕ
  pub line : List ℕ

-- The piece and the code line, as they stand in the copy.
abbrev pub joined : Cut → List ℕ
joined c = c.piece ++ c.line

-- A cut where a line begins, with a whole code line.
abbrev pub IsCut : Cut → Type 0
IsCut c = EndsLine c.piece × IsCodeLine c.line

-- The copy is the file with whole code lines put in where lines begin, and with nothing else
-- changed: without them it is the file, byte for byte.
pub record IsMarkedCopy (input copy : List ℕ) : Type 0 where
  pub cuts : List Cut
  pub rest : List ℕ
  pub from : input ≡ flat_map (λ c. c.piece) cuts ++ rest
  pub to : copy ≡ flat_map joined cuts ++ rest
  pub each : All IsCut cuts

-- A line begins at this place: the first, or one after a byte that ends a line.
abbrev pub BeginsAt : List ℕ → ℕ → Type 0
BeginsAt bytes at = (at ≡ 0) ⊎ ((0 < at) × (is_line_end (slice_index bytes (at - 1)) ≡ true))

-- A line begins at the place of this code line.
abbrev pub BeginsLine : List ℕ → Mark → Type 0
BeginsLine bytes m = BeginsAt bytes m.at
