-- Where the first part of some bytes ends, and what was found of a part.
use Rattle.std.specs.Prelude.{◌≡◌, ℕ, ◌<◌, true, List, All, length, take, slice_index, ⊤}
use Rattle.gsi_word.specs.Words.{IsLineByte}
use Rattle.gsi_word.specs.PlainLines.{is_plain_reading}
use Rattle.gsi_file.specs.declared.part_end.PartEnd.{PartEnd}
use Rattle.gsi_file.specs.declared.part_end.Tested.{Tested}
use Rattle.gsi_file.specs.declared.part_end.Tested.TheVariants.{Plain, Printable, No}
use Rattle.gsi_file.specs.Parts.{is_line_end, HasNoEnd}

-- What was found of the bytes of a part: it is a reading as most are written, or all are printable,
-- or nothing.
abbrev pub IsTested : Tested → List ℕ → Type 0
IsTested Plain part = is_plain_reading part ≡ true
IsTested Printable part = All IsLineByte part
IsTested No part = ⊤

-- The byte at this place ends the first part of these bytes.
pub record EndsFirst (bytes : List ℕ) (place : ℕ) : Type 0 where
  pub inside : place < length bytes
  pub before : HasNoEnd (take place bytes)
  pub ends : is_line_end (slice_index bytes place) ≡ true

-- The first part ends there, and this was found of it.
abbrev pub IsPartEnd : List ℕ → PartEnd → Type 0
IsPartEnd bytes end = EndsFirst bytes end.place × IsTested end.tested (take end.place bytes)
