-- The records of a text whose fields a byte separates, as they are handed out.
use Rattle.std.specs.Prelude.{◌≡◌, ◌⊎◌, ℕ, List, ◌++◌, codes, decimal, length}
use Rattle.std.specs.List.{concat, flat_map, join_by}
use Rattle.csv.specs.Reading.{AreRecords, default_config, strip_bom}
use Rattle.csv.specs.declared.parser.Config.{Config}
use Rattle.csv.specs.declared.parser.State.TheVariants as st

-- A byte that may separate fields: a comma, a semicolon, a tab or a blank.
abbrev pub IsSeparator : ℕ → Type 0
IsSeparator byte = (byte ≡ 44) ⊎ (byte ≡ 59) ⊎ (byte ≡ 9) ⊎ (byte ≡ 32)

-- How `csv` reads a text whose fields this byte separates: as it does by default, but for it.
abbrev pub separated_by : ℕ → Config
separated_by byte = record default_config { delimiter = byte }

-- how many bytes each field has, with commas between
unfoldable pub lengths_text : List (List ℕ) → List ℕ
lengths_text fields = join_by (λ field. decimal (length field)) (codes ",") fields

-- A record as a text: a line of how many bytes each of its fields has, and then their bytes.
abbrev pub record_text : List (List ℕ) → List ℕ
record_text fields = lengths_text fields ++ (codes "\n" ++ concat fields)

-- Bytes are the texts of all records of a text, one after the other. A byte order mark at its start
-- belongs to none.
pub record AreTheRecords (separator : ℕ) (text bytes : List ℕ) : Type 0 where
  pub rows : List (List (List ℕ))
  pub are_all : AreRecords (separated_by separator) st.StartRecord (strip_bom text) rows
  pub bytes_are : bytes ≡ flat_map record_text rows
