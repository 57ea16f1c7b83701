-- The differences of a table from its station as JSON lines (profile): an object on a line for each
-- target, of what its row has: each number is the same text, and what the row leaves empty is null.
use Rattle.std.specs.Prelude.{ℕ, ◌==◌, Bool, ◌||◌, if◌then◌else◌, nat_lt, List, [], ◌∷◌, ◌++◌}
use Rattle.std.specs.Prelude.{codes, ℤ}
use Rattle.std.specs.List.{flat_map}
use Rattle.angle_texts.specs.MgonTexts.{mgon_text}
use Rattle.direction_table.specs.Texts.{direction_text}
use Rattle.station_differences.specs.DifferenceTexts.{are_short, from_median_text, stated_text}
use Rattle.station_differences.specs.Lines.{compared_of, least_on, target_on}
use Rattle.station_differences.specs.Medians.{median_of}
use Rattle.station_differences.specs.declared.line.TargetLine.{TargetLine}
use Rattle.station_differences.specs.declared.line.TargetLine.TheVariants.{Compared, Lacking}

-- a quotation mark or a backslash
abbrev pub is_escaped : ℕ → Bool
is_escaped byte = (byte == 34) || (byte == 92)

-- What can't stand in a string of JSON as it is (RFC 8259): these two, and control characters, all
-- of which are below the blank. By `laws::two_are_escaped` no name has one of those.
abbrev pub needs_escape : ℕ → Bool
needs_escape byte = is_escaped byte || nat_lt byte 32

-- A byte of a name, with a backslash before it where it needs one.
abbrev pub escaped : ℕ → List ℕ
escaped byte = if is_escaped byte then 92 ∷ byte ∷ [] else byte ∷ []

-- What the object of a target has: its name as a string,
unfoldable pub json_name : List ℕ → List ℕ
json_name name = codes "\"target\":\"" ++ (flat_map escaped name ++ codes "\"")

-- what is stated, or null,
unfoldable pub json_stated : Bool → TargetLine → List ℕ
json_stated short (Compared row) = stated_text short row.stated
json_stated short (Lacking target) = codes "null"

-- its directions,
unfoldable pub json_directions : Bool → TargetLine → List ℕ
json_directions short line =
    codes ",\"stated\":" ++ (json_stated short line
    ++ (codes ",\"least_squares\":" ++ direction_text 6 (least_on line)))

-- a difference, as it is and less the median,
unfoldable pub json_both : ℤ → ℤ → List ℕ
json_both median difference =
    codes ",\"difference\":" ++ (mgon_text difference
    ++ (codes ",\"from_median\":" ++ from_median_text median difference))

-- and its differences, or null.
unfoldable pub json_differences : ℤ → TargetLine → List ℕ
json_differences median (Compared row) = json_both median row.difference
json_differences median (Lacking target) = codes ",\"difference\":null,\"from_median\":null"

-- The object of a target, on its line.
unfoldable pub json_line : Bool → ℤ → TargetLine → List ℕ
json_line short median line =
    codes "{" ++ (json_name (target_on line)
    ++ (json_directions short line ++ (json_differences median line ++ codes "}\n")))

-- The text: the lines of the targets, in their order. Decimals and median are those of the stated
-- ones.
abbrev pub json_lines : List TargetLine → List ℕ
json_lines lines =
    flat_map (json_line (are_short (compared_of lines)) (median_of (compared_of lines))) lines
