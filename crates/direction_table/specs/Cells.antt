-- The fields of a row by the numbers of their columns, counted from 0, and what they say.
use Rattle.std.specs.Prelude.{ℕ, ◌+◌, ◌-◌, Bool, not, ◌&&◌, ◌||◌, ◌==◌, false, unwrap_or}
use Rattle.std.specs.Prelude.{if◌then◌else◌, List, [], ◌∷◌, ◌++◌, length, take, drop, codes}
use Rattle.std.specs.Char.{is_ascii_alphabetic, is_ascii_digit}
use Rattle.std.specs.List.{list_any}
use Rattle.std.specs.Str.{bytes_eq}
use Rattle.csv.specs.Records.{field_at}
use Rattle.sheet_format.specs.Numbers.{minus, zero_digit}
use Rattle.direction_table.specs.DecimalNumbers.{mark_of}
use Rattle.direction_table.specs.Degrees.{blank, is_sexagesimal, numbers_of}
use Rattle.direction_table.specs.Directions.{is_direction, is_on_circle}
use Rattle.direction_table.specs.FieldForms.{has_name, named, without_blanks, without_blanks_after}
use Rattle.direction_table.specs.Gons.{plus, unsigned}
use Rattle.direction_table.specs.declared.taken.Taken.{Taken}
use Rattle.direction_table.specs.declared.taken.Taken.TheVariants.{One, Three}
use Rattle.direction_table.specs.declared.unit.AngleUnit.{AngleUnit}
use Rattle.direction_table.specs.declared.unit.AngleUnit.TheVariants.{Gon, Degrees, PackedDegrees}

-- The field of a row in a column; without a byte, where the row has no such column.
abbrev pub field_in : ℕ → List (List ℕ) → List ℕ
field_in column row = unwrap_or (field_at row column) []

-- The same without the white space around it.
abbrev pub cell : ℕ → List (List ℕ) → List ℕ
cell column row = without_blanks (field_in column row)

-- Whether a row names a target in a column.
abbrev pub names_in : List (List ℕ) → ℕ → List (List ℕ) → Bool
names_in targets column row = has_name targets (named targets (field_in column row))

-- Whether a row names a target in any of its fields.
abbrev pub names_any : List (List ℕ) → List (List ℕ) → Bool
names_any targets row = list_any (λ field. has_name targets (named targets field)) row

-- The word of gon.
abbrev pub gon_word : List ℕ
gon_word = codes "gon"

-- Whether a field ends with it.
abbrev pub has_gon : List ℕ → Bool
has_gon field = bytes_eq (drop (length field - 3) field) gon_word

-- A direction in gon may have its unit behind it: what stands before that.
abbrev pub without_unit : AngleUnit → List ℕ → List ℕ
without_unit Gon field =
    if has_gon field then without_blanks_after (take (length field - 3) field) else field
without_unit Degrees field = field
without_unit PackedDegrees field = field

-- Minutes or seconds of a cell of their own, with the zero that is left out before one digit.
abbrev pub two_digits : List ℕ → List ℕ
two_digits field = if mark_of field == 1 then zero_digit ∷ field else field

-- Three fields as one, with blanks between them.
abbrev pub three_cells : ℕ → List (List ℕ) → List ℕ
three_cells column row =
    cell column row
    ++ (blank ∷ (two_digits (cell (column + 1) row)
    ++ (blank ∷ two_digits (cell (column + 2) row))))

-- Whether three fields of a row are one direction: degrees, minutes and seconds.
abbrev pub takes_three : AngleUnit → ℕ → List (List ℕ) → Bool
takes_three Gon column row = false
takes_three Degrees column row = is_sexagesimal (numbers_of (unsigned (three_cells column row)))
takes_three PackedDegrees column row = false

-- What a row states in a column: degrees, minutes and seconds of three fields, or one field without
-- its unit.
abbrev pub stated_in : Taken → AngleUnit → ℕ → List (List ℕ) → List ℕ
stated_in One unit column row = without_unit unit (cell column row)
stated_in Three unit column row = three_cells column row

-- Whether that is a direction, of a full circle at most.
abbrev pub is_stated_in : Taken → AngleUnit → ℕ → List (List ℕ) → Bool
is_stated_in taken unit column row =
    is_direction unit (stated_in taken unit column row)
    && is_on_circle unit (stated_in taken unit column row)

-- What may stand between columns, and says nothing.
abbrev pub is_rule : List ℕ → Bool
is_rule field =
    list_any (λ rule. bytes_eq rule field) ([] ∷ codes "|" ∷ codes ":" ∷ codes "=" ∷ [])

-- A digit or a sign.
abbrev pub is_of_number : ℕ → Bool
is_of_number b = is_ascii_digit b || ((b == minus) || (b == plus))

-- A field may be a number, or part of one: it has a digit or a sign, or no letter.
abbrev pub may_be_number : List ℕ → Bool
may_be_number field =
    not (is_rule field) && (list_any is_of_number field || not (list_any is_ascii_alphabetic field))

-- What may stand right after a direction: what says nothing, or its unit.
abbrev pub may_follow : AngleUnit → List ℕ → Bool
may_follow Gon field = is_rule field || bytes_eq gon_word field
may_follow Degrees field = is_rule field
may_follow PackedDegrees field = is_rule field
