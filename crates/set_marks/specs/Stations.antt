-- The stations of a field file without codes, and their readings, by its blocks alone. Word 11 of a
-- measurement names what is pointed at, or at a set-up line the station; words 84 to 86 are the
-- coordinates of the station, word 88 is the height of the instrument, words 22 and 31 are the
-- vertical angle and the slope distance, word 41 is a code and word 42 its first information (GSI
-- manual). A history is the blocks of a file up to some place, the newest first, as in
-- station_book.
use Rattle.std.specs.Prelude.{ℕ, ◌+◌, ◌-◌, ◌==◌, Bool, ◌&&◌, ◌||◌, not, List, [], ◌∷◌, ◌++◌}
use Rattle.std.specs.Prelude.{length, take, drop, if◌then◌else◌, Option, Some, None, is_some, true}
use Rattle.std.specs.Prelude.{false, slice_get}
use Rattle.std.specs.List.{list_any}
use Rattle.std.specs.Option.{option_map}
use Rattle.std.specs.Str.{bytes_eq}
use Rattle.gsi_word.specs.declared.index.TheConstants.{POINT_NUMBER, CODE_NUMBER}
use Rattle.gsi_word.specs.declared.index.TheConstants.{HORIZONTAL_DIRECTION, VERTICAL_ANGLE}
use Rattle.gsi_word.specs.declared.index.TheConstants.{CODE_INFORMATION}
use Rattle.gsi_word.specs.declared.word.TheConstants.{GSI_16}
use Rattle.gsi_word.specs.Words.{GsiWord}
use Rattle.gsi_word.specs.Blocks.{GsiBlock}
use Rattle.gsi_word.specs.FoundWords.{words_with}
use Rattle.gsi_word.specs.Names.{name_of}
use Rattle.station_book.specs.declared.face.Face.TheVariants.{Two}
use Rattle.station_book.specs.declared.fault.BookKind.TheVariants as book
use Rattle.station_book.specs.declared.role.Role.{Role}
use Rattle.station_book.specs.declared.role.Role.TheVariants.{Station, Set, Close, Measurement}
use Rattle.station_book.specs.declared.role.Role.TheVariants.{Other}
use Rattle.station_book.specs.Blocks.{role_of, is_measurement, lacks, has_direction, target}
use Rattle.station_book.specs.Blocks.{is_of_face, angles}
use Rattle.station_book.specs.Places.{History}
use Rattle.station_book.specs.Faults.{first_of}
use Rattle.station_book.specs.Readings.{own_faults}
use Rattle.job_statements.specs.declared.beginnings.Beginnings.{Beginnings}
use Rattle.set_marks.specs.declared.fault.MarkFault.{MarkFault}
use Rattle.set_marks.specs.declared.fault.MarkFault.TheVariants.{At, Reading}
use Rattle.set_marks.specs.declared.fault.MarkKind.TheVariants as kinds
use Rattle.set_marks.specs.declared.sight.Sight.{Sight}

-- The words of a set-up line: east, north and height of the station, height of the instrument. Word
-- 87, the height of a target, is none of them: it stands at points that are no stations too.
abbrev pub set_up_words : List ℕ
set_up_words = 84 ∷ 85 ∷ 86 ∷ 88 ∷ []

-- one of these words stands in the block
abbrev pub has_set_up_word : GsiBlock → Bool
has_set_up_word b = list_any (λ index. not (lacks index b)) set_up_words

-- The same, and neither a vertical angle nor a distance: a block that has one of them measures a
-- height, though it may have the height of the instrument too.
unfoldable pub tells_set_up : GsiBlock → Bool
tells_set_up b = has_set_up_word b && (lacks VERTICAL_ANGLE b && lacks 31 b)

-- a set-up line: a measurement without a direction, a vertical angle and a distance, with one of
-- these words
abbrev pub sets_up : GsiBlock → Bool
sets_up b = is_measurement (role_of b) && (lacks HORIZONTAL_DIRECTION b && tells_set_up b)

-- the reading in the block of this number, if it is a measurement with a direction
abbrev pub sight_in : ℕ → GsiBlock → List Sight
sight_in number b = if has_direction b then record {
  block = number;
  wide = b.width == GSI_16;
  target = target b;
  second = is_of_face Two b;
  angles = angles b;
} ∷ [] else []

-- the readings, in the order of the file
abbrev pub sights_of : History → List Sight
sights_of [] = []
sights_of (b ∷ past) = sights_of past ++ sight_in (length past + 1) b

-- how a station begins: its name, and how many of the file's readings stand before it
pub record SetUp : Type 0 where
  pub name : List ℕ
  pub from : ℕ

-- whether a block of this role means nothing to the book: so it is with a block of any code but
-- 10, 20 and 30
abbrev pub is_other : Role → Bool
is_other Other = true
is_other r = false

-- whether it is stated that the blocks of a code begin stations, and this block has the code; zeros
-- before a code do not count
abbrev pub has_code : Option (List ℕ) → GsiBlock → Bool
has_code None b = false
has_code (Some code) b = is_other (role_of b) && bytes_eq (target b) (name_of code)

-- the name in the first word 42 of a block, if it has one
abbrev pub information : GsiBlock → Option (List ℕ)
information b =
    option_map (λ w. name_of w.content) (slice_get (words_with CODE_INFORMATION b.words) 0)

-- The name of which a block begins a station, if it does: at a set-up line the name in its first
-- word, at a block of the stated code that in its first word 42.
unfoldable pub begins_named : Beginnings → GsiBlock → Option (List ℕ)
begins_named beginnings b =
    if sets_up b then Some (target b) else
    (if has_code beginnings.code b then information b else None)

-- whether a station is open, and has this name
abbrev pub is_open_as : List ℕ → Option (List ℕ) → Bool
is_open_as name None = false
is_open_as name (Some current) = bytes_eq current name

-- The name of which a block begins a station; but none, where the station that is open has it and
-- it is stated that such a block begins nothing.
abbrev pub unless_open : Bool → Option (List ℕ) → Option (List ℕ) → Option (List ℕ)
unless_open same_set_up current None = None
unless_open same_set_up current (Some name) =
    if same_set_up && is_open_as name current then None else Some name

-- The name of which a block begins a station, if it does, where a station of this name is open.
abbrev pub begins_after : Beginnings → Option (List ℕ) → GsiBlock → Option (List ℕ)
begins_after beginnings current b =
    unless_open beginnings.same_set_up current (begins_named beginnings b)

-- the station of this name, if there is one, which begins after so many readings
abbrev pub set_up_of : ℕ → Option (List ℕ) → List SetUp
set_up_of from None = []
set_up_of from (Some name) = record { name = name; from = from } ∷ []

-- the name of the station that is open: the last that has begun
abbrev pub open_name : List SetUp → Option (List ℕ)
open_name [] = None
open_name (s ∷ []) = Some s.name
open_name (s ∷ t ∷ later) = open_name (t ∷ later)

-- these stations, the last of which is open, and that which a block after so many readings begins
abbrev pub with_set_up : Beginnings → ℕ → List SetUp → GsiBlock → List SetUp
with_set_up beginnings from begun b =
    begun ++ set_up_of from (begins_after beginnings (open_name begun) b)

-- the stations that blocks begin, in the order of the file
abbrev pub set_ups_of : Beginnings → History → List SetUp
set_ups_of beginnings [] = []
set_ups_of beginnings (b ∷ past) =
    with_set_up beginnings (length (sights_of past)) (set_ups_of beginnings past) b

-- a station of a file: its name and its readings
pub record Occupation : Type 0 where
  pub name : List ℕ
  pub sights : List Sight

-- The stations that begin so: the readings of each are those up to the next.
abbrev pub occupations : List SetUp → List Sight → List Occupation
occupations [] rs = []
occupations (s ∷ []) rs = record { name = s.name; sights = drop s.from rs } ∷ []
occupations (s ∷ t ∷ later) rs =
    record { name = s.name; sights = take (t.from - s.from) (drop s.from rs) }
    ∷ occupations (t ∷ later) rs

-- one station of the name that is stated, without zeros before it, which begins with the first
-- reading; else these
abbrev pub stated_or : Option (List ℕ) → List SetUp → List SetUp
stated_or (Some name) ss = record { name = name_of name; from = 0 } ∷ []
stated_or None ss = ss

-- How the stations of a file begin: one of the name that is stated; else by its blocks.
abbrev pub begun : Beginnings → History → List SetUp
begun beginnings h = stated_or beginnings.station (set_ups_of beginnings h)

-- The stations of a file, in its order.
abbrev pub stations_of : Beginnings → History → List Occupation
stations_of beginnings h = occupations (begun beginnings h) (sights_of h)

-- The fault of a reading in the block of this number, after these stations have begun: it is of no
-- station; or the book would refuse it in any set.
abbrev pub reading_fault : List SetUp → ℕ → GsiBlock → Option MarkFault
reading_fault [] number b = Some (At number kinds.NoSetUp)
reading_fault (s ∷ ss) number b = option_map (Reading number) (first_of (own_faults b))

-- a word with which a line begins: word 11 of a measurement, or word 41 of a code (GSI manual)
abbrev pub begins_line : GsiWord → Bool
begins_line w = (w.index == POINT_NUMBER) || (w.index == CODE_NUMBER)

-- A block is two lines in one where a word after the first is one with which a line begins. Such a
-- line comes about where files are joined, and the first has no line end after its last line.
unfoldable pub is_two_lines : GsiBlock → Bool
is_two_lines b = list_any begins_line (drop 1 b.words)

-- The fault of a block that begins a station: one is stated.
abbrev pub set_up_fault : Beginnings → ℕ → GsiBlock → Option MarkFault
set_up_fault beginnings number b =
    if is_some beginnings.station && is_some (begins_named beginnings b)
    then Some (At number kinds.HasSetUp) else None

-- The fault of a block that is no measurement and has no code of the book: it has the code of which
-- it is stated that its blocks begin stations, and no word 42 with the name of one; or it begins one,
-- and one is stated.
abbrev pub code_fault : Beginnings → ℕ → GsiBlock → Option MarkFault
code_fault beginnings number b =
    if has_code beginnings.code b && lacks CODE_INFORMATION b
    then Some (Reading number book.StationName) else set_up_fault beginnings number b

-- The fault of a block of this role that is one line: it has code 10, 20 or 30 already; or it
-- begins a station, and one is stated, or it has no name for it; or that of a reading.
abbrev pub fault_as : Role → Beginnings → List SetUp → ℕ → GsiBlock → Option MarkFault
fault_as Station beginnings begun number b = Some (At number kinds.HasCodes)
fault_as Set beginnings begun number b = Some (At number kinds.HasCodes)
fault_as Close beginnings begun number b = Some (At number kinds.HasCodes)
fault_as Measurement beginnings begun number b =
    if lacks HORIZONTAL_DIRECTION b then set_up_fault beginnings number b
    else reading_fault begun number b
fault_as Other beginnings begun number b = code_fault beginnings number b

-- The fault of the block of this number by itself, after these stations have begun: it is two lines
-- in one; or else that of its role.
abbrev pub block_fault : Beginnings → List SetUp → ℕ → GsiBlock → Option MarkFault
block_fault beginnings begun number b =
    if is_two_lines b then Some (At number kinds.TwoLines)
    else fault_as (role_of b) beginnings begun number b

-- The fault of a block by itself, after these blocks.
abbrev pub own_fault : Beginnings → History → GsiBlock → Option MarkFault
own_fault beginnings past b =
    block_fault beginnings (begun beginnings past) (length past + 1) b

-- The fault of the first block that has one by itself.
abbrev pub fault_of_blocks : Beginnings → History → Option MarkFault
fault_of_blocks beginnings [] = None
fault_of_blocks beginnings (b ∷ past) =
    first_of (fault_of_blocks beginnings past ∷ own_fault beginnings past b ∷ [])
