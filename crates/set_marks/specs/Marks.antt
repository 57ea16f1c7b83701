-- A code line that is put into a copy (profile).
use Rattle.std.specs.Prelude.{ℕ, ◌+◌, ◌-◌, ◌/◌, ◌%◌, ◌≤◌, ◌<◌, Bool, List, [], ◌∷◌, ◌++◌, length}
use Rattle.std.specs.Prelude.{if◌then◌else◌, replicate, codes, map, false, ⊤}
use Rattle.std.specs.List.{join_with_byte}
use Rattle.gsi_word.specs.declared.index.TheConstants.{CODE_NUMBER, CODE_INFORMATION}
use Rattle.gsi_word.specs.declared.word.TheConstants.{GSI_8, GSI_16}
use Rattle.gsi_word.specs.Bytes.{blank, zero_digit}
use Rattle.gsi_word.specs.Words.{GsiWord, spelled}
use Rattle.gsi_word.specs.Blocks.{GsiBlock}
use Rattle.adjust_kernel.specs.Names.{IsName}
use Rattle.set_marks.specs.declared.mark.Code.{Code}
use Rattle.set_marks.specs.declared.mark.Code.TheVariants.{Station, Set, Close}
use Rattle.set_marks.specs.declared.mark.Mark.{Mark}
use Rattle.set_marks.specs.declared.mark.BlockMark.{BlockMark}
use Rattle.gsi_file.specs.Beside.{end_bytes}

-- How many bytes the content of each of its words has.
abbrev pub width_of : Bool → ℕ
width_of wide = if wide then GSI_16 else GSI_8

-- A content: the name, filled with zeros from the left, as the instrument fills it.
abbrev pub filled : ℕ → List ℕ → List ℕ
filled width name = replicate (width - length name) zero_digit ++ name

-- A word that is put in: its information is four points.
abbrev pub word_of : ℕ → ℕ → List ℕ → GsiWord
word_of width index name = record {
  index = index;
  info = codes "....";
  negative = false;
  content = filled width name;
}

-- The number of a set in two digits.
abbrev pub digits : ℕ → List ℕ
digits n = (zero_digit + n / 10) ∷ (zero_digit + n % 10) ∷ []

-- The words of a code line: code 10 with the name of the station, code 20 with the number of the
-- set, or code 30.
abbrev pub words_of : ℕ → Code → List GsiWord
words_of width (Station name) =
    word_of width CODE_NUMBER (codes "10") ∷ word_of width CODE_INFORMATION name ∷ []
words_of width (Set number) =
    word_of width CODE_NUMBER (codes "20") ∷ word_of width CODE_INFORMATION (digits number) ∷ []
words_of width Close = word_of width CODE_NUMBER (codes "30") ∷ []

-- The block that a code line is, in a line of GSI-16 or GSI-8.
abbrev pub code_block : Bool → Code → GsiBlock
code_block wide code = record { width = width_of wide; words = words_of (width_of wide) code }

-- The `*` of a GSI-16 line.
abbrev pub star : Bool → List ℕ
star wide = if wide then codes "*" else []

-- The words of a code line, with single blanks between them.
abbrev pub words_text : Bool → Code → List ℕ
words_text wide code = join_with_byte blank (map spelled (words_of (width_of wide) code))

-- The bytes of a code line before its end.
abbrev pub text_of : Mark → List ℕ
text_of m = star m.wide ++ words_text m.wide m.code

-- A code line, with the bytes that end it.
abbrev pub line_of : Mark → List ℕ
line_of m = text_of m ++ end_bytes m.line_end

-- What it says has room: the name in the width, the number in two digits.
abbrev pub HasRoom : Bool → Code → Type 0
HasRoom wide (Station name) = (length name ≤ width_of wide) × IsName name
HasRoom wide (Set number) = number < 100
HasRoom wide Close = ⊤

-- The same of a code line before a block.
abbrev pub IsRoomy : BlockMark → Type 0
IsRoomy m = HasRoom m.wide m.code
