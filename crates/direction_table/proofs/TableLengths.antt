-- The text of a table of all targets is far shorter than a table may be.
use Rattle.std.proofs.Common.{ℕ, ◌+◌, ◌*◌, ◌≤◌, List, [], ◌∷◌, length, All, arith}
use Rattle.std.proofs.Common.{length-append}
use Rattle.csv.specs.Writing.{default_writer, fields_text, is_blank, row_text}
use Rattle.adjust_kernel.specs.Names.{IsName}
use Rattle.adjust_kernel.specs.declared.bounds.TheConstants.{MOST_TARGETS}
use Rattle.sheet_format.proofs.TextLengths.{IsShort, entries-short, length-field}
use Rattle.direction_table.specs.Texts.{AreDecimals, IsWhole, direction_text}
use Rattle.direction_table.specs.TableTexts.{row_of, table_text}
use Rattle.direction_table.specs.declared.reading.TheConstants.{LONGEST_TABLE}
use Rattle.direction_table.specs.declared.table.TargetDirection.{TargetDirection}
use Rattle.direction_table.proofs.WrittenDirections.{text-length}
use Rattle.row_forms.specs.declared.form.RowForm.TheVariants.{Commas}

-- A target with its name, and with a direction that so many decimals write exactly.
pub record IsWritten (count : ℕ) (stated : TargetDirection) : Type 0 where
  pub name : IsName stated.name
  pub exact : IsWhole count stated.direction

-- The text of a row of two fields.
length-row : (a b : List ℕ) → length (row_text default_writer (a ∷ b ∷ []))
    ≤ 2 * (length a + length b) + 6
unfolding fields_text is_blank
length-row a b = omega (arith, length-append {A = ℕ}, length-field a, length-field b)

row-short : (count : ℕ) → AreDecimals count → (stated : TargetDirection) → IsWritten count stated
    → IsShort (row_of Commas count stated)
row-short count few stated ok =
    omega (
      arith,
      length-row stated.name (direction_text count stated.direction),
      ok.name.short,
      text-length count stated.direction few ok.exact,
    )

-- The text of a table of at most as many targets as a station has is not too long for a table.
pub table-short : (count : ℕ) (stated : List TargetDirection) → length stated ≤ MOST_TARGETS
    → AreDecimals count → All (IsWritten count) stated
    → length (table_text Commas count stated) ≤ LONGEST_TABLE
table-short count stated room few ok =
    omega (
      arith,
      room,
      entries-short (IsWritten count) (row_of Commas count)
          (row-short count few) stated ok,
    )
