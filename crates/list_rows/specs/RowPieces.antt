-- The pieces that a row is made of.
use Rattle.std.specs.Prelude.{ℕ, ◌*◌, ◌/◌, ◌^◌, ℤ, List, [], ◌∷◌, ◌++◌, decimal, unsigned_abs}
use Rattle.csv.specs.Machine.{line_feed}
use Rattle.csv.specs.Writing.{field_text}
use Rattle.adjust_kernel.specs.declared.units.TheConstants.{HALF_UNIT}
use Rattle.angle_texts.specs.MgonTexts.{sign_text}
use Rattle.direction_table.specs.Texts.{decimals_of, last_digit}
use Rattle.row_forms.specs.Forms.{point_of, separator, writer_of}
use Rattle.row_forms.specs.declared.form.RowForm.{RowForm}
use Rattle.station_book.specs.declared.faces.Faces.{Faces}

-- A name in a row: as `csv` writes it, and the separator after it.
abbrev pub cell_text : RowForm → List ℕ → List ℕ
cell_text form name = field_text (writer_of form) name ++ (separator form ∷ [])

-- What each row of a set begins with: the name of the station, and the number of the set.
abbrev pub start_text : RowForm → List ℕ → ℕ → List ℕ
start_text form station set = cell_text form station ++ (decimal set ++ (separator form ∷ []))

-- A direction in gon, with the form's point and six decimals.
abbrev pub gon_text : RowForm → ℕ → List ℕ
gon_text form direction =
    decimal (direction / 10 ^ 9) ++ (point_of form ∷ decimals_of 6 direction)

-- A number of hundredths, with the form's point.
abbrev pub hundredths_text : RowForm → ℕ → List ℕ
hundredths_text form n =
    decimal (n / 100) ++ (point_of form ∷ last_digit (n / 10) ∷ last_digit n ∷ [])

-- A face difference in mgon, of units of 0.01 mgon.
abbrev pub mgon_text : RowForm → ℤ → List ℕ
mgon_text form units = sign_text units ++ hundredths_text form (unsigned_abs units)

-- What a row ends with: the direction, both face differences, and the end of the line.
abbrev pub numbers_text : RowForm → ℕ → Faces → List ℕ
numbers_text form value faces =
    gon_text form (HALF_UNIT * value)
    ++ (separator form ∷ (mgon_text form faces.two_c
    ++ (separator form ∷ (mgon_text form faces.two_i ++ (line_feed ∷ [])))))
