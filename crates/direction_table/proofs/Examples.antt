-- The definitions on small tables.
use Rattle.std.proofs.Common.{◌≡◌, ℕ, ◌*◌, true, false, List, [], ◌∷◌, ◌++◌, map, Some, None}
use Rattle.std.proofs.Common.{refl}
use Rattle.std.specs.Prelude.{codes, pos, negsuc}
use Rattle.csv.proofs.OnLiterals.{csv_on_literals}
use Rattle.sheet_format.specs.RowFaults.{fault_at, fault_between}
use Rattle.direction_table.specs.Faults.{stating_fault, table_row_fault, table_rules}
use Rattle.direction_table.specs.FieldForms.{named, tidy}
use Rattle.direction_table.specs.Directions.{direction_value, is_direction, is_on_circle, step_in}
use Rattle.direction_table.specs.Separators.{rows_of, separator_of}
use Rattle.direction_table.specs.Tables.{stated_by}
use Rattle.direction_table.specs.UsualLimits.{usual_within}
use Rattle.direction_table.specs.declared.fault.RowKind.TheVariants as fault
use Rattle.direction_table.specs.declared.separator.Separator.TheVariants.{Comma, Semicolon}
use Rattle.direction_table.specs.declared.separator.Separator.TheVariants.{Blanks}
use Rattle.direction_table.specs.declared.unit.AngleUnit.TheVariants.{Gon, Degrees}

abbrev targets : List (List ℕ)
targets = codes "P3" ∷ codes "P5" ∷ []

abbrev line : List ℕ → List ℕ
line text = text ++ (10 ∷ [])

-- Numbers.
directions : map (direction_value Gon) (codes "64,52134" ∷ codes "-.5" ∷ codes "+7."
    ∷ codes "50.0000300000" ∷ codes "-400.0000" ∷ [])
    ≡ pos 5226228540000 ∷ negsuc 40499999999 ∷ pos 567000000000 ∷ pos 4050002430000 ∷ pos 0 ∷ []
directions = refl

-- Decimals past the ninth, and exponents; what stands past the ninth decimal is left out.
computed : map (direction_value Gon) (codes "139.4045381361607" ∷ codes "-0.0000000019"
    ∷ codes "1.5e-05" ∷ codes "1.394045381361607E+02" ∷ codes "5.684341886080802e-14" ∷ [])
    ≡ pos (81 * 139404538136) ∷ negsuc 80 ∷ pos (81 * 15000) ∷ pos (81 * 139404538136) ∷ pos 0 ∷ []
computed = refl

-- They tell the steps of their decimals, where nothing is left out, and else one part.
told : map (step_in Gon) (codes "139.4045381360000" ∷ codes "139.4045381361607" ∷ codes "1.5e-05"
    ∷ codes "1.39e+02" ∷ codes "1.39045e+02" ∷ codes "5.684341886080802e-14" ∷ codes "0e+00" ∷ [])
    ≡ 81 ∷ 1 ∷ 81000 ∷ 0 ∷ 81000000 ∷ 1 ∷ 0 ∷ []
told = refl

-- No digit, no mantissa, no sign or digit of an exponent, a fourth digit before the point, and a
-- letter after the ninth decimal.
no-directions : map (is_direction Gon) (codes "." ∷ codes "e-05" ∷ codes "1e05" ∷ codes "1e-"
    ∷ codes "1e+03" ∷ codes "12e+02" ∷ codes "50.0000000001x" ∷ [])
    ≡ false ∷ false ∷ false ∷ false ∷ false ∷ false ∷ false ∷ []
no-directions = refl

on-circle : map (is_on_circle Gon) (codes "400" ∷ codes "400.000000001" ∷ []) ≡ true ∷ false ∷ []
on-circle = refl

-- Degrees.
seconds : direction_value Degrees (codes "-000-00-00.0000010000") ≡ negsuc 24
seconds = refl

-- More decimals than count, and a hyphen that is the sign of an exponent.
more-decimals : map (direction_value Degrees) (codes "0-00-00.00000107" ∷ codes "1e-05" ∷ [])
    ≡ pos 26 ∷ pos 900000 ∷ []
more-decimals = refl

more-told : map (step_in Degrees) (codes "0-00-00.00000107" ∷ codes "0-00-00.00000104"
    ∷ codes "1.5e-11" ∷ []) ≡ 1 ∷ 25 ∷ 1 ∷ []
more-told = refl

-- Minutes of one digit, no minutes, no degrees, an exponent of seconds.
no-degrees : map (is_direction Degrees) (codes "59-4-09.18" ∷ codes "59-09.18"
    ∷ codes "-04-09.18" ∷ codes "59-04-01e-05" ∷ []) ≡ false ∷ false ∷ false ∷ false ∷ []
no-degrees = refl

-- After 59 the sign of degrees alone, no sign of seconds, another sign, and signs with a hyphen.
no-signs : map (λ text. is_direction Degrees (codes "59" ++ text)) ((194 ∷ 176 ∷ [])
    ∷ (194 ∷ 176 ∷ codes "04'09.18") ∷ (194 ∷ 180 ∷ codes "04'09.18\"")
    ∷ (194 ∷ 176 ∷ codes "04-09.18\"") ∷ []) ≡ false ∷ false ∷ false ∷ false ∷ []
no-signs = refl

circle-in-degrees : is_on_circle Degrees (codes "360.000000001") ≡ false
circle-in-degrees = refl

-- Names.
around : named targets (codes " P3 ") ≡ codes "P3"
around = refl

as-it-stands : named (codes "P3 " ∷ targets) (codes "P3 ") ≡ codes "P3 "
as-it-stands = refl

blank-end : tidy targets (codes "P3" ∷ codes " 1" ∷ codes " " ∷ [] ∷ [])
    ≡ codes "P3" ∷ codes "1" ∷ []
blank-end = refl

-- Separators: by a comma, a semicolon beside a decimal comma, blanks, and by titles.
separators : map (λ text. separator_of targets (line text)) (codes "P3,0" ∷ codes "P3;64,5"
    ∷ codes "  P5  64,5" ∷ codes "Punkt;Richtung, gon" ∷ [])
    ≡ Comma ∷ Semicolon ∷ Blanks ∷ Semicolon ∷ []
unfolding csv_on_literals separator_of
separators = refl

of-a-name : separator_of (codes "P3;64" ∷ []) (line (codes "P3;64,5")) ≡ Comma
unfolding csv_on_literals separator_of
of-a-name = refl

-- Tables.
abbrev german : List ℕ
german = line (codes "Punkt;Hz") ++ (line (codes "P5;64,5213") ++ line (codes "P3;400,000;"))

german-rows : stated_by Gon (rows_of targets german) targets
    ≡ Some (pos 0) ∷ Some (pos 5226225300000) ∷ []
unfolding csv_on_literals separator_of rows_of
german-rows = refl

german-titles : fault_at (table_rules Gon targets) (rows_of targets german) 0 ≡ None
unfolding csv_on_literals separator_of rows_of table_row_fault stating_fault fault_between
german-titles = refl

german-limit : usual_within Gon (rows_of targets german) ≡ 55
unfolding csv_on_literals separator_of rows_of
german-limit = refl

abbrev twice : List ℕ
twice = line (codes "P3 1") ++ line (codes " P3  2")

second-row : fault_at (table_rules Gon targets) (rows_of targets twice) 1 ≡ Some fault.Twice
unfolding csv_on_literals separator_of rows_of table_row_fault stating_fault fault_between
second-row = refl

no-titles : fault_at (table_rules Gon targets) (rows_of targets (line (codes "P3,5 gon"))) 0
    ≡ Some fault.Number
unfolding csv_on_literals separator_of rows_of table_row_fault stating_fault fault_between
no-titles = refl
