-- The text of a station's residuals (profile).
use Rattle.std.specs.Prelude.{ℕ, ◌*◌, List, [], ◌∷◌, map, codes, decimal}
use Rattle.angle_texts.specs.MgonTexts.{mgon_text}
use Rattle.direction_table.specs.Texts.{direction_text}
use Rattle.adjust_kernel.specs.declared.units.TheConstants.{HALF_UNIT}
use Rattle.sheet_format.specs.Texts.{rows_text}
use Rattle.station_results.specs.declared.adjusted.AdjustedObs.{AdjustedObs}

-- the titles
abbrev pub titles : List (List ℕ)
titles =
    codes "set" ∷ codes "target" ∷ codes "direction" ∷ codes "adjusted" ∷ codes "residual" ∷ []

-- The row of an observation: the number of its set, the name of its target, its two-face direction
-- and its adjusted direction in gon, with six decimals, and its residual in mgon.
abbrev pub row_of : AdjustedObs → List (List ℕ)
row_of o =
    decimal o.set ∷ o.target ∷ direction_text 6 (HALF_UNIT * o.value)
    ∷ direction_text 6 o.adjusted ∷ mgon_text o.residual ∷ []

-- The text: the titles, and the rows of the observations, in their order.
abbrev pub residuals_text : List AdjustedObs → List ℕ
residuals_text rows = rows_text (titles ∷ map row_of rows)
