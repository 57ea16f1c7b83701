-- What the face differences of a station say together, as rows for other programs (profile).
use Rattle.std.specs.Prelude.{ℕ, ℤ, List, ◌++◌, codes, length}
use Rattle.angle_texts.specs.MgonTexts.{short_mgon_text}
use Rattle.station_book.specs.Stations.{SurveyedStation}
use Rattle.station_report.specs.FaceMeans.{half_mean_below, mean_below, spread_below}
use Rattle.station_report.specs.Readings.{two_c_at, two_i_at}

-- a cell after another: a number of 0.01 mgon in mgon, with two decimals
abbrev pub mgon_cell : ℤ → List ℕ
mgon_cell units = codes "," ++ short_mgon_text units

-- A row: what the differences are, their mean, half of it, and the greatest less the least.
abbrev pub face_row : List ℕ → ℤ → ℤ → ℤ → List ℕ
face_row what mean half spread =
    what ++ (mgon_cell mean ++ (mgon_cell half ++ (mgon_cell spread ++ codes "\n")))

-- the row of the numbers at the places below a count
abbrev pub face_row_below : List ℕ → ℕ → (ℕ → ℤ) → List ℕ
face_row_below what n number =
    face_row what (mean_below n number) (half_mean_below n number) (spread_below n number)

-- The titles, a row of all 2c of a station, and one of all 2i.
abbrev pub faces_text : SurveyedStation → List ℕ
faces_text its =
    codes "difference,mean,half of mean,spread\n"
    ++ (face_row_below (codes "2c") (length its.station.obs) (two_c_at its)
    ++ face_row_below (codes "2i") (length its.station.obs) (two_i_at its))
