-- Beginnings of a stated direction's text.
use Rattle.std.proofs.Common.{◌≡◌, ◌+◌, ◌^◌, ◌/◌, ◌%◌, ◌++◌, ℕ, List, [], ◌∷◌, Bool, true, false}
use Rattle.std.proofs.Common.{append_assoc, subst}
use Rattle.std.specs.Fmt.{decimal}
use Rattle.direction_table.proofs.Begun.{first_part, of_first}
use Rattle.direction_table.specs.Beginnings.{IsBegun}
use Rattle.direction_table.specs.Texts.{decimals_of, direction_text}
use Rattle.station_differences.specs.DifferenceTexts.{gon_text}

-- The seventh, eighth and ninth decimal.
abbrev last_decimals : ℕ → List ℕ
last_decimals d =
    (48 + d / 10 ^ 2 % 10) ∷ (48 + d / 10 ^ 1 % 10) ∷ (48 + d / 10 ^ 0 % 10) ∷ []

-- They stand after the first six.
six_and_three : (d : ℕ) → direction_text 6 d ++ last_decimals d ≡ direction_text 9 d
six_and_three d =
    append_assoc (decimal (d / 10 ^ 9)) (46 ∷ decimals_of 6 d) (last_decimals d)

-- A beginning of the text with six decimals is one of the text with six or nine.
pub of_six : (short : Bool) (d : ℕ) (old new : List ℕ) → IsBegun (direction_text 6 d) old new
    → IsBegun (gon_text short d) old new
of_six true d old new p = p
of_six false d old new p =
    subst (λ (text : List ℕ). IsBegun text old new) (six_and_three d)
    (of_first (direction_text 6 d) (last_decimals d) old new p)

-- So is all of it.
pub six : (d : ℕ) (old new : List ℕ) → new ≡ old ++ direction_text 6 d
    → IsBegun (gon_text false d) old new
six d old new h =
    subst (λ (text : List ℕ). IsBegun text old new) (six_and_three d)
    (first_part (direction_text 6 d) (last_decimals d) old new h)
