-- The angle that a word holds, in units of 0.00001 gon (GSI manual; the accepted bytes of unit and
-- input mode are profile).
use Rattle.std.specs.Prelude.{◌≡◌, ◌≤◌, ◌==◌, ℕ, ◌+◌, ◌-◌, ◌*◌, nat_le, Bool, false, IsTrue, ◌||◌}
use Rattle.std.specs.Prelude.{not, List, fold, Option, Some, None, Result, Ok, Err, if◌then◌else◌}
use Rattle.std.specs.Prelude.{slice_index}
use Rattle.std.specs.List.{list_all, AllPass}
use Rattle.std.specs.Char.{is_ascii_digit}
use Rattle.gsi_word.specs.declared.angle.AngleFault.{AngleFault}
use Rattle.gsi_word.specs.declared.angle.AngleFault.TheVariants.{Unit as WrongUnit, InputMode, Sign}
use Rattle.gsi_word.specs.declared.angle.AngleFault.TheVariants.{Digits, Range}
use Rattle.gsi_word.specs.declared.angle.TheConstants.{LAST_UNIT}
use Rattle.gsi_word.specs.Bytes.{point, zero_digit}
use Rattle.gsi_word.specs.Words.{GsiWord}

-- The number that decimal digits write.
abbrev pub decimal_value : List ℕ → ℕ
decimal_value digits = fold (λ n b. 10 * n + (b - zero_digit)) 0 digits

-- The number that bytes write, where all are digits.
abbrev pub decimal_number : List ℕ → Option ℕ
decimal_number bytes = if list_all is_ascii_digit bytes then Some (decimal_value bytes) else None

-- Whether this byte, the fourth of the information, is `2`, for gon with five decimals.
abbrev pub is_gon : ℕ → Bool
is_gon b = b == 50

-- Whether this byte, the third of the information, is `.`, `0`, `2` or `3`.
abbrev pub is_input_mode : ℕ → Bool
is_input_mode b = (b == point || b == zero_digit) || (b == 50 || b == 51)

-- A number of units as an angle: below a full turn.
abbrev pub angle_within_turn : Option ℕ → Result ℕ AngleFault
angle_within_turn None = Err Digits
angle_within_turn (Some units) = if nat_le units LAST_UNIT then Ok units else Err Range

-- The angle of a word in units, or the first of its faults: the unit, the input mode, the sign, the
-- digits, the range.
abbrev pub angle_of : GsiWord → Result ℕ AngleFault
angle_of w =
    if not (is_gon (slice_index w.info 3)) then Err WrongUnit else
    (if not (is_input_mode (slice_index w.info 2)) then Err InputMode else
    (if w.negative then Err Sign else
    angle_within_turn (decimal_number w.content)))

-- The word holds this angle, in units.
pub record IsAngle (w : GsiWord) (units : ℕ) : Type 0 where
  pub gon : IsTrue (is_gon (slice_index w.info 3))
  pub input_mode : IsTrue (is_input_mode (slice_index w.info 2))
  pub sign : w.negative ≡ false
  pub digits : AllPass is_ascii_digit w.content
  pub value : units ≡ decimal_value w.content
  pub within_turn : units ≤ LAST_UNIT
