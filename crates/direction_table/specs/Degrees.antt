-- Directions in degrees, minutes and seconds, as programs print them (profile): 59-04-09.18 with
-- hyphens, or with colons or blanks in their place; 59°04'09.18" with signs, plain or typographic;
-- or 59.040918, with the minutes and seconds after the point. 60 seconds are a minute, 60 minutes a
-- degree (textbook).
use Rattle.std.specs.Prelude.{ℕ, ◌+◌, ◌-◌, ◌*◌, ◌^◌, ◌/◌, ◌%◌, Bool, ◌&&◌, ◌||◌, ◌==◌, nat_le}
use Rattle.std.specs.Prelude.{nat_lt, if◌then◌else◌, List, [], ◌∷◌, ◌++◌, length, take, drop}
use Rattle.std.specs.Prelude.{unwrap_or}
use Rattle.std.specs.Char.{is_ascii_digit}
use Rattle.std.specs.List.{list_all, list_any, position, prefix_len}
use Rattle.std.specs.Str.{bytes_eq}
use Rattle.std.specs.Str.Parse.{digits_value}
use Rattle.direction_table.specs.DecimalNumbers.{after_first, are_decimals, decimals_part}
use Rattle.direction_table.specs.DecimalNumbers.{end_in_zeros}
use Rattle.direction_table.specs.DecimalNumbers.{fraction_value, is_mark, is_shifted}
use Rattle.direction_table.specs.DecimalNumbers.{is_shifted_whole, is_whole, shifted_value}
use Rattle.direction_table.specs.DecimalNumbers.{whole_part}
use Rattle.direction_table.specs.FieldForms.{without_blanks_before}
use Rattle.direction_table.specs.declared.degrees.Packed.{Packed}
use Rattle.direction_table.specs.declared.degrees.Sexagesimal.{Sexagesimal}
use Rattle.direction_table.specs.declared.degrees.TheConstants.{DEGREE, MINUTE}
use Rattle.direction_table.specs.declared.direction.TheConstants.{SECOND_PARTS}

-- The hyphen.
abbrev pub hyphen : ℕ
hyphen = 45

-- The first of the two bytes of the sign of degrees (UTF-8).
abbrev pub degree_sign : ℕ
degree_sign = 194

-- The second.
abbrev pub degree_sign_end : ℕ
degree_sign_end = 176

-- The colon.
abbrev pub colon : ℕ
colon = 58

-- The blank.
abbrev pub blank : ℕ
blank = 32

-- The sign of minutes.
abbrev pub minute_sign : ℕ
minute_sign = 39

-- The sign of seconds.
abbrev pub second_sign : ℕ
second_sign = 34

-- The first two of the three bytes of a typographic sign of minutes or of seconds (UTF-8).
abbrev pub typographic : List ℕ
typographic = 226 ∷ 128 ∷ []

-- The signs of minutes: the apostrophe, the prime and the closing single quote.
abbrev pub minute_signs : List (List ℕ)
minute_signs =
    (minute_sign ∷ []) ∷ (typographic ++ (178 ∷ [])) ∷ (typographic ++ (153 ∷ [])) ∷ []

-- The signs of seconds: the straight quote, two apostrophes, the double prime and the closing
-- double quote.
abbrev pub second_signs : List (List ℕ)
second_signs =
    (second_sign ∷ []) ∷ (minute_sign ∷ minute_sign ∷ []) ∷ (typographic ++ (179 ∷ []))
    ∷ (typographic ++ (157 ∷ [])) ∷ []

-- The place of the first of such bytes, or the end.
abbrev pub place_of : ℕ → List ℕ → ℕ
place_of mark bytes = unwrap_or (position (λ b. b == mark) bytes) (length bytes)

-- What stands before the first of such bytes: all, where there is none.
abbrev pub before : ℕ → List ℕ → List ℕ
before mark bytes = take (place_of mark bytes) bytes

-- What stands after it: nothing, where there is none.
abbrev pub after : ℕ → List ℕ → List ℕ
after mark bytes = after_first (drop (place_of mark bytes) bytes)

-- The three numbers of a direction, as they are written.
pub record Numbers : Type 0 where
  pub degrees : List ℕ
  pub minutes : List ℕ
  pub seconds : List ℕ

-- The same, of the numbers in memory.
abbrev pub numbers_view : Sexagesimal → Numbers
numbers_view n =
    record { degrees = n.degrees.now; minutes = n.minutes.now; seconds = n.seconds.now }

-- With a mark after the degrees and after the minutes: hyphens, colons or blanks.
abbrev pub by_mark : ℕ → List ℕ → Numbers
by_mark mark bytes = record {
  degrees = before mark bytes;
  minutes = before mark (after mark bytes);
  seconds = after mark (after mark bytes);
}

-- The bytes after one that they begin with; none, where they begin with another.
abbrev pub without_first : ℕ → List ℕ → List ℕ
without_first mark [] = []
without_first mark (b ∷ bytes) = if b == mark then bytes else []

-- The bytes after the first of these signs that they begin with; none, where they begin with none.
abbrev pub without_sign : List (List ℕ) → List ℕ → List ℕ
without_sign [] bytes = []
without_sign (sign ∷ signs) bytes =
    if bytes_eq (take (length sign) bytes) sign then drop (length sign) bytes
    else without_sign signs bytes

-- Bytes of seconds: digits and the decimal point or comma.
abbrev pub is_of_seconds : ℕ → Bool
is_of_seconds b = is_ascii_digit b || is_mark b

-- The seconds that bytes begin with, where a sign of seconds and nothing more follows; else none.
abbrev pub signed_seconds : List ℕ → List ℕ
signed_seconds bytes =
    if list_any (λ sign. bytes_eq sign (drop (prefix_len is_of_seconds bytes) bytes)) second_signs
    then take (prefix_len is_of_seconds bytes) bytes else []

-- What stands after the sign of degrees, which is two bytes, and blanks after it.
abbrev pub after_degrees : List ℕ → List ℕ
after_degrees bytes =
    without_blanks_before (without_first degree_sign_end (after degree_sign bytes))

-- With the signs: two digits of minutes stand before theirs, and blanks may stand after it.
abbrev pub by_signs : List ℕ → Numbers
by_signs bytes = record {
  degrees = before degree_sign bytes;
  minutes = take 2 (after_degrees bytes);
  seconds = signed_seconds
      (without_blanks_before (without_sign minute_signs (drop 2 (after_degrees bytes))));
}

-- Whether bytes have this one.
abbrev pub has_mark : ℕ → List ℕ → Bool
has_mark mark bytes = list_any (λ b. b == mark) bytes

-- A direction has minutes where it has a hyphen, a colon, a blank or the sign of degrees.
abbrev pub has_minutes : List ℕ → Bool
has_minutes bytes =
    has_mark degree_sign bytes || (has_mark colon bytes || (has_mark blank bytes
    || has_mark hyphen bytes))

-- Its numbers.
abbrev pub numbers_of : List ℕ → Numbers
numbers_of bytes =
    if has_mark degree_sign bytes then by_signs bytes
    else (if has_mark colon bytes then by_mark colon bytes
    else (if has_mark blank bytes then by_mark blank bytes else by_mark hyphen bytes))

-- Degrees: one to three digits.
abbrev pub are_degrees : List ℕ → Bool
are_degrees digits = nat_le 1 (length digits) && is_whole 3 digits

-- Minutes: two digits, below 60.
abbrev pub are_minutes : List ℕ → Bool
are_minutes digits =
    (length digits == 2) && (is_whole 3 digits && nat_lt (digits_value 10 digits) 60)

-- Seconds: two digits and any number of decimals, below 60.
abbrev pub are_seconds : List ℕ → Bool
are_seconds bytes =
    is_shifted 0 bytes && ((length (whole_part bytes) == 2)
    && nat_lt (shifted_value 0 bytes) 60_000_000_000)

-- Seconds in parts: 40 units of their ninth decimal are a part, and what is less is left out.
abbrev pub seconds_value : List ℕ → ℕ
seconds_value bytes = shifted_value 0 bytes / 40

-- Nothing is left out of seconds: they are a whole number of parts.
abbrev pub are_whole_seconds : List ℕ → Bool
are_whole_seconds bytes = is_shifted_whole 0 bytes && (shifted_value 0 bytes % 40 == 0)

-- Three such numbers.
abbrev pub is_sexagesimal : Numbers → Bool
is_sexagesimal n = are_degrees n.degrees && (are_minutes n.minutes && are_seconds n.seconds)

-- The direction in parts.
abbrev pub sexagesimal_value : Numbers → ℕ
sexagesimal_value n =
    DEGREE * digits_value 10 n.degrees + MINUTE * digits_value 10 n.minutes
    + seconds_value n.seconds

-- One unit of the last of so many decimals of seconds, in parts; that of the sixth, where more are
-- written.
abbrev pub seconds_step : ℕ → ℕ
seconds_step decimals = SECOND_PARTS * 10 ^ (6 - decimals)

-- The step that a direction of so many parts tells, with so many decimals of its seconds: one unit
-- of the last, or a second; 0-00-00 tells none, as 0 does, and there it is 0.
abbrev pub told_step : ℕ → ℕ → ℕ
told_step size decimals =
    if (size == 0) && (decimals == 0) then 0 else seconds_step decimals

-- The step to which such a direction is rounded as it is written, in parts; 0 where it tells none,
-- and 1 where something is left out of its seconds.
abbrev pub sexagesimal_step : Numbers → ℕ
sexagesimal_step n =
    if are_whole_seconds n.seconds
    then told_step (sexagesimal_value n) (length (decimals_part n.seconds)) else 1

-- Degrees with their minutes and seconds after the point, as they are written: the first two
-- decimals are minutes, the next two seconds, and those that follow decimals of seconds.
pub record PackedDigits : Type 0 where
  pub degrees : List ℕ
  pub minutes : List ℕ
  pub seconds : List ℕ
  pub fraction : List ℕ
  -- How many digits stand after the point.
  pub decimals : ℕ

-- The same, of the digits in memory.
abbrev pub packed_view : Packed → PackedDigits
packed_view p = record {
  degrees = p.degrees.now;
  minutes = p.minutes.now;
  seconds = p.seconds.now;
  fraction = p.fraction.now;
  decimals = p.decimals;
}

-- The digits of such degrees.
abbrev pub packed_digits : List ℕ → PackedDigits
packed_digits bytes = record {
  degrees = whole_part bytes;
  minutes = take 2 (decimals_part bytes);
  seconds = take 2 (drop 2 (decimals_part bytes));
  fraction = drop 2 (drop 2 (decimals_part bytes));
  decimals = length (decimals_part bytes);
}

-- The number of minutes or of whole seconds that at most two digits write: one that isn't there is
-- 0.
abbrev pub sixtieths_value : List ℕ → ℕ
sixtieths_value digits = digits_value 10 digits * 10 ^ (2 - length digits)

-- Such digits write a number below 60.
abbrev pub are_sixtieths : List ℕ → Bool
are_sixtieths digits = list_all is_ascii_digit digits && nat_lt (sixtieths_value digits) 60

-- Seconds, and any number of their decimals.
abbrev pub are_packed_seconds : PackedDigits → Bool
are_packed_seconds p = are_sixtieths p.seconds && are_decimals 9 p.fraction

-- The seconds, in units of their ninth decimal.
abbrev pub packed_seconds : PackedDigits → ℕ
packed_seconds p = sixtieths_value p.seconds * 10 ^ 9 + fraction_value 9 p.fraction

-- Digits are such degrees: minutes and seconds are below 60.
abbrev pub is_packed : PackedDigits → Bool
is_packed p = are_degrees p.degrees && (are_sixtieths p.minutes && are_packed_seconds p)

-- The direction in parts: 40 units of the ninth decimal of a second are a part, and what is less is
-- left out.
abbrev pub packed_value : PackedDigits → ℕ
packed_value p =
    DEGREE * digits_value 10 p.degrees + MINUTE * sixtieths_value p.minutes
    + packed_seconds p / 40

-- Nothing but zeros stands past the ninth decimal.
abbrev pub end_in_nine : List ℕ → Bool
end_in_nine digits = end_in_zeros 9 digits

-- Nothing is left out of it.
abbrev pub is_packed_whole : PackedDigits → Bool
is_packed_whole p = end_in_nine p.fraction && (packed_seconds p % 40 == 0)

-- One unit of the last of so many decimals, in parts: none, tens of minutes, minutes, tens of
-- seconds, and from the fourth on seconds and their decimals.
abbrev pub packed_unit : ℕ → ℕ
packed_unit decimals =
    if decimals == 0 then 0
    else (if decimals == 1 then 10 * MINUTE
    else (if decimals == 2 then MINUTE
    else (if decimals == 3 then 10 * seconds_step 0 else seconds_step (decimals - 4))))

-- The step to which such a direction is rounded as it is written, in parts; 1 where something is
-- left out of its seconds.
abbrev pub packed_step : PackedDigits → ℕ
packed_step p = if is_packed_whole p then packed_unit p.decimals else 1
