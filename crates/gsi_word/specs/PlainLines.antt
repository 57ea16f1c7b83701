-- A line as most readings are written: three words with plus signs, a point number and two whose
-- indices begin with 2 or 3, and perhaps a blank. What may stand at a place depends on the place
-- alone, so that such a line is told by comparing bytes, 16 at a time. No rule of the format: other
-- lines are read too, the long way. In the bounds `!` and `~` are the lowest and the highest
-- visible bytes, and a blank is the lowest of a content.
use Rattle.std.specs.Prelude.{ℕ, zero, suc, ◌+◌, ◌-◌, ◌/◌, Bool, true, ◌&&◌, ◌||◌, not, ◌==◌, nat_le}
use Rattle.std.specs.Prelude.{List, [], ◌∷◌, codes, length}
use Rattle.std.specs.Prelude.{take, drop, slice_index, ◌≡◌, Ok}
use Rattle.std.specs.Int.{is_in_range}
use Rattle.gsi_word.specs.Bytes.{blank}
use Rattle.gsi_word.specs.Words.{GsiWord}
use Rattle.gsi_word.specs.Angles.{angle_of, is_input_mode}
use Rattle.gsi_word.specs.FoundWords.{found}
use Rattle.gsi_word.specs.declared.found.Found.TheVariants.{One}

-- Each byte lies between the lowest and the highest that may stand at its place, as far as all
-- three lists go; here each has 16 bytes.
abbrev pub are_within : List ℕ → List ℕ → List ℕ → Bool
are_within [] highest bytes = true
are_within (low ∷ lowest) [] bytes = true
are_within (low ∷ lowest) (high ∷ highest) [] = true
are_within (low ∷ lowest) (high ∷ highest) (byte ∷ bytes) =
    is_in_range low high byte && are_within lowest highest bytes

-- Sixteen bytes from a place on.
abbrev pub load : ℕ → List ℕ → List ℕ
load at line = take 16 (drop at line)

-- A point number of GSI-8 and the blank after it.
abbrev pub is_first : List ℕ → Bool
is_first bytes = are_within (codes "11!!!!+         ") (codes "11~~~~+~~~~~~~~ ") bytes

-- A blank and a word of GSI-8, or the front of one of GSI-16.
abbrev pub is_later : List ℕ → Bool
is_later bytes = are_within (codes " 20!!!!+        ") (codes " 39~~~~+~~~~~~~~") bytes

-- The `*` and the front of a point number of GSI-16.
abbrev pub is_wide_first : List ℕ → Bool
is_wide_first bytes = are_within (codes "*11!!!!+        ") (codes "*11~~~~+~~~~~~~~") bytes

-- The end of a word of GSI-16, a blank, and the front of a word up to its sign.
abbrev pub is_wide_second : List ℕ → Bool
is_wide_second bytes = are_within (codes "         20!!!!+") (codes "~~~~~~~~ 39~~~~+") bytes

-- Bytes of a content.
abbrev pub is_content : List ℕ → Bool
is_content bytes = are_within (codes "                ") (codes "~~~~~~~~~~~~~~~~") bytes

-- A line has so many bytes, or one more, a blank.
abbrev pub is_plain_length : ℕ → List ℕ → Bool
is_plain_length n line = length line == n || (length line == n + 1 && slice_index line n == blank)

-- A line of GSI-8 is three such words.
unfoldable pub is_plain : List ℕ → Bool
is_plain line = is_plain_length 47 line
    && (is_first (load 0 line) && (is_later (load 15 line) && is_later (load 31 line)))

-- A line of GSI-16 is three such words.
unfoldable pub is_plain_wide : List ℕ → Bool
is_plain_wide line = is_plain_length 72 line
    && (is_wide_first (load 0 line) && (is_wide_second (load 16 line)
    && (is_content (load 32 line) && (is_later (load 48 line) && is_content (load 56 line)))))

-- A blank and a word 21, in gon with a plus sign and eight digits, of which the first is at most 3,
-- so that the angle is below a full turn. It holds the angle if its input mode is one that is read.
abbrev pub is_direction : List ℕ → Bool
is_direction bytes = are_within (codes " 21!!.2+00000000") (codes " 21~~32+39999999") bytes

-- The same of a word 22.
abbrev pub is_zenith : List ℕ → Bool
is_zenith bytes = are_within (codes " 22!!.2+00000000") (codes " 22~~32+39999999") bytes

-- The end of a content, a blank, and a word 21 up to its sign, in gon with a plus sign.
abbrev pub is_wide_direction : List ℕ → Bool
is_wide_direction bytes = are_within (codes "         21!!.2+") (codes "~~~~~~~~ 21~~32+") bytes

-- A blank and the front of a word 22 of GSI-16, in gon with a plus sign and eight zeros.
abbrev pub is_wide_zenith : List ℕ → Bool
is_wide_zenith bytes = are_within (codes " 22!!.2+00000000") (codes " 22~~32+00000000") bytes

-- The content of an angle of GSI-16: eight zeros and eight digits, of which the first is at most 3.
abbrev pub is_wide_angle : List ℕ → Bool
is_wide_angle bytes = are_within (codes "0000000000000000") (codes "0000000039999999") bytes

-- A blank and a further word of GSI-8 from a place on, with a plus sign; its index begins with 3,
-- or with 5 to 9: so it is none of an angle, and none that a line begins with.
abbrev pub is_more : ℕ → List ℕ → Bool
is_more at line = are_within (codes " 30!!!!+        ") (codes " 99~~~~+~~~~~~~~") (load at line)
    && not (slice_index line (at + 1) == 52)

-- So many of them from a place on, and then at most one blank.
unfoldable pub are_more : ℕ → ℕ → List ℕ → Bool
are_more zero at line = is_plain_length at line
are_more (suc n) at line = is_more at line && are_more n (at + 16) line

-- How many words stand after the third in a line of GSI-8, with a blank before each.
abbrev pub more_words : List ℕ → ℕ
more_words line = (length line - 47) / 16

-- All words after the third are such, and at most one blank comes after them.
unfoldable pub goes_on : List ℕ → Bool
goes_on line = are_more (more_words line) 47 line

-- A line of GSI-8 begins with a point number, a direction and a zenith angle, all with plus signs.
unfoldable pub begins_reading : List ℕ → Bool
begins_reading line = is_first (load 0 line) && (is_direction (load 15 line)
    && (is_zenith (load 31 line)
    && (is_input_mode (slice_index line 20) && is_input_mode (slice_index line 36))))

-- A line of GSI-8 that is these three words, perhaps further words, and at most one blank.
unfoldable pub is_narrow_reading : List ℕ → Bool
is_narrow_reading line = nat_le 47 (length line) && (begins_reading line && goes_on line)

-- A line of GSI-16 that is a point number, a direction and a zenith angle, all with plus signs, and
-- at most one blank after them.
unfoldable pub is_wide_reading : List ℕ → Bool
is_wide_reading line = is_plain_length 72 line
    && (is_wide_first (load 0 line) && (is_wide_direction (load 16 line)
    && (is_wide_angle (load 32 line) && (is_wide_zenith (load 48 line)
    && (is_wide_angle (load 56 line)
    && (is_input_mode (slice_index line 29) && is_input_mode (slice_index line 53)))))))

-- A reading as most are written.
unfoldable pub is_plain_reading : List ℕ → Bool
is_plain_reading line = is_narrow_reading line || is_wide_reading line

-- There is one word of this index, and it holds this angle.
pub record HasAngle (index : ℕ) (words : List GsiWord) (units : ℕ) : Type 0 where
  pub word : GsiWord
  pub one : found index words ≡ One word
  pub angle : angle_of word ≡ Ok units
