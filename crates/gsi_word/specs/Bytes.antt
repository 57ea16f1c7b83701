-- The bytes that a line is written with beside what its words say (ASCII; GSI manual).
use Rattle.std.specs.Prelude.{ℕ}

-- What stands between two words.
abbrev pub blank : ℕ
blank = 32

-- The sign of what is not negative.
abbrev pub plus : ℕ
plus = 43

-- The sign of what is negative.
abbrev pub minus : ℕ
minus = 45

-- The point, an input mode.
abbrev pub point : ℕ
point = 46

-- The first digit, which fills a content from the left.
abbrev pub zero_digit : ℕ
zero_digit = 48

-- The last digit.
abbrev pub nine_digit : ℕ
nine_digit = 57
