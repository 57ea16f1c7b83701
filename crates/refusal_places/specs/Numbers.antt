-- A number that stands in a line after some words.
use Rattle.std.specs.Prelude.{ℕ, ◌&&◌, ◌==◌, Bool, List, Option, Some, None, drop, if◌then◌else◌}
use Rattle.std.specs.Prelude.{length, nat_le, not, take}
use Rattle.std.specs.Char.{is_ascii_digit}
use Rattle.std.specs.List.{position, starts_with}
use Rattle.gsi_word.specs.Angles.{decimal_number}

-- Whether a line begins with these words.
abbrev pub begins_with : List ℕ → List ℕ → Bool
begins_with words line = starts_with (λ a b. a == b) line words

-- What stands before a place; without one, all.
abbrev pub before : Option ℕ → List ℕ → List ℕ
before (Some at) text = take at text
before None text = text

-- The digits that a text begins with.
abbrev pub first_digits : List ℕ → List ℕ
first_digits text = before (position (λ b. not (is_ascii_digit b)) text) text

-- Whether digits are as many as the number of a line may have: one at least, and ten at most.
abbrev pub are_few : List ℕ → Bool
are_few digits = nat_le 1 (length digits) && nat_le (length digits) 10

-- The number that so few digits write.
abbrev pub number_of : List ℕ → Option ℕ
number_of digits = if are_few digits then decimal_number digits else None

-- The number that stands after these words, with which a line begins; none where it does not.
abbrev pub number_after : List ℕ → List ℕ → Option ℕ
number_after words line =
    if begins_with words line then number_of (first_digits (drop (length words) line)) else None
