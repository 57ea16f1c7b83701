-- What a refusal of a block speaks of in its line (profile).
use Rattle.std.specs.Prelude.{ℕ, ◌||◌, Bool, List, [], Option, Some, None, codes, drop, not}
use Rattle.std.specs.Prelude.{if◌then◌else◌, length}
use Rattle.std.specs.Char.{is_ascii_digit}
use Rattle.std.specs.List.{position}
use Rattle.std.specs.Option.{option_map, option_or}
use Rattle.gsi_word.specs.declared.index.TheConstants.{POINT_NUMBER, HORIZONTAL_DIRECTION}
use Rattle.gsi_word.specs.declared.index.TheConstants.{VERTICAL_ANGLE, CODE_INFORMATION}
use Rattle.refusal_places.specs.Numbers.{begins_with, number_after}
use Rattle.refusal_places.specs.declared.meant.Meant.{Meant}
use Rattle.refusal_places.specs.declared.meant.Meant.TheVariants.{Byte, Word, Index}

-- What stands from a place on; without one, nothing.
abbrev pub from : Option ℕ → List ℕ → List ℕ
from (Some at) text = drop at text
from None text = []

-- What stands after the digits that a text begins with.
abbrev pub after_digits : List ℕ → List ℕ
after_digits text = from (position (λ b. not (is_ascii_digit b)) text) text

-- A text without these words, where it begins with them.
abbrev pub without : List ℕ → List ℕ → List ℕ
without words text = if begins_with words text then drop (length words) text else text

-- The fault that stands in the line of a refusal after the number of its block: its name, and what
-- it carries.
abbrev pub fault_in : List ℕ → List ℕ
fault_in line =
    without (codes "mark: ")
    (without (codes ": ") (after_digits (without (codes "refused: block ") line)))

-- Whether a fault speaks of the target that is read, word 11: which one it is, or when it is read.
abbrev pub is_of_target : List ℕ → Bool
is_of_target fault =
    begins_with (codes "TooManyTargets") fault || (begins_with (codes "ReadTwice") fault
    || (begins_with (codes "FaceMissing") fault || (begins_with (codes "Order") fault
    || (begins_with (codes "EndsElsewhere") fault || (begins_with (codes "PairAfter") fault
    || (begins_with (codes "OtherTargets") fault || begins_with (codes "SightsItself") fault))))))

-- Whether it speaks of the direction, word 21.
abbrev pub is_of_direction : List ℕ → Bool
is_of_direction fault =
    begins_with (codes "WordTwice 21") fault || (begins_with (codes "Hz ") fault
    || (begins_with (codes "FaceTwice") fault || begins_with (codes "TwoC") fault))

-- Whether it speaks of the zenith angle, word 22.
abbrev pub is_of_zenith : List ℕ → Bool
is_of_zenith fault =
    begins_with (codes "WordTwice 22") fault || (begins_with (codes "Zenith ") fault
    || (begins_with (codes "FaceUnclear") fault || (begins_with (codes "FirstFace") fault
    || begins_with (codes "TwoI") fault)))

-- Whether it speaks of the name of a station or the number of a set, word 42.
abbrev pub is_of_information : List ℕ → Bool
is_of_information fault =
    begins_with (codes "WordTwice 42") fault || (begins_with (codes "SetNumber") fault
    || (begins_with (codes "StationTwice") fault || begins_with (codes "SetTwice") fault))

-- The index of the word that a fault speaks of.
abbrev pub index_meant : List ℕ → Option ℕ
index_meant fault =
    if is_of_target fault then Some POINT_NUMBER else
    (if is_of_direction fault then Some HORIZONTAL_DIRECTION else
    (if is_of_zenith fault then Some VERTICAL_ANGLE else
    (if is_of_information fault then Some CODE_INFORMATION else None)))

-- The byte of a number, or the word of one, that has not the form of its place.
abbrev pub numbered_meant : List ℕ → Option Meant
numbered_meant fault =
    option_or (option_map Byte (number_after (codes "Byte ") fault))
    (option_or (option_map Word (number_after (codes "Word ") fault))
    (if begins_with (codes "FirstWord") fault then Some (Word 1) else None))

-- What a fault speaks of: no part of the line by itself, where it is none of these.
abbrev pub meant_by : List ℕ → Option Meant
meant_by fault = option_or (numbered_meant fault) (option_map Index (index_meant fault))

-- What the line of a refusal of a block speaks of.
abbrev pub meant_in : List ℕ → Option Meant
meant_in line = meant_by (fault_in line)
