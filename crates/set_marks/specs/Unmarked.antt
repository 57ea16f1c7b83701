-- A copy without the code lines that were put in.
use Rattle.std.specs.Prelude.{◌≡◌, ℕ, Bool, false, ◌&&◌, ◌||◌, not, ◌==◌, nat_eq, codes}
use Rattle.std.specs.Prelude.{List, [], ◌∷◌, filter, if◌then◌else◌, length, ◌<◌, slice_index}
use Rattle.std.specs.List.{flat_map, starts_with}
use Rattle.gsi_file.specs.Parts.{is_line_end}
use Rattle.set_marks.specs.declared.mark.Mark.{Mark}
use Rattle.set_marks.specs.Copies.{BeginsLine}

-- Whether these bytes begin with a line feed.
abbrev pub begins_with_feed : List ℕ → Bool
begins_with_feed [] = false
begins_with_feed (b ∷ bytes) = b == 10

-- Whether a line ends with this byte, where these come after it: at a line feed, and at a carriage
-- return with no line feed after it.
abbrev pub ends_line : ℕ → List ℕ → Bool
ends_line b after = is_line_end b && not (b == 13 && begins_with_feed after)

-- A byte more at the front of the first line.
abbrev pub with_first : ℕ → List (List ℕ) → List (List ℕ)
with_first b [] = (b ∷ []) ∷ []
with_first b (line ∷ lines) = (b ∷ line) ∷ lines

-- The lines, each with what ends it: a carriage return and a line feed, or one of both.
abbrev pub whole_lines : List ℕ → List (List ℕ)
whole_lines [] = []
whole_lines (b ∷ bytes) =
    if ends_line b bytes then (b ∷ []) ∷ whole_lines bytes else with_first b (whole_lines bytes)

-- Whether a line begins as those that are put in: with `41....`, or with `*41....`.
abbrev pub is_put_in : List ℕ → Bool
is_put_in line =
    starts_with nat_eq line (codes "41....") || starts_with nat_eq line (codes "*41....")

-- The bytes without each line that begins so.
abbrev pub unmarked : List ℕ → List ℕ
unmarked bytes = flat_map (λ line. line) (filter (λ line. not (is_put_in line)) (whole_lines bytes))

-- At the place of a code line begins a line that has a byte.
pub record BeginsSomeLine (bytes : List ℕ) (m : Mark) : Type 0 where
  pub begins : BeginsLine bytes m
  pub inside : m.at < length bytes
  pub some_byte : is_line_end (slice_index bytes m.at) ≡ false
