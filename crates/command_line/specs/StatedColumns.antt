-- The columns of a table that the text of `--columns` states: two numbers, as `2,6`, or two titles,
-- as `Target,Hz`.
use Rattle.std.specs.Prelude.{◌≡◌, ◌<◌, ◌==◌, ◌&&◌, ℕ, Bool, true, not, List, length, Some}
use Rattle.std.specs.Char.{is_ascii_digit}
use Rattle.std.specs.List.{after_first, before_first, list_all, position_or_len}
use Rattle.direction_table.specs.StatedColumns.{stated_columns}
use Rattle.command_line.specs.declared.request.ColumnsStated.{ColumnsStated}
use Rattle.command_line.specs.declared.request.ColumnsStated.TheVariants as columns

-- Whether a byte is a comma.
abbrev pub is_comma : ℕ → Bool
is_comma byte = byte == 44

-- Whether a text can be stated as a title: it is not empty, it has no comma, and it is no whole
-- number, which is that of a column.
abbrev pub is_title : List ℕ → Bool
is_title text =
    not (list_all is_ascii_digit text) && list_all (λ byte. not (is_comma byte)) text

-- A text states these two titles, with a comma between them.
pub record StatesTitles (text targets directions : List ℕ) : Type 0 where
  pub has_comma : position_or_len is_comma text < length text
  pub targets_are : targets ≡ before_first is_comma text
  pub directions_are : directions ≡ after_first is_comma text
  pub of_targets : is_title targets ≡ true
  pub of_directions : is_title directions ≡ true

-- A text states these columns, by numbers or by titles.
abbrev pub StateColumns : List ℕ → ColumnsStated → Type 0
StateColumns text (columns.Numbers pair) = stated_columns text ≡ Some pair
StateColumns text (columns.Titles targets directions) =
    StatesTitles text targets.now directions.now

-- A text states none.
abbrev pub StateNoColumns : List ℕ → Type 0
StateNoColumns text = (columns : ColumnsStated) → ¬ StateColumns text columns
