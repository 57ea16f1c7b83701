-- The targets of a station of which a table states a direction: it may lack some.
use Rattle.std.specs.Prelude.{◌≡◌, ℕ, Bool, true, ◌||◌, nat_le, List, ℤ, Option, slice_index_or}
use Rattle.std.specs.List.{count_by, enumerate_from, filter_map, list_all}
use Rattle.std.specs.Option.{is_some, option_map}
use Rattle.adjust_kernel.specs.Residuals.{Choice}

-- the places of the stated targets among all, from 0 on
abbrev pub stated_places : List (Option ℤ) → List ℕ
stated_places stated = filter_map (λ t. option_map (λ _. t.0) t.1) (enumerate_from 0 stated)

-- what is stated of them, in their order
abbrev pub stated_directions : List (Option ℤ) → List ℤ
stated_directions stated = filter_map (λ direction. direction) stated

-- A choice of the targets at these places alone: the direction at each is that of the target there.
abbrev pub choice_at : List ℕ → Choice → Choice
choice_at places c = record c { direction = λ i. c.direction (slice_index_or places i 0) }

-- Enough targets are stated for differences: all, or two or more. The best rotation makes the
-- difference of a single one 0, whatever is stated of it.
abbrev pub is_enough : List (Option ℤ) → Bool
is_enough stated = list_all is_some stated || nat_le 2 (count_by is_some stated)

-- Enough are stated.
abbrev pub IsEnough : List (Option ℤ) → Type 0
IsEnough stated = is_enough stated ≡ true
