-- What a line of a table says of a station.
use Rattle.std.specs.Prelude.{◌==◌, ◌||◌, ℕ, Bool, List, [], ◌∷◌, ◌++◌, drop, length}
use Rattle.std.specs.Prelude.{Option, Some, None, is_some, nat_eq, if◌then◌else◌}
use Rattle.std.specs.List.{starts_with}

-- A comma, a semicolon or a tab stands between the name of a station and what is said of it.
abbrev pub is_separator : ℕ → Bool
is_separator byte = (byte == 44) || ((byte == 59) || (byte == 9))

-- What stands after the separator at the beginning of a text, where it begins with one.
abbrev pub after_separator : List ℕ → Option (List ℕ)
after_separator [] = None
after_separator (byte ∷ said) = if is_separator byte then Some said else None

-- What a line has after this front and a separator, where it begins with them.
abbrev pub after_front : List ℕ → List ℕ → Option (List ℕ)
after_front front line =
    if starts_with nat_eq line front then after_separator (drop (length front) line) else None

-- the byte before and after a name that is quoted
abbrev pub quote : ℕ
quote = 34

-- A name with each quote of it doubled,
unfoldable pub doubled : List ℕ → List ℕ
doubled [] = []
doubled (byte ∷ name) =
    (if byte == quote then quote ∷ [] else []) ++ (byte ∷ doubled name)

-- and in double quotes.
abbrev pub quoted : List ℕ → List ℕ
quoted name = quote ∷ (doubled name ++ (quote ∷ []))

-- the first of two that is there
abbrev pub first_there : Option (List ℕ) → Option (List ℕ) → Option (List ℕ)
first_there None second = second
first_there (Some first) second = Some first

-- What a line says of the station of this name: what stands after the name, which may be in double
-- quotes, and a separator. `S,T,0` says something of `S`, and of `S,T` if that is a name too.
abbrev pub said_of : List ℕ → List ℕ → Option (List ℕ)
said_of name line = first_there (after_front name line) (after_front (quoted name) line)

-- A line is of the station of this name where it says something of it.
abbrev pub is_of : List ℕ → List ℕ → Bool
is_of name line = is_some (said_of name line)
