-- The line of a file's digest, as `sha256sum` prints it and `sha256sum -c` reads it: its 64 digits,
-- two blanks, and the file's name. A name with a backslash, a line feed or a carriage return has
-- each of these escaped, and the line then begins with a backslash.
use Rattle.std.specs.Prelude.{ℕ, Bool, List, [], ◌∷◌, ◌++◌, ◌==◌, ◌||◌, if◌then◌else◌}
use Rattle.std.specs.List.{list_any, flat_map}
use Rattle.byte_digests.specs.declared.digest_line.TheConstants.{BACKSLASH, BLANK, LINE_FEED}
use Rattle.byte_digests.specs.declared.digest_line.TheConstants.{CARRIAGE_RETURN, LETTER_N}
use Rattle.byte_digests.specs.declared.digest_line.TheConstants.{LETTER_R}
use Rattle.hex.specs.Hex.{encode_lower}

-- Whether a byte of a name is escaped.
abbrev pub is_escaped : ℕ → Bool
is_escaped byte = (byte == BACKSLASH) || ((byte == LINE_FEED) || (byte == CARRIAGE_RETURN))

-- A byte of a name, as the line has it.
abbrev pub escaped : ℕ → List ℕ
escaped byte =
    if byte == BACKSLASH then BACKSLASH ∷ BACKSLASH ∷ []
    else if byte == LINE_FEED then BACKSLASH ∷ LETTER_N ∷ []
    else if byte == CARRIAGE_RETURN then BACKSLASH ∷ LETTER_R ∷ []
    else byte ∷ []

-- What a line begins with.
abbrev pub mark_of : List ℕ → List ℕ
mark_of name = if list_any is_escaped name then BACKSLASH ∷ [] else []

-- The digits of a digest, and the blanks after them.
abbrev pub digits_of : List ℕ → List ℕ
digits_of digest = encode_lower digest ++ (BLANK ∷ BLANK ∷ [])

-- The line of a digest and a name, with its line feed.
abbrev pub digest_line : List ℕ → List ℕ → List ℕ
digest_line digest name =
    mark_of name ++ (digits_of digest ++ (flat_map escaped name ++ (LINE_FEED ∷ [])))
