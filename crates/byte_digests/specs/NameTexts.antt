-- The name of a file where it stands on a line of a text that people read. Beside the bytes that the
-- line of a digest escapes, a control byte is written as a code, so that no name moves what a
-- terminal shows by a control byte of ASCII.
use Rattle.std.specs.Prelude.{ℕ, Bool, false, List, [], ◌∷◌, ◌++◌, ◌==◌, ◌||◌, if◌then◌else◌}
use Rattle.std.specs.Prelude.{nat_lt}
use Rattle.std.specs.List.{list_any, flat_map}
use Rattle.byte_digests.specs.DigestLines.{escaped, is_escaped}
use Rattle.byte_digests.specs.declared.digest_line.TheConstants.{BACKSLASH, BLANK}
use Rattle.byte_digests.specs.declared.name_text.TheConstants.{DELETE, LETTER_X}
use Rattle.hex.specs.Hex.{encode_lower}

-- Whether a byte of a name is written as a code: a control byte, but those that have an escape of
-- their own.
abbrev pub is_coded : ℕ → Bool
is_coded byte = if is_escaped byte then false else nat_lt byte BLANK || (byte == DELETE)

-- Its code: a backslash, the letter x, and two digits.
abbrev pub code_of : ℕ → List ℕ
code_of byte = BACKSLASH ∷ LETTER_X ∷ encode_lower (byte ∷ [])

-- A byte of a name, as the text has it.
abbrev pub shown : ℕ → List ℕ
shown byte = if is_coded byte then code_of byte else escaped byte

-- What the name begins with: a backslash where a byte of it does not stand for itself.
abbrev pub name_mark : List ℕ → List ℕ
name_mark name =
    if list_any is_escaped name || list_any is_coded name then BACKSLASH ∷ [] else []

-- The name of a file where it stands on a line of its own text: with its bytes escaped that have to
-- be, or written as codes, and then a backslash before it. So no name ends a line, and each is one
-- text.
abbrev pub name_text : List ℕ → List ℕ
name_text name = name_mark name ++ flat_map shown name
