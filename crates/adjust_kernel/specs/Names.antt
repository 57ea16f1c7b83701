-- Names: the bytes of a station's or a target's name.
use Rattle.std.specs.Prelude.{ℕ, List, ◌≤◌, ◌++◌, ◌-◌, length, replicate, All}
use Rattle.adjust_kernel.specs.declared.bounds.TheConstants.{LONGEST_NAME}
use Rattle.adjust_kernel.specs.declared.name.TheConstants.{FIRST_PRINTABLE, LAST_PRINTABLE}

-- A byte from the blank to the tilde.
abbrev pub IsPrintable : ℕ → Type 0
IsPrintable byte = (FIRST_PRINTABLE ≤ byte) × (byte ≤ LAST_PRINTABLE)

-- The bytes of a name: at least one, not too many, each printable (profile: the content of a word,
-- without its leading zeros, is such a name).
pub record IsName (bytes : List ℕ) : Type 0 where
  pub some : 1 ≤ length bytes
  pub short : length bytes ≤ LONGEST_NAME
  pub printable : All IsPrintable bytes

-- How a name is kept: its bytes, then zeros up to the longest name.
abbrev pub padded : List ℕ → List ℕ
padded bytes = bytes ++ replicate (LONGEST_NAME - length bytes) 0
