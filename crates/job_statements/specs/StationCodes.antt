-- The code that a text states as one whose blocks begin a station each.
use Rattle.std.specs.Prelude.{◌≡◌, ◌⊎◌, ℕ, List, codes}
use Rattle.adjust_kernel.specs.Names.{IsName}
use Rattle.gsi_word.specs.Names.{name_of}

-- The codes that are put into a copy, so that no other block has them.
abbrev pub IsPutIn : List ℕ → Type 0
IsPutIn code = (code ≡ codes "10") ⊎ (code ≡ codes "20") ⊎ (code ≡ codes "30")

-- A text states this code: it is one as a name is, taken without the zeros before it, and none of
-- those that are put in.
abbrev pub IsStationCode : List ℕ → List ℕ → Type 0
IsStationCode text code = IsName text × (code ≡ name_of text) × ¬ (IsPutIn code)

-- A text states no such code.
abbrev pub IsNoStationCode : List ℕ → Type 0
IsNoStationCode text = ¬ (IsName text) ⊎ IsPutIn (name_of text)
