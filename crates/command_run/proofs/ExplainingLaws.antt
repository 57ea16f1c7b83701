-- What explains a fault.
use Rattle.std.specs.Prelude.{ℕ, List, Option, Some, None}
use Rattle.std.specs.Borrow.{Bor}
use Rattle.std.proofs.Common.{refl}
use Rattle.station_explain.specs.Explaining.{Explains, list_text, meaning_text}
use Rattle.station_explain.specs.Table.{Explanation}

-- There is always a text that explains.
pub explained : (table : List (Bor (List Explanation))) (fault : Option Explanation)
    → (text : List ℕ) × Explains table fault text
explained table (Some e) = (meaning_text e, refl)
explained table None = (list_text table, refl)
