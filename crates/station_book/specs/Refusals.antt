-- What a refusal says.
use Rattle.std.specs.Prelude.{◌≡◌, ℕ, ⊤, Bool, true, Option, Some, None}
use Rattle.station_book.specs.declared.fault.BookFault.{BookFault}
use Rattle.station_book.specs.declared.fault.BookFault.TheVariants.{At, Memory as NoMemory}
use Rattle.station_book.specs.declared.fault.BookKind.{BookKind}
use Rattle.station_book.specs.declared.fault.Refusal.{Refusal}
use Rattle.station_book.specs.declared.fault.Refusal.TheVariants.{Fault, Memory}

-- the fault is this one; where memory ran out there is none
abbrev pub ExplainsRefusal : Option BookKind → Refusal → Type 0
ExplainsRefusal fault (Fault k) = fault ≡ Some k
ExplainsRefusal fault Memory = fault ≡ None

-- the same, with the number of the block
abbrev pub ExplainsFault : ℕ → Option BookKind → BookFault → Type 0
ExplainsFault n fault (At m k) = (m ≡ n) × (fault ≡ Some k)
ExplainsFault n fault NoMemory = fault ≡ None

-- memory ran out only where some is needed
abbrev pub WantsOnlyAt : Bool → BookFault → Type 0
WantsOnlyAt needed (At m k) = ⊤
WantsOnlyAt needed NoMemory = needed ≡ true
