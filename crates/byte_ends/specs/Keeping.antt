-- A source that keeps the bytes that another gives.
use Rattle.std.specs.Prelude.{◌≡◌, ℕ, List, Option, IfSome, option_map}
use Rattle.byte_ends.specs.declared.keeping.Keeping.{Keeping}

-- The reader that it asks.
abbrev pub reader_under : {R : Type 0} → Keeping R → R
reader_under s = s.reader

-- All that it gave, where it has kept it all.
abbrev pub kept_by : {R : Type 0} → Keeping R → Option (List ℕ)
kept_by s = option_map (λ bytes. bytes.items) s.kept

-- It has given these bytes and no others, where it has kept them all.
abbrev pub HasKept : {R : Type 0} → Keeping R → List ℕ → Type 0
HasKept s given = IfSome (kept_by s) (λ bytes. given ≡ bytes)
