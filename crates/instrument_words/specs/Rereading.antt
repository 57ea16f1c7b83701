-- A source that keeps what another gives.
use Rattle.std.specs.Prelude.{◌≡◌, ℕ, zero, suc, List, Option, IfSome, option_map}
use Rattle.instrument_words.specs.declared.rereading.Rereading.{Rereading}

-- The reader that it asks.
abbrev pub reader_of : {R : Type 0} → Rereading R → R
reader_of s = s.reader

-- All that it gave, where it has kept it all.
abbrev pub kept_by : {R : Type 0} → Rereading R → Option (List ℕ)
kept_by s = option_map (λ bytes. bytes.items) s.kept

-- It has given these bytes and no others, where it has kept them all.
abbrev pub HasKept : {R : Type 0} → Rereading R → List ℕ → Type 0
HasKept s given = IfSome (kept_by s) (λ bytes. given ≡ bytes)

-- Its histories: first its own, by the bytes that it has kept, and then those of the reader that it
-- asks.
abbrev pub histories : {R : Type 0} → (R → ℕ → List ℕ → Type 0) → Rereading R → ℕ → List ℕ
    → Type 0
histories gave s zero given = HasKept s given
histories gave s (suc history) given = gave (reader_of s) history given
