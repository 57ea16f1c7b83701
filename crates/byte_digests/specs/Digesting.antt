-- What a digesting source asks, and what it keeps of what that gave.
use Rattle.std.specs.Prelude.{ℕ, zero, suc, List}
use Rattle.byte_digests.specs.declared.digesting.Digesting.{Digesting}
use Rattle.sha2.specs.Hashers.{Holds256}
use Rattle.sha2.specs.declared.Sha256.{Sha256}

-- The reader that it asks.
abbrev pub reader_of : {R : Type 0} → Digesting R → R
reader_of d = d.reader

-- The hasher of what it gave.
abbrev pub hasher_of : {R : Type 0} → Digesting R → Sha256
hasher_of d = d.hasher

-- Its histories: first its own, by the message that its hasher holds, and then those of the reader
-- that it asks.
abbrev pub histories : {R : Type 0} → (R → ℕ → List ℕ → Type 0) → Digesting R → ℕ → List ℕ
    → Type 0
histories gave d zero given = Holds256 (hasher_of d) given
histories gave d (suc history) given = gave (reader_of d) history given
