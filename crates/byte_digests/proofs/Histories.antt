-- What a digesting source gave.
use Rattle.std.proofs.Common.{ℕ, suc, List, [], Option, Bool}
use Rattle.byte_digests.specs.Digesting.{reader_of, hasher_of, histories}
use Rattle.byte_digests.specs.declared.digesting.Digesting.{Digesting}
use Rattle.byte_ends.specs.Source.{Told, HasGiven, reader_change}
use Rattle.sha2.specs.Hashers.{Holds256}

-- What it gave, the reader that it asks gave, and its hasher holds it, where it held nothing
-- before.
pub digested : {R : Type 0} (told : R → Option Told) (failed : R → Bool)
    (gave : R → ℕ → List ℕ → Type 0) (old new : Digesting R) (bytes : List ℕ)
    → Holds256 (hasher_of old) []
    → HasGiven (reader_change (λ d. told (reader_of d)) (λ d. failed (reader_of d))
    (histories gave) old new) bytes
    → HasGiven (reader_change told failed gave (reader_of old) (reader_of new)) bytes
    × Holds256 (hasher_of new) bytes
digested told failed gave old new bytes none p = (
  record { adds = λ history given h. p.adds (suc history) given h; might = p.might },
  p.adds 0 [] none,
)
