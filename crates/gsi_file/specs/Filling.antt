-- What filling the buffer does.
use Rattle.std.specs.Prelude.{◌≡◌, ℕ, ◌+◌, List, ◌++◌, length, take, Result, Ok, Err, MatchResult}
use Rattle.byte_ends.specs.Source.{Told, Gives, Fails}

-- So many bytes of the source came after those in hand.
pub record Grows (old new : Told) (hand hand' : List ℕ) (n : ℕ) : Type 0 where
  pub given : List ℕ
  pub now : hand' ≡ hand ++ given
  pub count : length given ≡ n
  pub told : Gives old new given 1

-- What reading after the first bytes of a buffer did.
abbrev pub ReadsAfter : {E : Type 0} → Told → Told → ℕ → List ℕ → List ℕ → Result ℕ E → Type 0
ReadsAfter old new held buf buf' r = MatchResult r
    (λ n. Grows old new (take held buf) (take (held + n) buf') n)
    (λ _. (take held buf' ≡ take held buf) × Fails old new)

-- What reading after the bytes in hand did.
abbrev pub Fills : {E : Type 0} → Told → Told → List ℕ → List ℕ → Result ℕ E → Type 0
Fills old new hand hand' (Ok n) = Grows old new hand hand' n
Fills old new hand hand' (Err e) = (hand' ≡ hand) × Fails old new
