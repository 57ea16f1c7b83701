-- Writing piece by piece.
use Rattle.std.proofs.Common.{◌≡◌, ℕ, zero, suc, ◌+◌, ◌-◌, Bool, List, ◌++◌, take, drop, length}
use Rattle.std.proofs.Common.{Option, Some, None, sym, ap, ◌∙◌, append_assoc, arith}
use Rattle.std.proofs.lemmas.List.{take_rest}
use Rattle.std.proofs.Math.Seq.{take-add}
use Rattle.std.specs.Io.KnownBytes.{Appends}
use Rattle.byte_ends.specs.Sink.{flushed_after}

-- What appends one piece and then another appends both.
pub appends_then : (old now new : Option (List ℕ)) (a b c : List ℕ) → Appends old now a
    → Appends now new b → a ++ b ≡ c → Appends old new c
appends_then None now new a b c p q e = tt
appends_then (Some xs) None new a b c p q e = absurd p
appends_then (Some xs) (Some ys) None a b c p q e = absurd q
appends_then (Some xs) (Some ys) (Some zs) a b c p q e = q ∙ ap (λ (r : List ℕ). r ++ b) p
    ∙ append_assoc xs a b ∙ ap (λ (r : List ℕ). xs ++ r) e

-- The bytes up to a place and then n of the rest are the bytes up to n places further on.
pub take_piece : (k n : ℕ) (xs : List ℕ) → take k xs ++ take n (take (length xs - k) (drop k xs))
    ≡ take (k + n) xs
take_piece k n xs = ap (λ (r : List ℕ). take k xs ++ take n r) (take_rest xs k)
    ∙ sym (take-add k n xs)

-- Whether all is flushed after two pieces were taken is the same as after both at once.
pub flushed_then : (old : Bool) (k n : ℕ) → flushed_after (flushed_after old k) n
    ≡ flushed_after old (k + n)
flushed_then old zero n = let e : n ≡ 0 + n = omega arith in ap (flushed_after old) e
flushed_then old (suc k) zero = let e : suc k ≡ suc k + 0 = omega arith in
    ap (flushed_after old) e
flushed_then old (suc k) (suc n) = let e : suc (k + suc n) ≡ suc k + suc n = omega arith in
    ap (flushed_after old) e
