-- Texts one after the other.
use Rattle.std.proofs.Common.{◌≡◌, ◌++◌, ℕ, List, append_assoc}

-- Four of them.
pub four : (t0 t1 t2 t3 t4 a b d e : List ℕ) → t1 ≡ t0 ++ a → t2 ≡ t1 ++ b → t3 ≡ t2 ++ d
    → t4 ≡ t3 ++ e → t4 ≡ t0 ++ (a ++ (b ++ (d ++ e)))
four t0 t1 t2 t3 t4 a b d e p q r s = rw (s, r, q, p) (simp append_assoc)
