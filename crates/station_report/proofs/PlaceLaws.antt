-- The texts of places, one after the other.
use Rattle.std.proofs.Common.{◌≡◌, ℕ, suc, ◌+◌, List, ◌++◌, append_assoc, ap, arith, sym, ◌∙◌}
use Rattle.std.proofs.Common.{FitsSigned, ℤ, to_z, of_z}
use Rattle.std.specs.Int.{w32}
use Rattle.std.proofs.lemmas.Int.{to_z-of_z}
use Rattle.station_report.specs.Columns.{each_place}

pub each_place-more : (n : ℕ) (text : ℕ → List ℕ)
    → each_place (n + 1) text ≡ each_place n text ++ text n
each_place-more n text =
    let e : n + 1 ≡ suc n = omega arith in ap (λ k. each_place k text) e

-- One place more, after those that stand after a beginning.
pub push_place : (first so_far more : List ℕ) (n : ℕ) (text : ℕ → List ℕ)
    → so_far ≡ first ++ each_place n text → more ≡ so_far ++ text n
    → more ≡ first ++ each_place (n + 1) text
push_place first so_far more n text p q =
    q ∙ ap (λ (t : List ℕ). t ++ text n) p
    ∙ append_assoc first (each_place n text) (text n)
    ∙ ap (λ t. first ++ t) (sym (each_place-more n text))

-- All places, once the last is passed.
pub all_places : (first whole : List ℕ) (n count : ℕ) (text : ℕ → List ℕ) → n ≡ count
    → whole ≡ first ++ each_place n text → whole ≡ first ++ each_place count text
all_places first whole n count text e p = p ∙ ap (λ k. first ++ each_place k text) e

-- Two texts added, and three.
pub two : (t0 t1 t2 a b : List ℕ) → t1 ≡ t0 ++ a → t2 ≡ t1 ++ b → t2 ≡ t0 ++ (a ++ b)
two t0 t1 t2 a b p q = q ∙ ap (λ (t : List ℕ). t ++ b) p ∙ append_assoc t0 a b

pub three : (t0 t1 t2 t3 a b d : List ℕ) → t1 ≡ t0 ++ a → t2 ≡ t1 ++ b → t3 ≡ t2 ++ d
    → t3 ≡ t0 ++ (a ++ (b ++ d))
three t0 t1 t2 t3 a b d p q r =
    two t0 t1 t3 a (b ++ d) p (two t1 t2 t3 b d q r)

-- A number of 32 bits that is passed on is the same number.
pub kept : {z w : ℤ} → z ≡ w → FitsSigned w32 z → to_z w32 (of_z w32 z) ≡ w
kept {z} same fits = to_z-of_z w32 z fits ∙ same
