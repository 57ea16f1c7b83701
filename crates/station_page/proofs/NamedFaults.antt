-- A number that stands in the line of a refusal, and what comes after it.
use Rattle.std.proofs.Common.{◌≡◌, ℕ, ◌<◌, ◌^◌, List, [], ◌∷◌, ◌++◌, Some, refl, ap, ◌∙◌}
use Rattle.std.proofs.Common.{append_assoc, decimal}
use Rattle.refusal_places.specs.Numbers.{first_digits, number_of}
use Rattle.refusal_places.proofs.NamedNumbers.{read_back}

-- The number is the last thing of the line.
pub last : (n : ℕ) → n < 10 ^ 10 → number_of (first_digits (decimal n ++ 10 ∷ [])) ≡ Some n
last n small = read_back n 10 [] small refl

-- A colon, a name and what the fault carries come after it.
pub followed : (n : ℕ) (name carried : List ℕ) → n < 10 ^ 10
    → number_of (first_digits ((((decimal n ++ 58 ∷ 32 ∷ []) ++ name) ++ carried) ++ 10 ∷ []))
    ≡ Some n
followed n name carried small =
    ap (λ (l : List ℕ). number_of (first_digits l))
    (ap (λ (l : List ℕ). (l ++ carried) ++ 10 ∷ []) (append_assoc (decimal n) (58 ∷ 32 ∷ []) name)
    ∙ ap (λ (l : List ℕ). l ++ 10 ∷ []) (append_assoc (decimal n) (58 ∷ 32 ∷ name) carried)
    ∙ append_assoc (decimal n) (58 ∷ 32 ∷ (name ++ carried)) (10 ∷ []))
    ∙ read_back n 58 (32 ∷ ((name ++ carried) ++ 10 ∷ [])) small refl

-- A colon and a text come after it, which ends the line.
pub ended : (n : ℕ) (text : List ℕ) → n < 10 ^ 10
    → number_of (first_digits ((decimal n ++ 58 ∷ 32 ∷ []) ++ text)) ≡ Some n
ended n text small =
    ap (λ (l : List ℕ). number_of (first_digits l))
    (append_assoc (decimal n) (58 ∷ 32 ∷ []) text) ∙ read_back n 58 (32 ∷ text) small refl
