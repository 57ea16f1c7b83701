-- Texts that are added one after another.
use Rattle.std.proofs.Common.{◌≡◌, ℕ, List, ◌++◌, append_assoc, ap, ◌∙◌, refl}

-- Two texts after one.
pub two_joined : (text a b first second : List ℕ) → first ≡ text ++ a → second ≡ first ++ b
    → second ≡ text ++ (a ++ b)
two_joined text a b first second ea eb =
    eb ∙ ap (λ (t : List ℕ). t ++ b) ea ∙ append_assoc text a b

-- Three texts after one.
pub three_joined : (text a b c first second third : List ℕ) → first ≡ text ++ a
    → second ≡ first ++ b → third ≡ second ++ c → third ≡ text ++ (a ++ (b ++ c))
three_joined text a b c first second third ea eb ec =
    ec ∙ ap (λ (t : List ℕ). t ++ c) (eb ∙ ap (λ (t : List ℕ). t ++ b) ea)
    ∙ append_assoc (text ++ a) b c ∙ append_assoc text a (b ++ c)

-- Four texts after one.
pub four_joined : (text a b c d first second third fourth : List ℕ) → first ≡ text ++ a
    → second ≡ first ++ b → third ≡ second ++ c → fourth ≡ third ++ d
    → fourth ≡ text ++ (a ++ (b ++ (c ++ d)))
four_joined text a b c d first second third fourth ea eb ec ed =
    ed ∙ ap (λ (t : List ℕ). t ++ d) ec ∙ append_assoc second c d
    ∙ three_joined text a b (c ++ d) first second (second ++ (c ++ d)) ea eb refl
