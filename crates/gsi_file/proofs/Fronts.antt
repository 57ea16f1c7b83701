-- The shortest first bytes that pass a test, after bytes that don't.
use Rattle.std.proofs.Common.{◌≡◌, ℕ, suc, ◌<◌, Bool, false, cond, List, [], ◌∷◌, ◌++◌, length}
use Rattle.std.proofs.Common.{take, Option, None, Some, refl, ap, ◌∙◌, arith}
use Rattle.std.specs.Option.{option_map}
use Rattle.std.specs.Prelude.{if◌then◌else◌}

-- The shortest first bytes that pass a test.
abbrev pub shortest_front : (List ℕ → Bool) → List ℕ → Option (List ℕ)
shortest_front p [] = if p [] then Some [] else None
shortest_front p (x ∷ xs) =
    if p [] then Some []
    else option_map (λ front. x ∷ front) (shortest_front (λ front. p (x ∷ front)) xs)

map_same : (o : Option (List ℕ)) → o ≡ option_map (λ f. f) o
map_same None = refl
map_same (Some f) = refl

map_beyond : (x : ℕ) (front : List ℕ) (o : Option (List ℕ))
    → option_map (λ f. x ∷ f) (option_map (λ f. front ++ f) o)
    ≡ option_map (λ f. x ∷ (front ++ f)) o
map_beyond x front None = refl
map_beyond x front (Some f) = refl

-- Tests that agree pass the same first bytes.
pub same_first : (p q : List ℕ → Bool) (xs : List ℕ) → ((f : List ℕ) → p f ≡ q f)
    → shortest_front p xs ≡ shortest_front q xs
same_first p q [] h = ap (λ b. cond b (Some []) None) (h [])
same_first p q (x ∷ xs) h =
    ap (λ b. cond b (Some []) (option_map (λ f. x ∷ f) (shortest_front (λ f. p (x ∷ f)) xs))) (h [])
    ∙ ap (λ o. cond (q []) (Some []) (option_map (λ f. x ∷ f) o))
    (same_first (λ f. p (x ∷ f)) (λ f. q (x ∷ f)) xs (λ f. h (x ∷ f)))

-- After bytes of which no shorter first bytes pass, the shortest that pass begin with them all.
pub first_after : (p : List ℕ → Bool) (front rest : List ℕ)
    → ((i : ℕ) → i < length front → p (take i front) ≡ false)
    → shortest_front p (front ++ rest) ≡ option_map (λ f. front ++ f)
    (shortest_front (λ f. p (front ++ f)) rest)
first_after p [] rest h = map_same (shortest_front p rest)
first_after p (x ∷ front) rest h =
    let here : p [] ≡ false = h 0 (omega arith) in
    ap (λ b. cond b (Some []) (option_map (λ f. x ∷ f)
    (shortest_front (λ f. p (x ∷ f)) (front ++ rest)))) here
    ∙ ap (option_map (λ f. x ∷ f)) (first_after (λ f. p (x ∷ f)) front rest
    (λ i lt. h (suc i) (omega arith)))
    ∙ map_beyond x front (shortest_front (λ f. p (x ∷ (front ++ f))) rest)
