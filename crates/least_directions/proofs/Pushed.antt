-- Lists that are made element by element: what each element is at its place.
use Rattle.std.proofs.Common.{ℕ, ◌<◌, List, [], ◌∷◌, ◌++◌, length, get_or, arith, below_more}
use Rattle.std.proofs.Common.{length-append, refl}
use Rattle.std.proofs.lemmas.List.{get_or_append_left, get_or_push}

-- A list with one more element, which has the property at its place, has it at each place.
pub one_more : (P : ℕ → ℕ → Type 0) (made : List ℕ) (one : ℕ)
    → ((t : ℕ) → t < length made → P t (get_or made t 0)) → P (length made) one
    → (t : ℕ) → t < length (made ++ (one ∷ [])) → P t (get_or (made ++ (one ∷ [])) t 0)
one_more P made one all last t h =
    let more = length-append made (one ∷ []) in
    below_more (λ n. P n (get_or (made ++ (one ∷ [])) n 0)) (length made)
    (λ n l. rw (get_or_append_left made (one ∷ []) 0 n l) (all n l))
    (rw (get_or_push made one 0 (length made) refl) last) t (omega arith)
