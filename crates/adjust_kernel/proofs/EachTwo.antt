-- Facts of each two elements of a list, one element at a time.
use Rattle.std.proofs.Common.{◌≡◌, ◌≢◌, ℕ, ◌+◌, ◌<◌, List, length, get_or, below_more, arith, sym}
use Rattle.std.proofs.Common.{◌∙◌}
use Rattle.std.proofs.lemmas.List.{get_or_default}

module _ {X : Type 0} where
  -- R holds of each element below this place and each later one below it.
  abbrev pub PairsBelow : (X → X → Type 0) → List X → ℕ → Type 0
  PairsBelow R xs n = (j : ℕ) → j < n → (i : ℕ) (d : X) → i < j → R (get_or xs i d) (get_or xs j d)

  -- One more element, of which R holds with each earlier one.
  pub pairs_more : (R : X → X → Type 0) (xs : List X) (n : ℕ) → PairsBelow R xs n
      → ((i : ℕ) (d : X) → i < n → R (get_or xs i d) (get_or xs n d)) → PairsBelow R xs (n + 1)
  pairs_more R xs n h new = below_more (λ j. (i : ℕ) (d : X) → i < j
      → R (get_or xs i d) (get_or xs j d)) n h new

  -- One more element, which is none of the earlier ones.
  pub another : (xs : List X) (n : ℕ) (x : X) → n < length xs → x ≡ get_or xs n x
      → ((i : ℕ) → i < n → get_or xs i x ≢ x) → PairsBelow (λ a b. a ≢ b) xs n
      → PairsBelow (λ a b. a ≢ b) xs (n + 1)
  another xs n x inside here none h = pairs_more (λ a b. a ≢ b) xs n h
      (λ i d below same. none i below (get_or_default xs i x d (omega arith) ∙ same
      ∙ get_or_default xs n d x inside ∙ sym here))
