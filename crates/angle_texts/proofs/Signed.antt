-- The text of a size, added to that of its sign.
use Rattle.std.proofs.Common.{◌≡◌, ◌++◌, ◌∙◌, List, ℕ, Result, Ok, Err, OnOk, ap, append_assoc}
use Rattle.std.proofs.Common.{subst}
use Rattle.std.specs.Prelude.{OnErr}
use Rattle.direction_table.specs.Beginnings.{IsBegun}
use Rattle.direction_table.proofs.Begun.{of_second}

module _ {T E : Type 0} (text : ℕ → List ℕ) (sign old signed new : List ℕ) (size n : ℕ)
    (is_size : n ≡ size) (first : signed ≡ old ++ sign) where
  -- Where there was memory, both were added;
  pub size_added : (r : Result T E) → OnOk r (new ≡ signed ++ text n)
      → OnOk r (new ≡ old ++ (sign ++ text size))
  size_added (Ok x) rest =
      rest ∙ ap (λ (n : ℕ). signed ++ text n) is_size
      ∙ ap (λ (t : List ℕ). t ++ text size) first
      ∙ append_assoc old sign (text size)
  size_added (Err e) rest = tt

  -- and where it was refused, a beginning of them.
  pub size_begun : (r : Result T E) → OnErr r (IsBegun (text n) signed new)
      → OnErr r (IsBegun (sign ++ text size) old new)
  size_begun (Ok x) rest = tt
  size_begun (Err e) rest =
      of_second sign (text size) old signed new first
      (subst (λ (n : ℕ). IsBegun (text n) signed new) is_size rest)
