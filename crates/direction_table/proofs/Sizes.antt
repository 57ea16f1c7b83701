-- The parts before and after the point of a number.
use Rattle.std.proofs.Common.{◌≡◌, ◌∙◌, ℕ, List, take, drop, ap, sym}
use Rattle.direction_table.specs.DecimalNumbers.{after_first, decimals_part, mark_of}
use Rattle.direction_table.specs.DecimalNumbers.{whole_part}

-- The parts of a text, with the place of its point.
pub record Parts (bytes front back decimals : List ℕ) (place : ℕ) : Type 0 where
  pub mark : place ≡ mark_of bytes
  pub before : front ≡ take place bytes
  pub after : back ≡ drop place bytes
  pub rest : decimals ≡ after_first back

module _ (bytes front back decimals : List ℕ) (place : ℕ)
    (p : Parts bytes front back decimals place) where
  pub whole-is : whole_part bytes ≡ front
  whole-is = sym (p.before ∙ ap (λ n. take n bytes) p.mark)

  pub decimals-is : decimals_part bytes ≡ decimals
  decimals-is = sym (p.rest ∙ ap after_first (p.after ∙ ap (λ n. drop n bytes) p.mark))
