-- What is told of a part.
use Rattle.std.proofs.Common.{◌≡◌, ◌∷◌, ◌<◌, List, ℕ, [], arith, length, refl}
use Rattle.book_answers.specs.Notes.{line_of, named_line}

-- of no byte nothing
pub named_none : (name line : List ℕ) → length line ≡ 0 → named_line name line ≡ []
named_none name [] none = refl
named_none name (x ∷ xs) none = absurd (omega (arith, none))

-- a line has the name of its station
pub named_some : (name line : List ℕ) → 0 < length line → named_line name line ≡ line_of name line
named_some name [] some = absurd (omega (arith, some))
named_some name (x ∷ xs) some = refl
