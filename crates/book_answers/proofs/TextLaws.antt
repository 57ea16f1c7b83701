-- Texts, line by line and station after station.
use Rattle.std.proofs.Common.{◌≡◌, ◌∙◌, ◌++◌, ◌∷◌, ◌+◌, ◌<◌, ◌==◌, List, ℕ, [], ap, append_assoc}
use Rattle.std.proofs.Common.{add-one, drop, drop-cons, false, get_or, length, refl, sym, true}
use Rattle.std.specs.Prelude.{Bool, if◌then◌else◌}
use Rattle.std.proofs.lemmas.List.{append-nil}
use Rattle.book_answers.specs.Together.{after_line, behind, piece, pieces}
use Rattle.book_answers.specs.declared.arrangement.Arrangement.{Arrangement}

-- A text from a place is the byte at this place and what stands after it.
from_here : (text : List ℕ) (i : ℕ) → i < length text
    → drop i text ≡ get_or text i 0 ∷ drop (i + 1) text
from_here text i inside =
    drop-cons text i 0 inside ∙ ap (λ (k : ℕ). get_or text i 0 ∷ drop k text) (sym (add-one i))

-- A line feed ends the first line; no other byte does.
ended : (b : ℕ) (text : List ℕ) → (b == 10) ≡ true → after_line (b ∷ text) ≡ text
unfolding after_line
ended b text e = rw e refl

not_ended : (b : ℕ) (text : List ℕ) → (b == 10) ≡ false → after_line (b ∷ text) ≡ after_line text
unfolding after_line
not_ended b text e = rw e refl

-- Where a line ends, what stands after it is what stands after the first line from there.
pub ends_here : (text : List ℕ) (i : ℕ) → i < length text → (get_or text i 0 == 10) ≡ true
    → after_line (drop i text) ≡ drop (i + 1) text
ends_here text i inside e =
    ap after_line (from_here text i inside) ∙ ended (get_or text i 0) (drop (i + 1) text) e

-- Where none ends, it is what stands after it from the next place.
pub ends_later : (text : List ℕ) (i : ℕ) → i < length text → (get_or text i 0 == 10) ≡ false
    → after_line (drop i text) ≡ after_line (drop (i + 1) text)
ends_later text i inside e =
    ap after_line (from_here text i inside) ∙ not_ended (get_or text i 0) (drop (i + 1) text) e

-- A text with a front before each of its lines, by its first byte.
behind_first : (starts : Bool) (front text : List ℕ) (b : ℕ)
    → behind starts front (b ∷ text)
    ≡ (if starts then front else []) ++ (b ∷ behind (b == 10) front text)
unfolding behind
behind_first starts front text b = refl

-- The same from a place.
behind_at : (starts : Bool) (front text : List ℕ) (i : ℕ) → i < length text
    → behind starts front (drop i text)
    ≡ (if starts then front else [])
    ++ (get_or text i 0 ∷ behind (get_or text i 0 == 10) front (drop (i + 1) text))
behind_at starts front text i inside =
    ap (behind starts front) (from_here text i inside)
    ∙ behind_first starts front (drop (i + 1) text) (get_or text i 0)

module _ (a : Arrangement) where
  -- One more station adds its own after those that come after the first.
  pub more_after : (xs : List (List ℕ × List ℕ)) (x : List ℕ × List ℕ)
      → pieces a false (xs ++ x ∷ []) ≡ pieces a false xs ++ piece a false x
  unfolding pieces
  more_after [] x = append-nil (piece a false x)
  more_after (y ∷ ys) x =
      ap (λ (t : List ℕ). piece a false y ++ t) (more_after ys x)
      ∙ sym (append_assoc (piece a false y) (pieces a false ys) (piece a false x))

  -- The first station adds its own alone,
  pub first_alone : (x : List ℕ × List ℕ)
      → pieces a true (x ∷ []) ≡ pieces a true [] ++ piece a true x
  unfolding pieces
  first_alone x = append-nil (piece a true x)

  -- and each other one after those before it.
  pub more_pieces : (y : List ℕ × List ℕ) (ys : List (List ℕ × List ℕ)) (x : List ℕ × List ℕ)
      → pieces a true ((y ∷ ys) ++ x ∷ []) ≡ pieces a true (y ∷ ys) ++ piece a false x
  unfolding pieces
  more_pieces y ys x =
      ap (λ (t : List ℕ). piece a true y ++ t) (more_after ys x)
      ∙ sym (append_assoc (piece a true y) (pieces a false ys) (piece a false x))

-- A byte is added after the front of its line, if it starts one: so much is still to come.
pub added : (starts : Bool) (front text : List ℕ) (i : ℕ) (before fronted after whole : List ℕ)
    → i < length text → fronted ≡ before ++ (if starts then front else [])
    → after ≡ fronted ++ (get_or text i 0 ∷ [])
    → before ++ behind starts front (drop i text) ≡ whole
    → after ++ behind (get_or text i 0 == 10) front (drop (i + 1) text) ≡ whole
added starts front text i before fronted after whole inside put pushed held =
    let byte = get_or text i 0 in
    let rest = behind (byte == 10) front (drop (i + 1) text) in
    let own = if starts then front else [] in
    ap (λ (t : List ℕ). t ++ rest) (pushed ∙ ap (λ (t : List ℕ). t ++ (byte ∷ [])) put)
    ∙ append_assoc (before ++ own) (byte ∷ []) rest
    ∙ append_assoc before own (byte ∷ rest)
    ∙ ap (λ (t : List ℕ). before ++ t) (sym (behind_at starts front text i inside))
    ∙ held

-- Nothing is to come after the last byte.
pub behind_none : (starts : Bool) (front text whole : List ℕ) → text ++ behind starts front [] ≡ whole
    → text ≡ whole
unfolding behind
behind_none starts front text whole held = sym (append-nil text) ∙ held
