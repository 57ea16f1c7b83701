-- The pairs of equal sets, one set after another.
use Rattle.std.proofs.Common.{◌≡◌, ℕ, ◌+◌, List, [], ◌∷◌, ◌++◌, length, append_assoc, ap, ◌∙◌, arith}
use Rattle.std.proofs.lemmas.List.{length-append}
use Rattle.set_marks.specs.declared.equal_sets.Section.{Section}
use Rattle.set_marks.specs.declared.equal_sets.SetPair.{SetPair}
use Rattle.set_marks.specs.declared.sight.Sight.{Sight}
use Rattle.set_marks.specs.Divisions.{next_of, part, parts_at}
use Rattle.set_marks.specs.EqualSets.{pairs_from, pairs_with}
use Rattle.set_marks.specs.Sections.{section, sections}
use Rattle.set_marks.proofs.EqualLeast.{sections_more}

-- With the pairs of one set more.
pub next_pairs : (rs : List Sight) (pairs all : List SetPair) (ss : List Section) (s : Section)
    (end from : ℕ) (rest : List ℕ) → section rs s ≡ part from (next_of end rest) rs
    → pairs ++ pairs_from (length ss + 1) (sections rs ss) (parts_at end (from ∷ rest) rs) ≡ all
    → (pairs ++ pairs_with (length ss + 1) (section rs s) 1 (sections rs ss))
    ++ pairs_from (length (ss ++ s ∷ []) + 1) (sections rs (ss ++ s ∷ [])) (parts_at end rest rs)
    ≡ all
next_pairs rs pairs all ss s end from rest is e =
    let before : List (List Sight) = sections rs ss in
    let n = length-append ss (s ∷ []) in
    let number : length (ss ++ s ∷ []) + 1 ≡ length ss + 1 + 1 = omega (arith, n) in
    let more : sections rs (ss ++ s ∷ []) ≡ before ++ part from (next_of end rest) rs ∷ [] =
    sections_more rs ss s ∙ ap (λ (set : List Sight). before ++ set ∷ []) is in
    append_assoc pairs (pairs_with (length ss + 1) (section rs s) 1 before)
    (pairs_from (length (ss ++ s ∷ []) + 1) (sections rs (ss ++ s ∷ [])) (parts_at end rest rs))
    ∙ (λ i. pairs ++ (pairs_with (length ss + 1) (is i) 1 before
    ++ pairs_from (number i) (more i) (parts_at end rest rs))) ∙ e
