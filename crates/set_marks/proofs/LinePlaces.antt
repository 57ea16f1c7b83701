-- Code lines by the places where the lines of their file begin.
use Rattle.std.proofs.Common.{◌≡◌, ℕ, zero, suc, ◌+◌, ◌<◌, ◌≤◌, Bool, true, false, List, [], ◌∷◌}
use Rattle.std.proofs.Common.{◌++◌, length, drop, map, sym, ap, subst, ◌∙◌, append_assoc, arith}
use Rattle.std.proofs.Common.{refl, drop-cons, add-one}
use Rattle.std.specs.Prelude.{slice_get, slice_index, if◌then◌else◌, None, Some}
use Rattle.std.proofs.lemmas.Bool.{ne_eqb}
use Rattle.gsi_file.specs.Parts.{is_line}
use Rattle.gsi_file.specs.LinePlaces.{places_from, with_place}
use Rattle.set_marks.specs.declared.mark.BlockMark.{BlockMark}
use Rattle.set_marks.specs.declared.mark.Mark.{Mark}
use Rattle.set_marks.specs.LinePlaces.{placed_by}
use Rattle.set_marks.specs.Placing.{placed_at, placed_from, marks_of_block, marks_after}

-- Code lines are placed by the places of all lines.
placed_either : (b : Bool) (bytes : List ℕ) (at number : ℕ) (ms : List BlockMark)
    (later : List ℕ) (X Y : List Mark)
    → X ≡ placed_by bytes (suc number) later (marks_after (suc number) ms)
    → Y ≡ placed_by bytes number later ms
    → (if b then map (placed_at bytes at) (marks_of_block (suc number) ms) ++ X else Y)
    ≡ placed_by bytes number (with_place b at later) ms
placed_either true bytes at number ms later X Y e f =
    ap (λ (l : List Mark). map (placed_at bytes at) (marks_of_block (suc number) ms) ++ l) e
placed_either false bytes at number ms later X Y e f = f

pub placed_is : (bytes : List ℕ) (at number : ℕ) (ms : List BlockMark) (ps : List (List ℕ))
    → placed_from bytes at number ms ps ≡ placed_by bytes number (places_from at ps) ms
placed_is bytes at number ms [] = refl
placed_is bytes at number ms (part ∷ ps) =
    placed_either (is_line part) bytes at number ms (places_from (at + length part + 1) ps) _ _
    (placed_is bytes (at + length part + 1) (suc number) (marks_after (suc number) ms) ps)
    (placed_is bytes (at + length part + 1) number ms ps)

-- No code line, no place.
pub placed_none : (bytes : List ℕ) (number : ℕ) (bs : List ℕ) → placed_by bytes number bs [] ≡ []
placed_none bytes number [] = refl
placed_none bytes number (b ∷ bs) = placed_none bytes (suc number) bs

-- Over a line that the first code line is not of.
over_line : (bytes : List ℕ) (number b : ℕ) (bs : List ℕ) (m : BlockMark) (ms : List BlockMark)
    → (m.block ≡ suc number → ⊥)
    → placed_by bytes number (b ∷ bs) (m ∷ ms) ≡ placed_by bytes (suc number) bs (m ∷ ms)
over_line bytes number b bs m ms other =
    let e = ne_eqb m.block (suc number) other in
    ap (λ (t : Bool). map (placed_at bytes b)
    (if t then m ∷ marks_of_block (suc number) ms else [])
    ++ placed_by bytes (suc number) bs (if t then marks_after (suc number) ms else m ∷ ms)) e

-- The first code line is of a line that was passed: no code line gets a place.
pub placed_past : (bytes : List ℕ) (number : ℕ) (bs : List ℕ) (m : BlockMark) (ms : List BlockMark)
    → m.block ≤ number → placed_by bytes number bs (m ∷ ms) ≡ []
placed_past bytes number [] m ms le = refl
placed_past bytes number (b ∷ bs) m ms le =
    over_line bytes number b bs m ms (λ e. omega (arith, e, le))
    ∙ placed_past bytes (suc number) bs m ms (omega (arith, le))

-- Over the lines before that of the first code line.
pub placed_skip : (bytes : List ℕ) (number k : ℕ) (bs : List ℕ) (m : BlockMark)
    (ms : List BlockMark) → number + k < m.block
    → placed_by bytes number bs (m ∷ ms) ≡ placed_by bytes (number + k) (drop k bs) (m ∷ ms)
placed_skip bytes number zero bs m ms lt =
    ap (λ (n : ℕ). placed_by bytes n bs (m ∷ ms)) (omega arith)
placed_skip bytes number (suc k) [] m ms lt = refl
placed_skip bytes number (suc k) (b ∷ bs) m ms lt =
    over_line bytes number b bs m ms (λ e. omega (arith, e, lt))
    ∙ placed_skip bytes (suc number) k bs m ms (omega (arith, lt))
    ∙ ap (λ (n : ℕ). placed_by bytes n (drop k bs) (m ∷ ms)) (omega arith)

-- It is of no line that comes.
pub placed_beyond : (bytes : List ℕ) (number : ℕ) (bs : List ℕ) (m : BlockMark)
    (ms : List BlockMark) → number + length bs < m.block → placed_by bytes number bs (m ∷ ms) ≡ []
placed_beyond bytes number [] m ms lt = refl
placed_beyond bytes number (b ∷ bs) m ms lt =
    over_line bytes number b bs m ms (λ e. omega (arith, e, lt))
    ∙ placed_beyond bytes (suc number) bs m ms (omega (arith, lt))

-- The code lines of the next block that has some are placed.
pub next_placed : (bytes : List ℕ) (number k block : ℕ) (bs : List ℕ) (m : BlockMark)
    (ms : List BlockMark) (old new whole : List Mark) → suc (number + k) ≡ block
    → m.block ≡ block → k < length bs
    → new ≡ old ++ map (placed_at bytes (slice_index bs k)) (marks_of_block block (m ∷ ms))
    → old ++ placed_by bytes number bs (m ∷ ms) ≡ whole
    → new ++ placed_by bytes block (drop (k + 1) bs) (marks_after block (m ∷ ms)) ≡ whole
next_placed bytes number k block bs m ms old new whole is same lt =
    subst (λ (b : ℕ). m.block ≡ b
    → new ≡ old ++ map (placed_at bytes (slice_index bs k)) (marks_of_block b (m ∷ ms))
    → old ++ placed_by bytes number bs (m ∷ ms) ≡ whole
    → new ++ placed_by bytes b (drop (k + 1) bs) (marks_after b (m ∷ ms)) ≡ whole) is
    (λ mine made value.
    let at = slice_index bs k in
    let next = suc (number + k) in
    let later = placed_by bytes next (drop (k + 1) bs) (marks_after next (m ∷ ms)) in
    let split : drop k bs ≡ at ∷ drop (k + 1) bs =
    drop-cons bs k 0 lt ∙ ap (λ (n : ℕ). at ∷ drop n bs) (sym (add-one k)) in
    ap (λ (l : List Mark). l ++ later) made
    ∙ append_assoc old (map (placed_at bytes at) (marks_of_block next (m ∷ ms))) later
    ∙ ap (λ (l : List Mark). old ++ l)
    (sym (placed_skip bytes number k bs m ms (omega (arith, mine))
    ∙ ap (λ (l : List ℕ). placed_by bytes (number + k) l (m ∷ ms)) split))
    ∙ value) same

-- The first code line, and those after it.
pub first_is : (ms : List BlockMark) (m : BlockMark) → slice_get ms 0 ≡ Some m
    → ms ≡ m ∷ drop 1 ms
first_is [] m e = cc
first_is (n ∷ ms) m e =
    let same : n ≡ m = cc in ap (λ (x : BlockMark). x ∷ ms) same

-- There is no code line.
pub none_first : (ms : List BlockMark) → slice_get ms 0 ≡ None → ms ≡ []
none_first [] e = refl
none_first (m ∷ ms) e = cc
