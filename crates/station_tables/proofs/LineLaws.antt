-- The lines of a text, byte by byte.
use Rattle.std.proofs.Common.{◌≡◌, ◌∙◌, ◌++◌, ◌∷◌, ◌+◌, ◌-◌, ◌<◌, ◌≤◌, List, ℕ, [], Bool, true}
use Rattle.std.proofs.Common.{false, add-one, ap, append_assoc, arith, drop, drop-cons, get_or, length}
use Rattle.std.proofs.Common.{length-drop, refl, sym, take}
use Rattle.std.specs.Borrow.{Bor}
use Rattle.std.specs.Prelude.{if◌then◌else◌}
use Rattle.std.proofs.lemmas.List.{append-nil, drop_all, get_or-drop, map-append}
use Rattle.std.proofs.lemmas.List.{take_more}
use Rattle.station_tables.specs.Lines.{begun, ends_line, lines_in, of_lines}

-- A list from a place is what stands at this place, and what comes after it.
pub from_here : {X : Type 0} (xs : List X) (d : X) (i : ℕ) → i < length xs
    → drop i xs ≡ get_or xs i d ∷ drop (i + 1) xs
from_here xs d i inside =
    drop-cons xs i d inside ∙ ap (λ (k : ℕ). get_or xs i d ∷ drop k xs) (sym (add-one i))

-- A beginning before a beginning.
begun_more : (f g : List ℕ) (lines : List (List ℕ)) → begun f (begun g lines) ≡ begun (f ++ g) lines
begun_more f g [] = refl
begun_more f g (line ∷ others) =
    ap (λ (l : List ℕ). l ∷ others) (sym (append_assoc f g line))

-- A byte that ends a line does so; no other does.
ended : (b : ℕ) (text : List ℕ) → ends_line b text ≡ true
    → lines_in (b ∷ text) ≡ [] ∷ lines_in text
unfolding lines_in
ended b text e = rw e refl

not_ended : (b : ℕ) (text : List ℕ) → ends_line b text ≡ false
    → lines_in (b ∷ text) ≡ begun (b ∷ []) (lines_in text)
unfolding lines_in
not_ended b text e = rw e refl

-- No byte begins nothing.
none_before : (ends : Bool) (b : ℕ) (lines : List (List ℕ))
    → begun [] (if ends then [] ∷ lines else begun (b ∷ []) lines)
    ≡ (if ends then [] ∷ lines else begun (b ∷ []) lines)
none_before true b lines = refl
none_before false b lines = begun_more [] (b ∷ []) lines

pub begun_none : (text : List ℕ) → begun [] (lines_in text) ≡ lines_in text
unfolding lines_in
begun_none [] = refl
begun_none (b ∷ text) = none_before (ends_line b text) b (lines_in text)

-- Where no line ends, the line that has begun has one more byte.
pub goes_on : (text : List ℕ) (start place : ℕ) → start ≤ place → place < length text
    → ends_line (get_or text place 0) (drop (place + 1) text) ≡ false
    → begun (take (place + 1 - start) (drop start text)) (lines_in (drop (place + 1) text))
    ≡ begun (take (place - start) (drop start text)) (lines_in (drop place text))
goes_on text start place from inside e =
    let n = place - start in
    let rest = drop start text in
    let b = get_or text place 0 in
    let after = drop (place + 1) text in
    let short : n < length rest = omega (arith, length-drop start text) in
    let sum : start + n ≡ place = omega arith in
    let next : place + 1 - start ≡ n + 1 = omega arith in
    let last : get_or rest n 0 ≡ b =
    get_or-drop start text n 0 ∙ ap (λ (k : ℕ). get_or text k 0) sum in
    let longer : take (place + 1 - start) rest ≡ take n rest ++ (b ∷ []) =
    ap (λ (k : ℕ). take k rest) next ∙ take_more rest n 0 short
    ∙ ap (λ (y : ℕ). take n rest ++ (y ∷ [])) last in
    ap (λ (t : List ℕ). begun t (lines_in after)) longer
    ∙ sym (begun_more (take n rest) (b ∷ []) (lines_in after))
    ∙ ap (begun (take n rest)) (sym (not_ended b after e))
    ∙ ap (λ (t : List ℕ). begun (take n rest) (lines_in t)) (sym (from_here text 0 place inside))

-- Where one ends, it is one of the lines, and the next has no byte yet.
pub ends : (text piece : List ℕ) (before new : List (List ℕ)) (place : ℕ) → place < length text
    → ends_line (get_or text place 0) (drop (place + 1) text) ≡ true
    → new ≡ before ++ (piece ∷ [])
    → new ++ begun (take (place + 1 - (place + 1)) (drop (place + 1) text))
    (lines_in (drop (place + 1) text))
    ≡ before ++ begun piece (lines_in (drop place text))
ends text piece before new place inside e more =
    let after = drop (place + 1) text in
    let none : place + 1 - (place + 1) ≡ 0 = omega arith in
    ap (λ (k : ℕ). new ++ begun (take k after) (lines_in after)) none
    ∙ ap (λ (ls : List (List ℕ)). ls ++ begun [] (lines_in after)) more
    ∙ append_assoc before (piece ∷ []) (begun [] (lines_in after))
    ∙ ap (λ (ls : List (List ℕ)). before ++ (piece ∷ ls)) (begun_none after)
    ∙ ap (λ (p : List ℕ). before ++ (p ∷ lines_in after)) (sym (append-nil piece))
    ∙ ap (λ (ls : List (List ℕ)). before ++ begun piece ls)
    (sym (ended (get_or text place 0) after e))
    ∙ ap (λ (t : List ℕ). before ++ begun piece (lines_in t)) (sym (from_here text 0 place inside))

-- At the end the line that has begun is the last.
last : (piece : List ℕ) (before : List (List ℕ))
    → before ++ begun piece (lines_in []) ≡ before ++ (piece ∷ [])
unfolding lines_in
last piece before = ap (λ (p : List ℕ). before ++ (p ∷ [])) (append-nil piece)

pub all_held : (text : List ℕ) (start place : ℕ) (before new : List (List ℕ))
    → place ≡ length text
    → new ≡ before ++ (take (length text - start) (drop start text) ∷ [])
    → before ++ begun (take (place - start) (drop start text)) (lines_in (drop place text))
    ≡ lines_in text
    → new ≡ lines_in text
all_held text start place before new end more held =
    let none : drop place text ≡ [] = drop_all place text (omega arith) in
    more
    ∙ ap (λ (k : ℕ). before ++ (take (k - start) (drop start text) ∷ [])) (sym end)
    ∙ sym (last (take (place - start) (drop start text)) before)
    ∙ ap (λ (t : List ℕ). before ++ begun (take (place - start) (drop start text)) (lines_in t))
    (sym none)
    ∙ held

-- One line more is held.
pub held_more : (old new : List (Bor (List ℕ))) (line : Bor (List ℕ)) → new ≡ old ++ (line ∷ [])
    → of_lines new ≡ of_lines old ++ (line.now ∷ [])
held_more old new line more = ap of_lines more ∙ map-append (λ (l : Bor (List ℕ)). l.now) old (line ∷ [])
