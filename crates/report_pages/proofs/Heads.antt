-- The head among lines that are read.
use Rattle.std.proofs.Common.{◌≡◌, ◌∙◌, ℕ, ◌+◌, Bool, List, [], ◌∷◌, ap, arith, length, map}
use Rattle.std.proofs.Common.{nat_eq, nat_lt, refl, sym, take, Bor, Option, Some, None}
use Rattle.std.proofs.lemmas.List.{take-map, take_min}
use Rattle.std.specs.Prelude.{cond, min, not}
use Rattle.std.specs.List.{position, position_or_len, prefix_len, starts_with}
use Rattle.report_pages.specs.Pages.{down_to, head}
use Rattle.report_pages.specs.declared.head.TheConstants.{LINES_OF_HEAD}
use lib.ListN.{length-map}

-- How many elements pass from the front on, of a mapped list.
prefix-map : {X Y : Type 0} (p : Y → Bool) (f : X → Y) (xs : List X)
    → prefix_len p (map f xs) ≡ prefix_len (λ x. p (f x)) xs
prefix-map p f [] = refl
prefix-map p f (x ∷ xs) = ap (λ (n : ℕ). cond (p (f x)) (1 + n) 0) (prefix-map p f xs)

-- The place of the first that passes, of a mapped list.
position-map : {X Y : Type 0} (p : Y → Bool) (f : X → Y) (xs : List X)
    → position p (map f xs) ≡ position (λ x. p (f x)) xs
position-map p f xs =
    ap (λ (n : ℕ). cond (nat_lt n (length (map f xs))) (Some n) None)
    (prefix-map (λ y. not (p y)) f xs)
    ∙ ap (λ (m : ℕ). cond (nat_lt (position_or_len (λ x. p (f x)) xs) m)
    (Some (position_or_len (λ x. p (f x)) xs)) None) (length-map xs f)

-- The head of lines, by the place that is found among the first of them.
pub head_by : (label : List ℕ) (ls : List (Bor (List ℕ))) (found : Option ℕ)
    → found ≡ position (λ (l : Bor (List ℕ)). starts_with nat_eq l.now label)
    (take (min (length ls) LINES_OF_HEAD) ls)
    → head label (map (λ (l : Bor (List ℕ)). l.now) ls)
    ≡ down_to found (map (λ (l : Bor (List ℕ)). l.now) ls)
head_by label ls found is =
    let now = λ (l : Bor (List ℕ)). l.now in
    let begins = λ (line : List ℕ). starts_with nat_eq line label in
    let firsts : take LINES_OF_HEAD (map now ls) ≡ map now (take LINES_OF_HEAD ls) =
    take-map now LINES_OF_HEAD ls in
    let swapped : min (length ls) LINES_OF_HEAD ≡ min LINES_OF_HEAD (length ls) = omega arith in
    let most : take (min (length ls) LINES_OF_HEAD) ls ≡ take LINES_OF_HEAD ls =
    ap (λ (n : ℕ). take n ls) swapped ∙ take_min LINES_OF_HEAD ls in
    ap (λ (place : Option ℕ). down_to place (map now ls))
    (ap (position begins) firsts ∙ position-map begins now (take LINES_OF_HEAD ls)
    ∙ sym (is ∙ ap (position (λ (l : Bor (List ℕ)). begins l.now)) most))
