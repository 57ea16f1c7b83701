-- Rows of targets, one after the other.
use Rattle.std.proofs.Common.{◌≡◌, ℕ, ◌<◌, List, [], ◌∷◌, ◌++◌, length, get_or, ℤ, pos}
use Rattle.std.proofs.Common.{below_more, length-append, arith, refl}
use Rattle.std.proofs.lemmas.List.{get_or_append_left, get_or_push}
use Rattle.std.specs.List.{AllZip}
use Rattle.directions_apart.specs.Arcs.{IsWayRound}
use Rattle.station_differences.specs.Differences.{differences_of, least_of, names_of, stated_of}
use Rattle.station_differences.specs.declared.compared.TargetDifference.{TargetDifference}
use Rattle.station_differences.proofs.DifferenceLaws.{one_way}

-- A list with one more element, which has the property at its place, has it at each place.
pub one_more : {A : Type 0} (P : ℕ → A → Type 0) (made : List A) (one d : A)
    → ((t : ℕ) → t < length made → P t (get_or made t d)) → P (length made) one
    → (t : ℕ) → t < length (made ++ (one ∷ [])) → P t (get_or (made ++ (one ∷ [])) t d)
one_more P made one d all last t h =
    let more = length-append made (one ∷ []) in
    below_more (λ n. P n (get_or (made ++ (one ∷ [])) n d)) (length made)
    (λ n l. rw (get_or_append_left made (one ∷ []) d n l) (all n l))
    (rw (get_or_push made one d (length made) refl) last) t (omega arith)

-- What is on the circle of each of some directions is one list.
pub one_on_circle : (circle : ℕ) (directions : List ℤ) (a b : List ℕ)
    → AllZip (IsWayRound circle (pos 0)) directions a
    → AllZip (IsWayRound circle (pos 0)) directions b → a ≡ b
one_on_circle circle [] [] [] p q = refl
one_on_circle circle [] [] (y ∷ ys) p q = absurd q
one_on_circle circle [] (x ∷ xs) ys p q = absurd p
one_on_circle circle (d ∷ ds) [] ys p q = absurd p
one_on_circle circle (d ∷ ds) (x ∷ xs) [] p q = absurd q
one_on_circle circle (d ∷ ds) (x ∷ xs) (y ∷ ys) p q =
    let first : x ≡ y = one_way circle (pos 0) d x y p.0 q.0 in
    let rest : xs ≡ ys = one_on_circle circle ds xs ys p.1 q.1 in
    (λ i. first i ∷ rest i)

-- Rows are their names and numbers.
pub same_rows : (xs ys : List TargetDifference) → names_of xs ≡ names_of ys
    → stated_of xs ≡ stated_of ys → least_of xs ≡ least_of ys
    → differences_of xs ≡ differences_of ys → xs ≡ ys
same_rows [] [] e f g h = refl
same_rows [] (y ∷ ys) e f g h = absurd cc
same_rows (x ∷ xs) [] e f g h = absurd cc
same_rows (x ∷ xs) (y ∷ ys) e f g h =
    let target : x.target ≡ y.target = cc in
    let stated : x.stated ≡ y.stated = cc in
    let least : x.least ≡ y.least = cc in
    let difference : x.difference ≡ y.difference = cc in
    let targets : names_of xs ≡ names_of ys = cc in
    let all_stated : stated_of xs ≡ stated_of ys = cc in
    let all_least : least_of xs ≡ least_of ys = cc in
    let all_differences : differences_of xs ≡ differences_of ys = cc in
    λ i. record {
      target = target i;
      stated = stated i;
      least = least i;
      difference = difference i;
    } ∷ same_rows xs ys targets all_stated all_least all_differences i
