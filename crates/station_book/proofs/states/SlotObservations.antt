-- The observations of a set, slot by slot.
use Rattle.std.proofs.Common.{◌≡◌, ℕ, suc, ◌+◌, ◌<◌, List, [], ◌∷◌, ◌++◌, length, take, get_or}
use Rattle.std.proofs.Common.{Option, Some, None, refl, sym, ap, ◌∙◌, append_assoc, arith}
use Rattle.std.specs.List.{enumerate_from, filter_map, cons_option}
use Rattle.std.specs.Option.{option_to_list}
use Rattle.std.proofs.lemmas.List.{take_more, length-take-le}
use Rattle.std.proofs.lemmas.List.Elements.{filter_map-append}
use Rattle.station_book.specs.declared.slot.Slot.{Slot}
use Rattle.adjust_kernel.specs.declared.obs.Obs.{Obs}
use Rattle.station_book.specs.declared.faces.Faces.{Faces}
use Rattle.station_book.specs.TwoFaces.{Angles}
use Rattle.station_book.specs.Slots.{observation_of, compared, obs_at, obs_of, faces_at, faces_of}

-- Places go on from the first of two lists to the second.
pub enumerate-append : {X : Type 0} (n : ℕ) (xs ys : List X)
    → enumerate_from n (xs ++ ys) ≡ enumerate_from n xs ++ enumerate_from (n + length xs) ys
enumerate-append n [] ys = let e : n ≡ n + 0 = omega arith in ap (λ (k : ℕ). enumerate_from k ys) e
enumerate-append n (x ∷ xs) ys =
    let e : (n + 1) + length xs ≡ n + suc (length xs) = omega arith in
    ap (λ r. (n, x) ∷ r) (enumerate-append (n + 1) xs ys
    ∙ ap (λ (k : ℕ). enumerate_from (n + 1) xs ++ enumerate_from k ys) e)

one : {X : Type 0} (o : Option X) → cons_option o [] ≡ option_to_list o
one None = refl
one (Some x) = refl

-- one slot more
obs_more : (set : ℕ) (slots : List Slot) (i : ℕ) (d : Slot) → i < length slots
    → obs_of set (take (i + 1) slots) ≡ obs_of set (take i slots) ++ option_to_list
    (obs_at set (i, get_or slots i d))
obs_more set slots i d lt =
    let n : 0 + length (take i slots) ≡ i = let e = length-take-le i slots (omega arith) in omega
    (arith, e) in
    ap (obs_of set) (take_more slots i d lt)
    ∙ ap (filter_map (obs_at set)) (enumerate-append 0 (take i slots) (get_or slots i d ∷ []))
    ∙ filter_map-append (obs_at set) (enumerate_from 0 (take i slots))
    (enumerate_from (0 + length (take i slots)) (get_or slots i d ∷ []))
    ∙ ap (λ (k : ℕ). obs_of set (take i slots) ++ cons_option (obs_at set (k, get_or slots i d)) [])
    n ∙ ap (λ xs. obs_of set (take i slots) ++ xs) (one (obs_at set (i, get_or slots i d)))

faces_more : (slots : List Slot) (i : ℕ) (d : Slot) → i < length slots
    → faces_of (take (i + 1) slots) ≡ faces_of (take i slots) ++ option_to_list
    (faces_at (get_or slots i d))
faces_more slots i d lt = ap faces_of (take_more slots i d lt)
    ∙ filter_map-append faces_at (take i slots) (get_or slots i d ∷ [])
    ∙ ap (λ xs. faces_of (take i slots) ++ xs) (one (faces_at (get_or slots i d)))

-- The observations pushed so far, and that of the slot at i, are those up to it.
pub pushed_obs : (set : ℕ) (slots : List Slot) (i : ℕ) (d : Slot) (old so_far new : List Obs)
    → i < length slots → so_far ≡ old ++ obs_of set (take i slots)
    → new ≡ so_far ++ option_to_list (obs_at set (i, get_or slots i d))
    → new ≡ old ++ obs_of set (take (i + 1) slots)
pushed_obs set slots i d old so_far new lt e f =
    f ∙ ap (λ xs. xs ++ option_to_list (obs_at set (i, get_or slots i d))) e
    ∙ append_assoc old (obs_of set (take i slots))
    (option_to_list (obs_at set (i, get_or slots i d)))
    ∙ ap (λ xs. old ++ xs) (sym (obs_more set slots i d lt))

-- The face differences pushed so far, and those of the slot at i, are those up to it.
pub pushed_faces : (slots : List Slot) (i : ℕ) (d : Slot) (old so_far new : List Faces)
    → i < length slots → so_far ≡ old ++ faces_of (take i slots)
    → new ≡ so_far ++ option_to_list (faces_at (get_or slots i d))
    → new ≡ old ++ faces_of (take (i + 1) slots)
pushed_faces slots i d old so_far new lt e f =
    f ∙ ap (λ xs. xs ++ option_to_list (faces_at (get_or slots i d))) e
    ∙ append_assoc old (faces_of (take i slots)) (option_to_list (faces_at (get_or slots i d)))
    ∙ ap (λ xs. old ++ xs) (sym (faces_more slots i d lt))

one_more : (set n : ℕ) (a b : Option Angles) (os : List Obs) (fs : List Faces)
    → length fs ≡ length os
    → length (cons_option (compared a b) fs) ≡ length (cons_option (observation_of set n a b) os)
one_more set n (Some a) (Some b) os fs e = ap suc e
one_more set n a b os fs e = e

from_place : (set n : ℕ) (slots : List Slot)
    → length (faces_of slots) ≡ length (filter_map (obs_at set) (enumerate_from n slots))
from_place set n [] = refl
from_place set n (s ∷ slots) = one_more set n s.one s.two
    (filter_map (obs_at set) (enumerate_from (n + 1) slots)) (faces_of slots)
    (from_place set (n + 1) slots)

-- each observation has its face differences
pub pairs_match : (set : ℕ) (slots : List Slot)
    → length (faces_of slots) ≡ length (obs_of set slots)
pairs_match set slots = from_place set 0 slots
