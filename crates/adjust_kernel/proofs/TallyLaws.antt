-- One more residual in running sums.
use Rattle.std.proofs.Common.{◌≡◌, ℕ, ◌+◌, ◌*◌, ◌<◌, cond, eqb, List, [], ◌∷◌, ◌++◌, length, take}
use Rattle.std.proofs.Common.{replicate, set, get_or, All, ℤ, pos, ◌+ℤ◌, arith, ap, refl, sym, ◌∙◌}
use Rattle.std.proofs.Common.{eq-eqb, ◌≢◌, below_more, FitsSigned}
use mir.Syntax.{w128}
use mir.Val.{to_z, of_z}
use Rattle.std.proofs.Math.IntN.{+ℤ_idr}
use Rattle.std.proofs.lemmas.Int.{ints, to_z-of_z}
use Rattle.std.proofs.lemmas.Bool.{ne_eqb}
use Rattle.std.proofs.lemmas.List.{map-append, get_or-set_same, get_or-set_other, length-append}
use Rattle.std.proofs.lemmas.List.{get_or-replicate, take_more}
use Rattle.std.proofs.lemmas.List.Elements.{All-set, All-weaker, All-replicate}
use Rattle.adjust_kernel.specs.declared.tally.Added.{Added}
use Rattle.adjust_kernel.specs.Firsts.{IsFirstWhere}
use Rattle.adjust_kernel.specs.Sums.{int_sum_where}
use Rattle.adjust_kernel.specs.Within.{IsWithin}
use Rattle.adjust_kernel.specs.Tallies.{AreSumsOf, added_for_target, added_for_set, added_of}
use Rattle.adjust_kernel.specs.Tallies.{all_added}
use Rattle.adjust_kernel.specs.declared.obs.Obs.{Obs}
use Rattle.adjust_kernel.specs.declared.row.Row.{Row}
use Rattle.adjust_kernel.specs.TurnedObservations.{TurnedObservation}
use Rattle.adjust_kernel.specs.Residuals.{Choice, residual, target_sum, set_sum}
use Rattle.adjust_kernel.specs.Pairs.{turned_by, turned_by_rows}
use Rattle.adjust_kernel.proofs.ObservationLaws.{length-turned_by_rows, get_or-turned_by_rows}
use Rattle.adjust_kernel.proofs.SumLaws.{int_sum_by-push}
use native.Mathlib.Decide.{ℕ_discrete}

-- The sums of all keys below a count, with one more element.
one_more : {X : Type 0} (key : X → ℕ) (f : X → ℤ) (sums : List ℤ) (l : List X) (x : X) (count : ℕ)
    → key x < length sums
    → ((k : ℕ) → k < count → get_or sums k (pos 0) ≡ int_sum_where (λ a. eqb (key a) k) f l)
    → (k : ℕ) → k < count → get_or (set sums (key x) (get_or sums (key x) (pos 0) +ℤ f x)) k (pos 0)
    ≡ int_sum_where (λ a. eqb (key a) k) f (l ++ x ∷ [])
one_more key f sums l x count inside h k below = by (ℕ_discrete k (key x))
  where
    by : Dec (k ≡ key x) → get_or (set sums (key x) (get_or sums (key x) (pos 0) +ℤ f x)) k (pos 0)
        ≡ int_sum_where (λ a. eqb (key a) k) f (l ++ x ∷ [])
    by (yes e) =
        ap (λ (n : ℕ). get_or (set sums (key x) (get_or sums (key x) (pos 0) +ℤ f x)) n (pos 0)) e
        ∙ get_or-set_same sums (key x) (get_or sums (key x) (pos 0) +ℤ f x) (pos 0) inside
        ∙ ap (λ z. z +ℤ f x) (ap (λ (n : ℕ). get_or sums n (pos 0)) (sym e) ∙ h k below)
        ∙ ap (λ b. int_sum_where (λ a. eqb (key a) k) f l +ℤ cond b (f x) (pos 0))
        (sym (eq-eqb (key x) k (sym e)))
        ∙ sym (int_sum_by-push (λ a. cond (eqb (key a) k) (f a) (pos 0)) l x)
    by (no n) =
        get_or-set_other sums (key x) k (get_or sums (key x) (pos 0) +ℤ f x) (pos 0) n
        ∙ h k below
        ∙ sym (+ℤ_idr (int_sum_where (λ a. eqb (key a) k) f l))
        ∙ ap (λ b. int_sum_where (λ a. eqb (key a) k) f l +ℤ cond b (f x) (pos 0))
        (sym (ne_eqb (key x) k (λ e. n (sym e))))
        ∙ sym (int_sum_by-push (λ a. cond (eqb (key a) k) (f a) (pos 0)) l x)

-- With a residual added to its target's sum and its set's, the sums are those of one more residual.
pub keeps_sums : (targets sets : List ℤ) (taken : ℕ) (l : List Added) (x : Added)
    → length targets ≡ 100 → length sets ≡ 40 → x.target < 100 → x.set < 40
    → AreSumsOf l targets sets taken
    → AreSumsOf (l ++ x ∷ []) (set targets x.target (get_or targets x.target (pos 0) +ℤ x.residual))
    (set sets x.set (get_or sets x.set (pos 0) +ℤ x.residual)) (taken + 1)
keeps_sums targets sets taken l x a b p q s = record {
  number = let e = length-append l (x ∷ []) in let n = s.number in omega arith;
  of_targets = one_more (λ (y : Added). y.target) (λ y. y.residual) targets l x 100 (omega arith)
      s.of_targets;
  of_sets = one_more (λ (y : Added). y.set) (λ y. y.residual) sets l x 40 (omega arith) s.of_sets;
}

-- Each sum of n elements grows by one element at most.
pub still_within : (m n : ℕ) (sums : List ℤ) (i : ℕ) (z : ℤ) → i < length sums → IsWithin (pos m) z
    → All (IsWithin (pos (m * n))) sums → All (IsWithin (pos (m * (n + 1))))
    (set sums i (get_or sums i (pos 0) +ℤ z))
still_within m n sums i z inside w all =
    All-set (IsWithin (pos (m * (n + 1)))) sums i (get_or sums i (pos 0) +ℤ z)
    (let v = all i (pos 0) inside in sum_within (get_or sums i (pos 0)) v)
    (All-weaker (IsWithin (pos (m * n))) (IsWithin (pos (m * (n + 1)))) more sums all)
  where
    sum_within : (y : ℤ) → IsWithin (pos (m * n)) y → IsWithin (pos (m * (n + 1))) (y +ℤ z)
    sum_within y v = let a = v.low in let b = v.high in let c = w.low in let d = w.high in
        record { low = omega (arith, ints); high = omega (arith, ints) }

    more : (y : ℤ) → IsWithin (pos (m * n)) y → IsWithin (pos (m * (n + 1))) y
    more y v = let a = v.low in let b = v.high in
        record { low = omega (arith, ints); high = omega (arith, ints) }

-- Before anything was added each sum is 0.
pub zeros_within : (n : ℕ) → All (IsWithin (pos 0)) (replicate n (pos 0))
zeros_within n = All-replicate (IsWithin (pos 0)) n (pos 0)
    (record { low = omega (arith, ints); high = omega (arith, ints) })

-- Zeros are the sums of no residuals.
pub zeros_are_sums : AreSumsOf [] (replicate 100 (pos 0)) (replicate 40 (pos 0)) 0
zeros_are_sums = record {
  number = refl;
  of_targets = λ t below. get_or-replicate 100 t (pos 0) (pos 0) below;
  of_sets = λ s below. get_or-replicate 40 s (pos 0) (pos 0) below;
}

-- One more row adds its residual, for its target and its set.
pub all_added-more : (c : Choice) (obs : List Obs) (rows : List Row) (n : ℕ) (o : Obs) (r : Row)
    (z : ℤ) → length obs ≡ length rows → n < length obs
    → ((d : TurnedObservation) → z ≡ residual c (get_or (turned_by_rows obs rows) n d))
    → all_added c (take n (turned_by_rows obs rows))
    ++ record { target = (get_or obs n o).target; set = (get_or obs n o).set; residual = z } ∷ []
    ≡ all_added c (take (n + 1) (turned_by_rows obs rows))
all_added-more c obs rows n o r z same below value =
    let observations = turned_by_rows obs rows in
    let d : TurnedObservation = record { set = 0; target = 0; value = 0; turn = pos 0 } in
    let e : get_or observations n d ≡ turned_by (get_or obs n o) (get_or rows n r).turn =
    get_or-turned_by_rows obs rows n o r d same below in
    let inside : n < length observations = let k = length-turned_by_rows obs rows same in
    omega arith in
    let f : z ≡ residual c (turned_by (get_or obs n o) (get_or rows n r).turn) = value d
    ∙ ap (residual c) e in
    ap (λ (v : ℤ). all_added c (take n observations)
    ++ record { target = (get_or obs n o).target; set = (get_or obs n o).set; residual = v }
    ∷ []) f
    ∙ ap (λ (x : TurnedObservation). all_added c (take n observations) ++ added_of c x ∷ []) (sym e)
    ∙ sym (map-append (added_of c) (take n observations) (get_or observations n d ∷ []))
    ∙ ap (all_added c) (sym (take_more observations n d inside))

-- What was added for a target adds up to the target's sum.
pub added_for_target-all : (c : Choice) (rs : List TurnedObservation) (t : ℕ)
    → added_for_target (all_added c rs) t ≡ target_sum c rs t
added_for_target-all c [] t = refl
added_for_target-all c (r ∷ rs) t = ap (λ z. cond (eqb r.target t) (residual c r) (pos 0) +ℤ z)
    (added_for_target-all c rs t)

-- What was added for a set adds up to the set's sum.
pub added_for_set-all : (c : Choice) (rs : List TurnedObservation) (s : ℕ)
    → added_for_set (all_added c rs) s ≡ set_sum c rs s
added_for_set-all c [] s = refl
added_for_set-all c (r ∷ rs) s = ap (λ z. cond (eqb r.set s) (residual c r) (pos 0) +ℤ z)
    (added_for_set-all c rs s)

-- Of the sums below a number, all are 0. A sum at it that a tally tells, and that isn't 0, is the
-- first such one; and where it is 0, so are all up to it.
module _ (sum : ℕ → ℤ) (n : ℕ) (told : ℤ) (is : told ≡ sum n)
    (before : (m : ℕ) → m < n → sum m ≡ pos 0) where
  pub first_uneven : (count : ℕ) → n < count → of_z w128 told ≢ of_z w128 (pos 0)
      → IsFirstWhere (λ k. sum k ≢ pos 0) count n
  first_uneven count inside uneven = record {
    inside = inside;
    here = λ even. uneven (ap (of_z w128) (is ∙ even));
    before = λ m below other. other (before m below);
  }

  pub more_even : FitsSigned w128 told → of_z w128 told ≡ of_z w128 (pos 0)
      → (m : ℕ) → m < n + 1 → sum m ≡ pos 0
  more_even fits even = below_more (λ k. sum k ≡ pos 0) n before
      (sym is ∙ sym (to_z-of_z w128 told fits) ∙ ap (to_z w128) even)
