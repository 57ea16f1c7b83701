-- Where no residual is above the limit, no other full turns give a smaller sum of squares, and the
-- same sum only those that turn targets and sets as a whole. The bound: with at most 140 sets and
-- targets together, an observation's turns differ from those of its ends by at most 279 changes of
-- a residual, which is below one turn, and so by none.
use Rattle.std.proofs.Common.{◌≡◌, ℕ, suc, zero, ◌+◌, ◌-◌, ◌*◌, ◌≤◌, ◌<◌, List, [], ◌∷◌, length}
use Rattle.std.proofs.Common.{All, ℤ, pos, negsuc, ◌+ℤ◌, ◌≤ℤ◌, arith, ap, refl, sym, ◌∙◌, subst}
use Rattle.std.specs.Prelude.{map}
use Rattle.std.proofs.Math.IntN.{◌*ℤ◌, ◌-ℤ◌}
use Rattle.std.proofs.Math.Nat.{mul-le-mul}
use Rattle.std.specs.List.{AllByRecursion}
use Rattle.std.proofs.lemmas.Int.{ints, by_lt_z}
use Rattle.std.proofs.lemmas.List.Elements.{recursion_from_All}
use Rattle.adjust_kernel.specs.declared.bounds.TheConstants.{TURN, MOST_TARGETS, MOST_SETS}
use Rattle.adjust_kernel.specs.declared.bounds.TheConstants.{MOST_ROWS, LARGEST_RESIDUAL_LIMIT}
use Rattle.adjust_kernel.specs.Sums.{int_sum_by, squared}
use Rattle.adjust_kernel.specs.Within.{IsWithin}
use Rattle.adjust_kernel.specs.TurnedObservations.{TurnedObservation}
use Rattle.adjust_kernel.specs.Residuals.{Choice, residual, sum_of_squares}
use Rattle.adjust_kernel.specs.Connected.{IsConnected}
use Rattle.adjust_kernel.specs.Least.{IsNoLargerSum, sum_beside}
use Rattle.adjust_kernel.specs.Turns.{IsLimited, with_turns, IsLeastOverTurns, AreTurnedWhole}
use Rattle.adjust_kernel.specs.Turns.{OnlyTurnedWhole}
use Rattle.adjust_kernel.proofs.BalanceLaws.{IsBalanced}
use Rattle.adjust_kernel.proofs.ObservationLaws.{IsPlaced}
use Rattle.adjust_kernel.proofs.Ring.{num, ◌⊕◌, ◌⊖◌, ◌⊗◌, same_value}
use Rattle.adjust_kernel.proofs.SumLaws.{AllByRecursion-map, AllByRecursion-both}
use Rattle.adjust_kernel.proofs.LeastLaws.{moved_direction, moved_orientation, balanced_is_least}
use Rattle.adjust_kernel.proofs.PairedTurns.{Pair, paired, retuned, difference, own_squares}
use Rattle.adjust_kernel.proofs.PairedTurns.{other_squares, length-paired, paired-all}
use Rattle.adjust_kernel.proofs.PairedTurns.{differences-all, differences-divided, turns_by}
use Rattle.adjust_kernel.proofs.ChangeBounds.{MOST_CHANGE, changes_in}
use Rattle.adjust_kernel.proofs.NearLaws.{IsNear, EndsAreNear, AllAreNear, all_near}
use native.Mathlib.Decide.{dec_lt}

-- What stands where a sheet's sets and targets are held together and its residuals keep a limit.
pub record IsHeldUnder (limit sets targets : ℕ) (c : Choice)
    (observations : List TurnedObservation) :
    Type 0 where
  pub denominator : 1 ≤ c.denominator
  pub some : 0 < targets
  pub sets_in : sets ≤ MOST_SETS
  pub targets_in : targets ≤ MOST_TARGETS
  pub limit_in : limit ≤ LARGEST_RESIDUAL_LIMIT
  pub observations_in : length observations ≤ MOST_ROWS
  pub placed : All (IsPlaced sets targets) observations
  pub connected : IsConnected sets targets observations
  pub limited : IsLimited limit c observations

-- What stands where a sheet is accepted under a residual limit.
pub record IsAcceptedUnder (limit sets targets : ℕ) (c : Choice)
    (observations : List TurnedObservation) :
    Type 0 where
  pub held : IsHeldUnder limit sets targets c observations
  pub balanced : IsBalanced c observations

change_is : (d e v : ℕ) (a a' o o' k k' : ℤ)
    → pos d *ℤ (a' -ℤ o' -ℤ pos e *ℤ (pos v +ℤ pos TURN *ℤ k'))
    -ℤ pos e *ℤ (a -ℤ o -ℤ pos d *ℤ (pos v +ℤ pos TURN *ℤ k))
    ≡ (pos d *ℤ a' -ℤ pos e *ℤ a) -ℤ (pos d *ℤ o' -ℤ pos e *ℤ o) -ℤ pos (d * e * TURN) *ℤ (k' -ℤ k)
change_is d e v a a' o o' k k' =
    let d' = num (pos d) in
    let e' = num (pos e) in
    let y = λ (z : ℤ). num (pos v) ⊕ num (pos TURN) ⊗ num z in
    same_value
    (d' ⊗ (num a' ⊖ num o' ⊖ e' ⊗ y k') ⊖ e' ⊗ (num a ⊖ num o ⊖ d' ⊗ y k))
    ((d' ⊗ num a' ⊖ e' ⊗ num a) ⊖ (d' ⊗ num o' ⊖ e' ⊗ num o)
    ⊖ num (pos (d * e * TURN)) ⊗ (num k' ⊖ num k))
    (omega arith)

-- A whole number of turns that is less than one turn is none.
no_turn : (unit j : ℕ) (z : ℤ) → 1 ≤ unit → j ≤ 279
    → IsWithin (pos (j * (MOST_CHANGE * unit))) (pos (unit * TURN) *ℤ z) → z ≡ pos 0
no_turn unit j (pos zero) h k w = refl
no_turn unit j (pos (suc n)) h k w =
    let m : j * (MOST_CHANGE * unit) ≤ 279 * (MOST_CHANGE * unit) = mul-le-mul k (omega arith) in
    let l = w.high in
    absurd (omega (arith, ints))
no_turn unit j (negsuc n) h k w =
    let m : j * (MOST_CHANGE * unit) ≤ 279 * (MOST_CHANGE * unit) = mul-le-mul k (omega arith) in
    let l = w.low in
    absurd (omega (arith, ints))

around : (q : ℕ) (t s o k mt ms : ℤ) → pos q *ℤ (k -ℤ mt +ℤ ms) ≡ (t -ℤ o -ℤ pos q *ℤ mt)
    -ℤ (s -ℤ o -ℤ pos q *ℤ ms) -ℤ (t -ℤ s -ℤ pos q *ℤ k)
around q t s o k mt ms =
    let q' = num (pos q) in
    same_value (q' ⊗ (num k ⊖ num mt ⊕ num ms))
    ((num t ⊖ num o ⊖ q' ⊗ num mt) ⊖ (num s ⊖ num o ⊖ q' ⊗ num ms)
    ⊖ (num t ⊖ num s ⊖ q' ⊗ num k)) (omega arith)

within_three : (j u : ℕ) (x y z : ℤ) → IsWithin (pos (j * u)) x → IsWithin (pos (j * u)) y
    → IsWithin (pos u) z → IsWithin (pos ((j + j + 1) * u)) (x -ℤ y -ℤ z)
within_three j u x y z a b c =
    let p = a.low in let q = a.high in let r = b.low in let s = b.high in let v = c.low in let w =
    c.high in
    record { low = omega (arith, ints); high = omega (arith, ints) }

module _ (limit sets targets : ℕ) (c : Choice) (observations : List TurnedObservation)
    (a : IsHeldUnder limit sets targets c observations)
    (other : Choice) (turns : List ℤ) (long : length turns ≡ length observations)
    (fraction : 1 ≤ other.denominator)
    (not_greater : IsNoLargerSum other (with_turns observations turns) c observations) where
  abbrev unit : ℕ
  unit = c.denominator * other.denominator

  abbrev pairs : List Pair
  pairs = paired observations turns

  -- The change of an observation's residual, with what its turns change taken off, is that of its
  -- ends.
  abbrev EndsNear : TurnedObservation → Type 0
  EndsNear = EndsAreNear sets targets (unit * TURN) (MOST_CHANGE * unit) (moved_direction c other)
      (moved_orientation c other)

  ends_near : AllByRecursion (λ (x : Pair). EndsNear (difference x)) pairs
  ends_near = AllByRecursion-map (λ (x : Pair).
      IsWithin (pos (MOST_CHANGE * unit)) (pos c.denominator *ℤ residual other (retuned x)
      -ℤ pos other.denominator *ℤ residual c x.0)) (λ (x : Pair). EndsNear (difference x))
      (λ (x : Pair) w. subst (IsWithin (pos (MOST_CHANGE * unit)))
      (change_is c.denominator other.denominator x.0.value (c.direction x.0.target)
      (other.direction x.0.target) (c.orientation x.0.set) (other.orientation x.0.set) x.0.turn
      x.1) w)
      pairs (changes_in c.denominator other.denominator limit (λ (x : Pair). residual c x.0)
      (λ (x : Pair). residual other (retuned x)) pairs few a.limit_in
      (paired-all (λ r. IsWithin (pos (limit * c.denominator)) (residual c r)) observations turns
      (recursion_from_All (λ r. IsWithin (pos (limit * c.denominator)) (residual c r)) observations
      a.limited)) sums)
    where
      few : length pairs ≤ MOST_ROWS
      few = let e = length-paired observations turns in let h = a.observations_in in omega arith

      sums : (pos (c.denominator * c.denominator) *ℤ int_sum_by
          (λ (x : Pair). squared (residual other (retuned x))) pairs)
          ≤ℤ (pos (other.denominator * other.denominator) *ℤ int_sum_by
          (λ (x : Pair). squared (residual c x.0)) pairs)
      sums =
          let e = ap (λ z. pos (other.denominator * other.denominator) *ℤ z)
          (own_squares c observations turns long) in
          let f = ap (λ z. pos (c.denominator * c.denominator) *ℤ z)
          (other_squares other observations turns) in
          omega (arith, ints, not_greater)

  placed_pairs : AllByRecursion (λ (x : Pair). IsPlaced sets targets x.0) pairs
  placed_pairs = paired-all (IsPlaced sets targets) observations turns
      (recursion_from_All (IsPlaced sets targets) observations a.placed)

  near : AllAreNear sets targets (unit * TURN) (MOST_CHANGE * unit) (moved_direction c other)
      (moved_orientation c other) (sets + targets - 1)
  near = all_near sets targets (unit * TURN) (MOST_CHANGE * unit) (moved_direction c other)
      (moved_orientation c other) (map difference pairs) a.some
      (differences-all (λ r. IsPlaced sets targets r × EndsNear r) pairs
      (AllByRecursion-map (λ (x : Pair). IsPlaced sets targets x.0 × EndsNear (difference x))
      (λ (x : Pair). IsPlaced sets targets (difference x) × EndsNear (difference x))
      (λ (x : Pair) h. (record { set_in = h.0.set_in; target_in = h.0.target_in }, h.1)) pairs
      (AllByRecursion-both (λ (x : Pair). IsPlaced sets targets x.0)
      (λ (x : Pair). EndsNear (difference x)) pairs placed_pairs ends_near)))
      (λ d. a.connected (differences-divided sets targets observations turns long d))

  abbrev turns_where : {P : Type 0} → (P → ℤ) → Dec P → ℤ
  turns_where f (yes h) = f h
  turns_where f (no n) = pos 0

  abbrev Node : ℤ → Type 0
  Node = IsNear sets targets (unit * TURN) (MOST_CHANGE * unit) (moved_direction c other)
      (moved_orientation c other) (sets + targets - 1)

  -- The whole turns of a target and of a set.
  of_target : ℕ → ℤ
  of_target t = turns_where (λ h. (near.targets_near t h).turns) (dec_lt t targets)

  of_set : ℕ → ℤ
  of_set s = turns_where (λ h. (near.sets_near s h).turns) (dec_lt s sets)

  abbrev IsClose : ℤ → ℤ → Type 0
  IsClose z k = IsWithin (pos ((sets + targets - 1) * (MOST_CHANGE * unit)))
      (z -ℤ moved_direction c other 0 -ℤ pos (unit * TURN) *ℤ k)

  target_close : (t : ℕ) → t < targets → IsClose (moved_direction c other t) (of_target t)
  unfolding of_target
  target_close t h = by (dec_lt t targets)
    where
      by : (d : Dec (t < targets)) → IsClose (moved_direction c other t)
          (turns_where (λ h. (near.targets_near t h).turns) d)
      by (yes l) = (near.targets_near t l).close
      by (no n) = absurd (n h)

  set_close : (s : ℕ) → s < sets → IsClose (moved_orientation c other s) (of_set s)
  unfolding of_set
  set_close s h = by (dec_lt s sets)
    where
      by : (d : Dec (s < sets)) → IsClose (moved_orientation c other s)
          (turns_where (λ h. (near.sets_near s h).turns) d)
      by (yes l) = (near.sets_near s l).close
      by (no n) = absurd (n h)

  turned_pair : (x : Pair) → EndsNear (difference x) → IsPlaced sets targets x.0
      → x.1 ≡ x.0.turn +ℤ of_target x.0.target -ℤ of_set x.0.set
  turned_pair x w p =
      let n = sets + targets - 1 in
      let m : n ≤ 139 = omega (arith, a.sets_in, a.targets_in) in
      let k = x.1 -ℤ x.0.turn in
      let t = moved_direction c other x.0.target in
      let s = moved_orientation c other x.0.set in
      let o = moved_direction c other 0 in
      let mt = of_target x.0.target in
      let ms = of_set x.0.set in
      let close = within_three n (MOST_CHANGE * unit) (t -ℤ o -ℤ pos (unit * TURN) *ℤ mt)
      (s -ℤ o -ℤ pos (unit * TURN) *ℤ ms) (t -ℤ s -ℤ pos (unit * TURN) *ℤ k)
      (target_close x.0.target p.target_in) (set_close x.0.set p.set_in) w in
      let y = subst (IsWithin (pos ((n + n + 1) * (MOST_CHANGE * unit))))
      (sym (around (unit * TURN) t s o k mt ms)) close in
      let z = no_turn unit (n + n + 1) (k -ℤ mt +ℤ ms) (mul-le-mul a.denominator fraction)
      (omega arith) y in
      omega (arith, ints)

  pub turned : AreTurnedWhole observations turns
  turned = record {
    of_target = of_target;
    of_set = of_set;
    turns_are = turns_by (λ r. r.turn +ℤ of_target r.target -ℤ of_set r.set) observations turns long
        (AllByRecursion-map (λ (x : Pair). EndsNear (difference x) × IsPlaced sets targets x.0)
        (λ (x : Pair). x.1 ≡ x.0.turn +ℤ of_target x.0.target -ℤ of_set x.0.set)
        (λ (x : Pair) h. turned_pair x h.0 h.1) pairs
        (AllByRecursion-both (λ (x : Pair). EndsNear (difference x))
        (λ (x : Pair). IsPlaced sets targets x.0) pairs ends_near placed_pairs));
  }

-- Turns of targets and sets are taken up by directions and orientations.
pub taken_up : (e v : ℕ) (a o k mt ms : ℤ) → (a -ℤ pos (e * TURN) *ℤ mt)
    -ℤ (o -ℤ pos (e * TURN) *ℤ ms) -ℤ pos e *ℤ (pos v +ℤ pos TURN *ℤ k)
    ≡ a -ℤ o -ℤ pos e *ℤ (pos v +ℤ pos TURN *ℤ (k +ℤ mt -ℤ ms))
taken_up e v a o k mt ms =
    let q = num (pos (e * TURN)) in
    same_value ((num a ⊖ q ⊗ num mt) ⊖ (num o ⊖ q ⊗ num ms)
    ⊖ num (pos e) ⊗ (num (pos v) ⊕ num (pos TURN) ⊗ num k))
    (num a ⊖ num o ⊖ num (pos e) ⊗ (num (pos v) ⊕ num (pos TURN) ⊗ (num k ⊕ num mt ⊖ num ms)))
    (omega arith)

module _ (other : Choice) (of_target of_set : ℕ → ℤ) where
  -- The other choice with whole turns taken off its directions and orientations.
  abbrev pub taken : Choice
  taken = record {
    denominator = other.denominator;
    direction = λ t. other.direction t -ℤ pos (other.denominator * TURN) *ℤ of_target t;
    orientation = λ s. other.orientation s -ℤ pos (other.denominator * TURN) *ℤ of_set s;
  }

  -- Its sum of squares is that of the other choice with these turns added to the observations.
  pub taken_squares : (observations : List TurnedObservation)
      → sum_of_squares taken observations ≡ sum_of_squares other
      (with_turns observations
      (map (λ r. r.turn +ℤ of_target r.target -ℤ of_set r.set) observations))
  taken_squares [] = refl
  taken_squares (r ∷ observations) = λ i. squared
      (taken_up other.denominator r.value (other.direction r.target) (other.orientation r.set)
      r.turn (of_target r.target) (of_set r.set) i) +ℤ taken_squares observations i

-- What is accepted under a residual limit has the least sum of squares over all full turns.
pub limited_is_least_over_turns : (limit sets targets : ℕ) (c : Choice)
    (observations : List TurnedObservation)
    → IsAcceptedUnder limit sets targets c observations → IsLeastOverTurns c observations
limited_is_least_over_turns limit sets targets c observations a other turns long h =
    by_lt_z (sum_beside c other (with_turns observations turns)) (sum_beside other c observations)
    (λ lt. let t = turned limit sets targets c observations a.held other turns long h
    (omega (arith, ints)) in
    let e : sum_beside c (taken other t.of_target t.of_set) observations
    ≡ sum_beside c other (with_turns observations turns) =
    ap (λ z. pos (c.denominator * c.denominator) *ℤ z)
    (taken_squares other t.of_target t.of_set observations
    ∙ ap (λ (ks : List ℤ). sum_of_squares other (with_turns observations ks)) (sym t.turns_are)) in
    let k = balanced_is_least c observations a.balanced (taken other t.of_target t.of_set) h in
    omega (arith, ints))
    (λ le. le)

-- Under a residual limit, other full turns with the same sum only turn targets and sets as a whole.
pub limited_equal_only_turned : (limit sets targets : ℕ) (c : Choice)
    (observations : List TurnedObservation)
    → IsAcceptedUnder limit sets targets c observations → OnlyTurnedWhole c observations
limited_equal_only_turned limit sets targets c observations a other turns long h e =
    turned limit sets targets c observations a.held other turns long h (omega (arith, ints))
