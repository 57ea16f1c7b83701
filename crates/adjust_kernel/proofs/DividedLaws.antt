-- Where the sets and targets fall into two parts, one part can be turned alone.
use Rattle.std.proofs.Common.{◌≡◌, ◌≢◌, ◌⊎◌, inl, inr, ℕ, ◌<◌, Bool, true, false, List, ℤ, pos}
use Rattle.std.proofs.Common.{◌+ℤ◌, arith, ap, refl, ◌∙◌}
use Rattle.std.proofs.Math.IntN.{◌*ℤ◌, ◌-ℤ◌}
use Rattle.std.proofs.lemmas.Int.{ints}
use Rattle.std.proofs.lemmas.List.Elements.{recursion_from_All}
use Rattle.adjust_kernel.specs.TurnedObservations.{TurnedObservation}
use Rattle.adjust_kernel.specs.Sums.{squared}
use Rattle.adjust_kernel.specs.Residuals.{Choice, residual, unrolled}
use Rattle.adjust_kernel.specs.Least.{HasAnother}
use Rattle.adjust_kernel.proofs.SumLaws.{AllByRecursion-map, int_sum_by-same_at}
use Rattle.adjust_kernel.specs.Connected.{IsDivided, HasMember}

-- Nothing on the side of b, one on the other.
abbrev lift : Bool → Bool → ℤ
lift true true = pos 0
lift true false = pos 1
lift false true = pos 1
lift false false = pos 0

lift_same : (b : Bool) → lift b b ≡ pos 0
lift_same true = refl
lift_same false = refl

unlike : (z : ℤ) (b side : Bool) → side ≡ b → (b0 : Bool) → lift b0 b ≡ pos 1
    → z +ℤ lift b0 side ≢ z
unlike z b side e b0 k h = let m : lift b0 side ≡ pos 1 = ap (lift b0) e ∙ k in omega (arith, ints)

module _ (sets targets : ℕ) (c : Choice) (observations : List TurnedObservation)
    (datum : c.direction 0 ≡ pos 0)
    (d : IsDivided sets targets observations) where
  abbrev b0 : Bool
  b0 = d.part_of_target 0

  abbrev turned : Choice
  turned = record {
    denominator = c.denominator;
    direction = λ t. c.direction t +ℤ lift b0 (d.part_of_target t);
    orientation = λ s. c.orientation s +ℤ lift b0 (d.part_of_set s);
  }

  at_row : (r : TurnedObservation) → d.part_of_set r.set ≡ d.part_of_target r.target
      → squared (residual turned r) ≡ squared (residual c r)
  at_row r e = let k : lift b0 (d.part_of_set r.set) ≡ lift b0 (d.part_of_target r.target) =
      ap (lift b0) e in
      ap squared (cancel (c.direction r.target) (c.orientation r.set)
      (lift b0 (d.part_of_target r.target)) (lift b0 (d.part_of_set r.set))
      (pos c.denominator *ℤ unrolled r) k)
    where
      cancel : (a o l l' y : ℤ) → l' ≡ l → (a +ℤ l) -ℤ (o +ℤ l') -ℤ y ≡ a -ℤ o -ℤ y
      cancel a o l l' y e = omega (arith, ints)

  abbrev Differ : Type 0
  Differ = ((s : ℕ) × (s < sets) × (turned.orientation s ≢ c.orientation s))
      ⊎ ((t : ℕ) × (t < targets) × (turned.direction t ≢ c.direction t))

  moves : (side : Bool) → lift b0 side ≡ pos 1
      → HasMember sets targets d.part_of_set d.part_of_target side → Differ
  moves side k (inl n) = inl (
    n.0,
    n.1,
    unlike (c.orientation n.0) side (d.part_of_set n.0) n.2 b0
        k,
  )
  moves side k (inr n) = inr (
    n.0,
    n.1,
    unlike (c.direction n.0) side (d.part_of_target n.0) n.2 b0
        k,
  )

  different : (b : Bool) → d.part_of_target 0 ≡ b → Differ
  different true e = moves false (ap (λ b. lift b false) e) d.second_part
  different false e = moves true (ap (λ b. lift b true) e) d.first_part

  -- Where two parts are left, another choice with first direction 0 has the same sum.
  pub divided_has_another : HasAnother sets targets c observations
  divided_has_another = record {
    other = turned;
    denominator = refl;
    first = let e = lift_same b0 in omega (arith, ints, datum);
    different = different b0 refl;
    same_sum = int_sum_by-same_at (λ r. squared (residual turned r)) (λ r. squared (residual c r))
        observations (AllByRecursion-map _ _ at_row observations
        (recursion_from_All (λ r. d.part_of_set r.set ≡ d.part_of_target r.target) observations
        d.none_between));
  }
