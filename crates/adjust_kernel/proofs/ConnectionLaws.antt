-- Whether observations hold all sets and targets together can be told of any list: each set and
-- each target gets a label, and each observation makes the labels of its set and its target one.
use Rattle.std.proofs.Common.{◌≡◌, ◌≢◌, ◌⊎◌, inl, inr, ℕ, suc, zero, ◌+◌, ◌<◌, Bool, true, false}
use Rattle.std.proofs.Common.{cond, eqb, List, [], ◌∷◌, arith, ap, refl, sym, ◌∙◌}
use Rattle.std.specs.List.{AllByRecursion}
use Rattle.std.proofs.lemmas.Bool.{ne_eqb}
use Rattle.std.proofs.lemmas.Bool.Decides.{nat_tests}
use Rattle.std.proofs.lemmas.List.Elements.{All-from_recursion, recursion_from_All}
use native.Mathlib.Decide.{ℕ_discrete}
use Rattle.adjust_kernel.specs.Connected.{IsConnected, IsDivided, HasMember}
use Rattle.adjust_kernel.specs.Firsts.{IsFirstWhere}
use Rattle.adjust_kernel.specs.TurnedObservations.{TurnedObservation}
use Rattle.adjust_kernel.proofs.FirstLaws.{none_or_first, by_not_not, dec_not}
use Rattle.adjust_kernel.proofs.ReachLaws.{AllWithin}
use Rattle.adjust_kernel.proofs.SumLaws.{AllByRecursion-map}

-- The part of a set, which is on the left, or of a target.
abbrev part : (ℕ → Bool) → (ℕ → Bool) → ℕ ⊎ ℕ → Bool
part p q (inl s) = p s
part p q (inr t) = q t

-- At first no two have one label.
abbrev own_label : ℕ ⊎ ℕ → ℕ
own_label (inl s) = s + s
own_label (inr t) = suc (t + t)

-- Label a becomes label b.
abbrev merged : ℕ → ℕ → ℕ → ℕ
merged a b n = cond (eqb n a) b n

abbrev label : List TurnedObservation → ℕ ⊎ ℕ → ℕ
label [] x = own_label x
label (r ∷ observations) x = merged (label observations (inl r.set))
    (label observations (inr r.target))
    (label observations x)

merged_is : (a b n : ℕ) → n ≡ a → merged a b n ≡ b
merged_is a b n e = grind (arith, nat_tests)

merged_other : (a b n : ℕ) → n ≢ a → merged a b n ≡ n
merged_other a b n f = ap (λ t. cond t b n) (ne_eqb n a f)

merged_both : (a b : ℕ) → merged a b a ≡ merged a b b
merged_both a b = merged_is a b a refl ∙ sym (by (ℕ_discrete b a)) where
  by : Dec (b ≡ a) → merged a b b ≡ b
  by (yes e) = merged_is a b b e
  by (no f) = merged_other a b b f

-- The set and the target of an observation have one label.
joined : (observations : List TurnedObservation) → AllByRecursion
    (λ r. label observations (inl r.set) ≡ label observations (inr r.target)) observations
joined [] = tt
joined (r ∷ observations) =
    let a = label observations (inl r.set) in
    let b = label observations (inr r.target) in (
      merged_both a b,
      AllByRecursion-map (λ (x : TurnedObservation). label observations (inl x.set)
          ≡ label observations (inr x.target)) (λ x. label (r ∷ observations) (inl x.set)
          ≡ label (r ∷ observations) (inr x.target)) (λ x e. ap (merged a b) e) observations
          (joined observations),
    )

module _ (p q : ℕ → Bool) where
  own_part : (x y : ℕ ⊎ ℕ) → own_label x ≡ own_label y → part p q x ≡ part p q y
  own_part (inl s) (inl s') e = ap p (omega (arith, e))
  own_part (inl s) (inr t) e = absurd (omega (arith, e))
  own_part (inr t) (inl s) e = absurd (omega (arith, e))
  own_part (inr t) (inr t') e = ap q (omega (arith, e))

  -- Something in the same part that had this label before this observation was taken.
  abbrev HadLabel : TurnedObservation → List TurnedObservation → ℕ ⊎ ℕ → Type 0
  HadLabel r observations x = (y : ℕ ⊎ ℕ) × (label observations y ≡ label (r ∷ observations) x)
      × (part p q y ≡ part p q x)

  -- What has one label lies in one part, where no observation stands between the parts.
  one_part : (observations : List TurnedObservation) → AllWithin p q observations → (x y : ℕ ⊎ ℕ)
      → label observations x ≡ label observations y → part p q x ≡ part p q y
  one_part [] w x y e = own_part x y e
  one_part (r ∷ observations) w x y e = by (one_part observations w.1) w.0 where
    before : ((x y : ℕ ⊎ ℕ) → label observations x ≡ label observations y → part p q x ≡ part p q y)
        → p r.set ≡ q r.target → (x : ℕ ⊎ ℕ)
        → Dec (label observations x ≡ label observations (inl r.set))
        → HadLabel r observations x
    before same k x (yes e) = (
      inr r.target,
      sym
          (merged_is (label observations (inl r.set)) (label observations (inr r.target))
          (label observations x)
          e),
      sym k ∙ same (inl r.set) x (sym e),
    )
    before same k x (no f) = (
      x,
      sym (merged_other (label observations (inl r.set))
          (label observations (inr r.target)) (label observations x) f),
      refl,
    )

    by : ((x y : ℕ ⊎ ℕ) → label observations x ≡ label observations y → part p q x ≡ part p q y)
        → p r.set ≡ q r.target → part p q x ≡ part p q y
    by same k =
        let (u, l, m) = before same k x (ℕ_discrete (label observations x)
        (label observations (inl r.set))) in
        let (v, l', m') = before same k y (ℕ_discrete (label observations y)
        (label observations (inl r.set))) in
        sym m ∙ same u v (l ∙ e ∙ sym l') ∙ m'

module _ (sets targets : ℕ) where
  abbrev IsMember : ℕ ⊎ ℕ → Type 0
  IsMember (inl s) = s < sets
  IsMember (inr t) = t < targets

  member : (p q : ℕ → Bool) (side : Bool) (x : ℕ ⊎ ℕ) → IsMember x → part p q x ≡ side
      → HasMember sets targets p q side
  member p q side (inl s) h e = inl (s, h, e)
  member p q side (inr t) h e = inr (t, h, e)

  module _ (observations : List TurnedObservation) (first : ℕ ⊎ ℕ) (inside : IsMember first) where
    abbrev first_label : ℕ
    first_label = label observations first

    -- Those that have the label of the first, and the others.
    abbrev alike : ℕ ⊎ ℕ → Bool
    alike x = eqb (label observations x) first_label

    split : (x : ℕ ⊎ ℕ) → IsMember x → label observations x ≢ first_label
        → IsDivided sets targets observations
    split x h f =
        let p : ℕ → Bool = λ s. alike (inl s) in
        let q : ℕ → Bool = λ t. alike (inr t) in
        record {
          part_of_set = p;
          part_of_target = q;
          none_between = All-from_recursion (λ (r : TurnedObservation).
              p r.set ≡ q r.target) observations
              (AllByRecursion-map (λ (r : TurnedObservation). label observations (inl r.set)
              ≡ label observations (inr r.target)) (λ r. p r.set ≡ q r.target)
              (λ r e. ap (λ n. eqb n first_label) e) observations (joined observations));
          first_part = member p q true first inside (side first ∙ itself first_label);
          second_part = member p q false x h (side x ∙ ne_eqb (label observations x) first_label f);
        }
      where
        itself : (n : ℕ) → eqb n n ≡ true
        itself n = grind (arith, nat_tests)

        side : (x : ℕ ⊎ ℕ) → part (λ s. alike (inl s)) (λ t. alike (inr t)) x ≡ alike x
        side (inl s) = refl
        side (inr t) = refl

    whole : ((s : ℕ) → s < sets → label observations (inl s) ≡ first_label)
        → ((t : ℕ) → t < targets → label observations (inr t) ≡ first_label)
        → IsConnected sets targets observations
    whole of_sets of_targets d = let e : true ≡ false = at true d.first_part
        ∙ sym (at false d.second_part) in cc where
          within : AllWithin d.part_of_set d.part_of_target observations
          within = recursion_from_All (λ (r : TurnedObservation). d.part_of_set r.set
              ≡ d.part_of_target r.target)
              observations d.none_between

          at : (side : Bool) → HasMember sets targets d.part_of_set d.part_of_target side
              → side ≡ part d.part_of_set d.part_of_target first
          at side (inl (s, h, e)) = sym e
              ∙ one_part d.part_of_set d.part_of_target observations within
              (inl s) first (of_sets s h)
          at side (inr (t, h, e)) = sym e
              ∙ one_part d.part_of_set d.part_of_target observations within
              (inr t) first (of_targets t h)

    -- The label of a set or of a target is another.
    abbrev Other : (ℕ → ℕ ⊎ ℕ) → ℕ → Type 0
    Other node n = label observations (node n) ≢ first_label

    other : (node : ℕ → ℕ ⊎ ℕ) (n : ℕ) → Dec (Other node n)
    other node n = dec_not (ℕ_discrete (label observations (node n)) first_label)

    told : IsConnected sets targets observations ⊎ IsDivided sets targets observations
    told = by (none_or_first (Other inl) (other inl) sets)
        (none_or_first (Other inr) (other inr) targets) where
          by : ((s : ℕ) → s < sets → Other inl s → ⊥) ⊎ ((s : ℕ) × IsFirstWhere (Other inl) sets s)
              → ((t : ℕ) → t < targets → Other inr t → ⊥)
              ⊎ ((t : ℕ) × IsFirstWhere (Other inr) targets t)
              → IsConnected sets targets observations
              ⊎ IsDivided sets targets observations
          by (inl f) (inl g) = inl (whole
              (λ s h. by_not_not (ℕ_discrete (label observations (inl s)) first_label) (f s h))
              (λ t h. by_not_not (ℕ_discrete (label observations (inr t)) first_label) (g t h)))
          by (inr (s, f)) g = inr (split (inl s) f.inside f.here)
          by (inl f) (inr (t, g)) = inr (split (inr t) g.inside g.here)

-- The observations hold all together, or leave two parts.
pub connected_or_divided : (sets targets : ℕ) (observations : List TurnedObservation)
    → IsConnected sets targets observations ⊎ IsDivided sets targets observations
connected_or_divided zero zero observations = inl (λ d. none d.first_part) where
  none : {p q : ℕ → Bool} → HasMember 0 0 p q true → ⊥
  none (inl (s, h, e)) = omega arith
  none (inr (t, h, e)) = omega arith
connected_or_divided sets (suc targets) observations =
    told sets (suc targets) observations (inr 0) (omega arith)
connected_or_divided (suc sets) zero observations = told (suc sets) 0 observations (inl 0)
    (omega arith)
