-- What a block does to what is looked up in the places before it; owners stand in order.
use Rattle.std.proofs.Common.{◌≡◌, ◌≤◌, Bool, true, false, cond, ◌&&◌, List, [], ◌∷◌, length}
use Rattle.std.proofs.Common.{filter, refl, ap, ◌∙◌, arith, inl, inr, ℕ, ◌<◌}
use Rattle.std.proofs.lemmas.Bool.{ne_eqb, eq-eqb, and_right, cases_Bool}
use Rattle.gsi_word.specs.Blocks.{GsiBlock}
use Rattle.station_book.specs.Places.{History, Place, places, last, before, belonging, is_same}
use Rattle.std.specs.List.{AllByRecursion}

-- the last place is none of those that come after
pub length-last : (p : GsiBlock → Bool) (past : History) → length (last p past) ≤ length past
length-last p [] = omega arith
length-last p (b ∷ past) = elim (cases_Bool (p b)) [
  | inl t ↦ rw t (omega arith)
  | inr f ↦ rw f (let h = length-last p past in omega (arith, h))
]

skip : {X : Type 0} (test : X → Bool) (x : X) (xs : List X) → test x ≡ false
    → filter test (x ∷ xs) ≡ filter test xs
skip test x xs e = rw e

-- nothing belongs to a place that is still to come
none_later : (p : GsiBlock → Bool) (kind : Place → Bool) (owner : Place) (past : History)
    → length past ≤ length owner → belonging p kind owner past ≡ []
none_later p kind owner [] le = refl
none_later p kind owner (b ∷ past) le = skip
    (λ place. kind place && is_same (last p (before place)) owner) (b ∷ past) (places past)
    (and_right (kind (b ∷ past)) (is_same (last p past) owner)
    (ne_eqb (length (last p past)) (length owner)
    (λ e. let l = length-last p past in absurd (omega arith))))
    ∙ none_later p kind owner past (omega arith)

-- nothing belongs to a block of the owner's kind yet
pub belonging-fresh : (p : GsiBlock → Bool) (kind : Place → Bool) (b : GsiBlock) (past : History)
    → p b ≡ true → belonging p kind (last p (b ∷ past)) (b ∷ past) ≡ []
belonging-fresh p kind b past e =
    ap (λ v. belonging p kind (cond v (b ∷ past) (last p past)) (b ∷ past)) e
    ∙ none_later p kind (b ∷ past) (b ∷ past) (omega arith)

-- another block of this kind belongs to the last owner
pub belonging-more : (p : GsiBlock → Bool) (kind : Place → Bool) (b : GsiBlock) (past : History)
    → p b ≡ false → kind (b ∷ past) ≡ true
    → belonging p kind (last p (b ∷ past)) (b ∷ past) ≡ (b ∷ past) ∷ belonging p kind
    (last p past) past
belonging-more p kind b past e k =
    ap (λ v. belonging p kind (cond v (b ∷ past) (last p past)) (b ∷ past)) e
    ∙ rw (k, eq-eqb (length (last p past)) (length (last p past)) refl)

-- any other block changes nothing
pub belonging-same : (p : GsiBlock → Bool) (kind : Place → Bool) (b : GsiBlock) (past : History)
    → p b ≡ false → kind (b ∷ past) ≡ false
    → belonging p kind (last p (b ∷ past)) (b ∷ past) ≡ belonging p kind (last p past) past
belonging-same p kind b past e k =
    ap (λ v. belonging p kind (cond v (b ∷ past) (last p past)) (b ∷ past)) e ∙ rw k

-- what belongs to another owner stays
belonging-other : (p : GsiBlock → Bool) (kind : Place → Bool) (owner : Place) (b : GsiBlock)
    (past : History) → is_same (last p past) owner ≡ false
    → belonging p kind owner (b ∷ past) ≡ belonging p kind owner past
belonging-other p kind owner b past e = skip
    (λ place. kind place && is_same (last p (before place)) owner) (b ∷ past) (places past)
    (and_right (kind (b ∷ past)) _ e)

-- the last owner only moves on
last_grows : (p : GsiBlock → Bool) (b : GsiBlock) (past : History)
    → length (last p past) ≤ length (last p (b ∷ past))
last_grows p b past = elim (cases_Bool (p b)) [
  | inl t ↦ rw t (let h = length-last p past in omega (arith, h))
  | inr f ↦ rw f (omega arith)
]

all_below : (p : GsiBlock → Bool) (n m : ℕ) (xs : List Place) → n ≤ m
    → AllByRecursion (λ s. length (last p (before s)) ≤ n) xs
    → AllByRecursion (λ s. length (last p (before s)) ≤ m) xs
all_below p n m [] le h = tt
all_below p n m (x ∷ xs) le h = ((let q = h.0 in omega (arith, q, le)), all_below p n m xs le h.1)

-- no place has an owner after the last one
pub owners_in_order : (p : GsiBlock → Bool) (past : History)
    → AllByRecursion (λ s. length (last p (before s)) ≤ length (last p past)) (places past)
owners_in_order p [] = tt
owners_in_order p (b ∷ past) = (
  last_grows p b past,
  all_below p (length (last p past)) (length (last p (b ∷ past)))
      (places past) (last_grows p b past) (owners_in_order p past),
)

-- what belongs to an owner before the last one is not changed by a block
pub belonging-older : (p : GsiBlock → Bool) (kind : Place → Bool) (owner : Place) (b : GsiBlock)
    (past : History) → length owner < length (last p past)
    → belonging p kind owner (b ∷ past) ≡ belonging p kind owner past
belonging-older p kind owner b past lt = belonging-other p kind owner b past
    (ne_eqb (length (last p past)) (length owner) (λ e. absurd (omega (arith, e, lt))))
