-- A file has no fault, or one first fault.
use Rattle.std.proofs.Common.{◌≡◌, [], ◌∷◌, Some, None, refl, sym, ap, ◌∙◌, inl, inr, ◌⊎◌, subst}
use Rattle.gsi_word.specs.Blocks.{GsiBlock}
use Rattle.station_book.specs.declared.fault.BookKind.{BookKind}
use Rattle.station_book.specs.Limits.{FaceLimits}
use Rattle.station_book.specs.Places.{History, Place, places, before}
use Rattle.station_book.specs.Faults.{fault_after, IsWithoutFault, IsFaultOfBlock}
use Rattle.station_book.proofs.lists.Elements.{In, in_contains, contains_in}
use Rattle.station_book.proofs.readings.FaceReadings.{none_or_some}

-- each block is without fault
clean_at : (limits : FaceLimits) (h : History) (b : GsiBlock) (past : History)
    → IsWithoutFault limits h → In (b ∷ past) (places h)
    → (fault_after limits past b ≡ None) × IsWithoutFault limits past
clean_at limits [] b past clean placed = absurd placed
clean_at limits (c ∷ rest) b past clean (inl e) =
    subst (λ (p : Place). IsWithoutFault limits p) (sym e) clean
clean_at limits (c ∷ rest) b past clean (inr placed) = clean_at limits rest b past clean.1 placed

-- of two places of a file one is before the other
in_order : (h : History) (a b : Place) → In a (places h) → In b (places h)
    → (a ≡ b) ⊎ (In a (places (before b)) ⊎ In b (places (before a)))
in_order [] a b pa pb = absurd pa
in_order (c ∷ past) a b (inl ea) (inl eb) = inl (ea ∙ sym eb)
in_order (c ∷ past) a b (inl ea) (inr pb) = inr
    (inr (subst (λ (p : Place). In b (places (before p))) (sym ea) pb))
in_order (c ∷ past) a b (inr pa) (inl eb) = inr
    (inl (subst (λ (p : Place). In a (places (before p))) (sym eb) pa))
in_order (c ∷ past) a b (inr pa) (inr pb) = in_order past a b pa pb

-- No block of a file has a fault, or some block has the first one.
pub fault_or_none : (limits : FaceLimits) (h : History)
    → IsWithoutFault limits h
    ⊎ ((past : History) × (b : GsiBlock) × (kind : BookKind) × IsFaultOfBlock limits h past b kind)
fault_or_none limits [] = inl tt
fault_or_none limits (b ∷ past) = elim (fault_or_none limits past) [
  | inl clean ↦ elim (none_or_some (fault_after limits past b)) [
    | inl e ↦ inl (e, clean)
    | inr f ↦ inr (
      past,
      b,
      f.0,
      record {
        placed = contains_in (b ∷ past) (places (b ∷ past)) (inl refl);
        clean = clean;
        fault = f.1;
      },
    )
  ]
  | inr f ↦
      let first = f.3 in inr (
        f.0,
        f.1,
        f.2,
        record {
          placed = contains_in (f.1 ∷ f.0) (places (b ∷ past))
              (inr (in_contains (f.1 ∷ f.0) (places past) first.placed));
          clean = first.clean;
          fault = first.fault;
        },
      )
]

-- where a block has a fault, what comes after isn't without fault
not_clean : (limits : FaceLimits) (h later past : History) (b : GsiBlock) (kind : BookKind)
    → IsFaultOfBlock limits h past b kind → IsWithoutFault limits later
    → In (b ∷ past) (places later) → ⊥
not_clean limits h later past b kind f clean placed =
    let none = (clean_at limits later b past clean placed).0 in
    let bad : Some kind ≡ None = sym f.fault ∙ none in cc

-- In a file without fault no block has the first one.
pub no_first_fault : (limits : FaceLimits) (h past : History) (b : GsiBlock) (kind : BookKind)
    → IsWithoutFault limits h → ¬ IsFaultOfBlock limits h past b kind
no_first_fault limits h past b kind clean f = not_clean limits h h past b kind f clean
    (in_contains (b ∷ past) (places h) f.placed)

-- The first fault is that of one block, and of one kind.
pub one_first_fault : (limits : FaceLimits) (h past older : History) (b c : GsiBlock)
    (kind other : BookKind)
    → IsFaultOfBlock limits h past b kind → IsFaultOfBlock limits h older c other
    → (b ∷ past ≡ c ∷ older) × (kind ≡ other)
one_first_fault limits h past older b c kind other f g = split
    (in_order h (b ∷ past) (c ∷ older) (in_contains (b ∷ past) (places h) f.placed)
    (in_contains (c ∷ older) (places h) g.placed)) where
      split : (b ∷ past ≡ c ∷ older) ⊎ (In (b ∷ past) (places older) ⊎ In (c ∷ older) (places past))
          → (b ∷ past ≡ c ∷ older) × (kind ≡ other)
      split (inl e) =
          let heads : b ≡ c = cc in
          let tails : past ≡ older = ap before e in
          let faults : Some kind ≡ Some other = sym f.fault
          ∙ (λ i. fault_after limits (tails i) (heads i)) ∙ g.fault in
          (e, cc)
      split (inr (inl k)) = absurd (not_clean limits h older past b kind f g.clean k)
      split (inr (inr k)) = absurd (not_clean limits h past older c other g f.clean k)
