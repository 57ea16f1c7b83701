-- Texts that are put into a slice one after the other.
use Rattle.std.proofs.Common.{◌≡◌, ◌+◌, ◌++◌, ◌<◌, ◌∙◌, ℕ, List, length, take, drop, append_assoc}
use Rattle.std.proofs.Common.{length-append, flat_map, append-nil, sym, ap, subst, add-one, arith}
use Rattle.std.proofs.Math.Seq.{take-suc}
use Rattle.std.proofs.lemmas.Grind.{flat_map-append}
use Rattle.std.proofs.lemmas.List.{drop-drop}
use Rattle.std.proofs.lemmas.List.Concat.{flat_map-cons}
use Rattle.std.specs.Prelude.{[], ◌∷◌, slice_index}
use Rattle.byte_digests.specs.DigestLines.{escaped}
use Rattle.byte_digests.specs.PutAt.{IsPut}

-- After a later end is what stayed after an earlier one.
rest_beyond : (old new : List ℕ) (end more : ℕ) → drop end new ≡ drop end old
    → drop (end + more) new ≡ drop (end + more) old
rest_beyond old new end more h =
    sym (drop-drop more end new) ∙ (ap (drop more) h ∙ drop-drop more end old)

-- Where a text is put after what stayed, what is after it stays.
pub both_rest : (text old now new : List ℕ) (middle end : ℕ) → drop middle now ≡ drop middle old
    → IsPut text middle now new end → drop end new ≡ drop end old
both_rest text old now new middle end h p =
    p.rest ∙ subst (λ (e : ℕ). drop e now ≡ drop e old) (sym p.ends)
    (rest_beyond old now middle (length text) h)

-- The bytes of a name up to the next one.
next_taken : (name : List ℕ) (i : ℕ) → i < length name → flat_map escaped (take (i + 1) name)
    ≡ flat_map escaped (take i name) ++ escaped (slice_index name i)
next_taken name i lt =
    ap (λ (n : ℕ). flat_map escaped (take n name)) (add-one i)
    ∙ (ap (λ (l : List ℕ). flat_map escaped l) (take-suc name i 0 lt)
    ∙ (flat_map-append escaped (take i name) (slice_index name i ∷ [])
    ∙ ap (λ (l : List ℕ). flat_map escaped (take i name) ++ l)
    (flat_map-cons escaped (slice_index name i) [] ∙ append-nil (escaped (slice_index name i)))))

-- Two texts, one after the other.
both_put : (first second : List ℕ) (at : ℕ) (old now new : List ℕ) (middle end : ℕ)
    → IsPut first at old now middle → IsPut second middle now new end → length now ≡ length old
    → IsPut (first ++ second) at old new end
both_put first second at old now new middle end p q same = record {
  ends = omega (arith, p.ends, q.ends, length-append first second);
  fits = omega (arith, q.fits, same);
  stands = q.stands ∙ (ap (λ (l : List ℕ). l ++ second) p.stands
      ∙ append_assoc (take at old) first second);
  rest = both_rest second old now new middle end p.rest q;
}

-- Up to a byte of a name, and this byte.
pub next_put : (name : List ℕ) (i at : ℕ) (old now new : List ℕ) (middle end : ℕ)
    → i < length name → IsPut (flat_map escaped (take i name)) at old now middle
    → IsPut (escaped (slice_index name i)) middle now new end → length now ≡ length old
    → IsPut (flat_map escaped (take (i + 1) name)) at old new end
next_put name i at old now new middle end lt p q same =
    subst (λ (text : List ℕ). IsPut text at old new end) (sym (next_taken name i lt))
    (both_put _ _ _ _ _ _ _ _ p q same)
