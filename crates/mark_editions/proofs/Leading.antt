-- The leading readings of a station, and those of them that are no details.
use Rattle.std.proofs.Common.{◌≡◌, ℕ, zero, suc, ◌<◌, ◌≤◌, Bool, true, false, List, [], ◌∷◌}
use Rattle.std.proofs.Common.{◌++◌, length, take, drop, Option, Some, None, refl, sym, ap, subst}
use Rattle.std.proofs.Common.{◌∙◌, inl, inr, arith, All}
use Rattle.std.specs.Option.{option_map}
use Rattle.std.proofs.Math.Seq.{take-append_seam}
use Rattle.std.proofs.lemmas.Bool.{cases_Bool}
use Rattle.std.proofs.lemmas.List.{take-append-drop, length-take-le, drop_at}
use Rattle.std.proofs.lemmas.List.Elements.{filter-append}
use Rattle.gsi_file.specs.FileAnswers.{least}
use Rattle.set_marks.specs.declared.sight.Sight.{Sight}
use Rattle.set_marks.specs.Divisions.{known_in, place_of}
use Rattle.set_marks.proofs.AmongDetails.{is_known, all_kept, first_place}

-- The place of a reading that is known stands before so many, where more are known among these.
pub place_within : (others : List Sight) (k before : ℕ) (rs : List Sight)
    → k < length (known_in others (take before rs)) → place_of others k rs < before
place_within others k zero rs lt = absurd (omega (arith, lt))
place_within others k (suc before) [] lt = absurd (omega (arith, lt))
place_within others zero (suc before) (r ∷ rs) lt = elim (cases_Bool (is_known others r)) [
  | inl h ↦ rw h (omega arith)
  | inr h ↦ let less = place_within others 0 before rs (rw h at lt) in rw h (omega (arith, less))
]
place_within others (suc k) (suc before) (r ∷ rs) lt = elim (cases_Bool (is_known others r)) [
  | inl h ↦
      let more : suc k < suc (length (known_in others (take before rs))) = rw h at lt in
      let less = place_within others k before rs (omega (arith, more)) in
      rw h (omega (arith, less))
  | inr h ↦
      let less = place_within others (suc k) before rs (rw h at lt) in rw h (omega (arith, less))
]

place_more : (others : List Sight) (k : ℕ) (r : Sight) (rs : List Sight)
    → is_known others r ≡ false → place_of others k (r ∷ rs) ≡ suc (place_of others k rs)
place_more others zero r rs h = rw h refl
place_more others (suc k) r rs h = rw h refl

-- A known reading stands after all before it.
pub place_is : (others : List Sight) (before : ℕ) (rs : List Sight) (r : Sight)
    (more : List Sight) → drop before rs ≡ r ∷ more → is_known others r ≡ true
    → place_of others (length (known_in others (take before rs))) rs ≡ before
place_is others zero [] r more e known = cc
place_is others zero (s ∷ rs) r more e known =
    let same : r ≡ s = cc in
    first_place others s rs (subst (λ (x : Sight). is_known others x ≡ true) same known)
place_is others (suc before) [] r more e known = cc
place_is others (suc before) (s ∷ rs) r more e known = elim (cases_Bool (is_known others s)) [
  | inl h ↦ rw h (rw h (ap (λ (k : ℕ). suc k) (place_is others before rs r more e known)))
  | inr h ↦ rw h (place_more others (length (known_in others (take before rs))) s rs h
      ∙ ap (λ (k : ℕ). suc k) (place_is others before rs r more e known))
]

-- Where all readings up to a place are known, they are the first that are, and then come those
-- after it.
pub record Kept (others : List Sight) (end : ℕ) (rs : List Sight) : Type 0 where
  pub same : take end (known_in others rs) ≡ take end rs
  pub after : drop end (known_in others rs) ≡ known_in others (drop end rs)

pub kept_up_to : (others : List Sight) (end : ℕ) (rs : List Sight) → end ≤ length rs
    → All (λ r. is_known others r ≡ true) (take end rs) → Kept others end rs
kept_up_to others end rs le known =
    let front = take end rs in
    let after = known_in others (drop end rs) in
    let split : known_in others rs ≡ front ++ after =
    ap (λ (l : List Sight). known_in others l) (sym (take-append-drop end rs))
    ∙ filter-append (λ x. is_known others x) front (drop end rs)
    ∙ ap (λ (l : List Sight). l ++ after) (all_kept others front known) in
    let long : length front ≡ end = length-take-le end rs le in
    record {
      same = ap (λ (l : List Sight). take end l) split
          ∙ ap (λ (k : ℕ). take k (front ++ after)) (sym long) ∙ take-append_seam front after;
      after = ap (λ (l : List Sight). drop end l) split ∙ drop_at front after end long;
    }

-- A number passes a test, and none below it does.
pub record IsLeast (p : ℕ → Bool) (last n : ℕ) : Type 0 where
  pub few : n ≤ last
  pub here : p n ≡ true
  pub fewer : (k : ℕ) → k < n → p k ≡ false

least_zero : (p : ℕ → Bool) (last n : ℕ) → n ≡ 0 → p 0 ≡ true → IsLeast p last n
least_zero p last n e h = record {
  few = omega (arith, e);
  here = ap p e ∙ h;
  fewer = λ k lt. absurd (omega (arith, e, lt));
}

none_below : (p : ℕ → Bool) (m : ℕ) → p 0 ≡ false
    → ((k : ℕ) → k < m → p (suc k) ≡ false) → (k : ℕ) → k < suc m → p k ≡ false
none_below p m h f zero lt = h
none_below p m h f (suc k) lt = f k (omega (arith, lt))

least_more : (p : ℕ → Bool) (last n : ℕ) → p 0 ≡ false → (o : Option ℕ)
    → ((m : ℕ) → o ≡ Some m → IsLeast (λ k. p (suc k)) last m)
    → option_map (λ k. suc k) o ≡ Some n → IsLeast p (suc last) n
least_more p last n h (Some m) l e =
    let is : n ≡ suc m = cc in
    let below = l m refl in
    let few = below.few in
    subst (λ (k : ℕ). IsLeast p (suc last) k) (sym is) (record {
      few = omega (arith, few);
      here = below.here;
      fewer = none_below p m h below.fewer;
    })
least_more p last n h None l e = cc

-- The least number is the least that passes.
pub is_least : (p : ℕ → Bool) (last n : ℕ) → least p last ≡ Some n → IsLeast p last n
is_least p zero n e = elim (cases_Bool (p 0)) [
  | inl h ↦
      let f : Some 0 ≡ Some n = rw h at e in
      let g : n ≡ 0 = cc in least_zero p zero n g h
  | inr h ↦ let f : None ≡ Some n = rw h at e in cc
]
is_least p (suc last) n e = elim (cases_Bool (p 0)) [
  | inl h ↦
      let f : Some 0 ≡ Some n = rw h at e in
      let g : n ≡ 0 = cc in least_zero p (suc last) n g h
  | inr h ↦
      let f : option_map (λ k. suc k) (least (λ k. p (suc k)) last) ≡ Some n = rw h at e in
      least_more p last n h (least (λ k. p (suc k)) last) (is_least (λ k. p (suc k)) last) f
]
