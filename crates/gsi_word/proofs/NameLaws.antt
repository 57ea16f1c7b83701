-- The name that a content holds is the content without its leading zeros.
use Rattle.std.proofs.Common.{◌≡◌, ◌≢◌, ℕ, zero, suc, ◌+◌, ◌<◌, ◌≤◌, Bool, true, false, cond, not}
use Rattle.std.proofs.Common.{eqb, List, [], ◌∷◌, ◌++◌, length, get_or, drop, replicate, ◌⊎◌, inl}
use Rattle.std.proofs.Common.{inr, ◌↔◌, refl, sym, ap, subst, ◌∙◌, Option, Some, arith}
use Rattle.std.specs.Prelude.{slice_get, ◌==◌, if◌then◌else◌}
use Rattle.std.specs.List.{prefix_len}
use Rattle.std.proofs.lemmas.Bool.{eqb-true, eqb-false, eq-eqb, ne_eqb}
use Rattle.std.proofs.lemmas.List.{length-append, take_all}
use Rattle.std.proofs.lemmas.Option.{slice_get-get_or}
use lib.Lanes.{chunk}
use Rattle.gsi_word.specs.Names.{name_of, IsNameIn}

-- A zero that is not the last byte goes.
name_step : (bytes : List ℕ) → 1 < length bytes → get_or bytes 0 0 ≡ 48
    → name_of (drop 1 bytes) ≡ name_of bytes
name_step [] lt e = absurd (omega arith)
name_step (b ∷ []) lt e = absurd (omega arith)
name_step (b ∷ c ∷ bytes) lt e = ap (λ (t : Bool). if t then name_of (c ∷ bytes) else b ∷ c ∷ bytes)
    (sym (eq-eqb b 48 e))

-- Where no zero leads, or one byte is left, the content is the name.
name_kept : (bytes : List ℕ) → (length bytes ≤ 1) ⊎ (get_or bytes 0 0 ≢ 48)
    → bytes ≡ name_of bytes
name_kept [] h = refl
name_kept (b ∷ []) h = refl
name_kept (b ∷ c ∷ bytes) (inl short) = absurd (omega arith)
name_kept (b ∷ c ∷ bytes) (inr ne) = ap (λ (t : Bool). if t then name_of (c ∷ bytes)
    else b ∷ c ∷ bytes) (sym (ne_eqb b 48 ne))

-- A content that begins with zeros.
name_after_zeros : (zeros : ℕ) (name : List ℕ) → 0 < length name → (name ≡ 48 ∷ [])
    ⊎ (slice_get name 0 ≢ Some 48) → name ≡ name_of (replicate zeros 48 ++ name)
name_after_zeros zero name some (inl zero_alone) = ap (λ (r : List ℕ). r) zero_alone
    ∙ sym (ap name_of zero_alone)
name_after_zeros zero name some (inr bare) = name_kept name
    (inr (λ e. bare (slice_get-get_or name 0 0 some ∙ ap Some e)))
name_after_zeros (suc zeros) name some bare =
    name_after_zeros zeros name some bare ∙ name_step (48 ∷ (replicate zeros 48 ++ name))
    (omega (arith, length-append (replicate zeros 48) name, some)) refl

same_byte : (b c : ℕ) → ◌≡◌ {A = Option ℕ} (Some b) (Some c) → b ≡ c
same_byte b c e = cc

one_byte : (b : ℕ) (t : Bool) → eqb b 48 ≡ t → ((b ∷ []) ≡ 48 ∷ [])
    ⊎ (slice_get (b ∷ []) 0 ≢ Some 48)
one_byte b true e = inl (ap (λ (x : ℕ). x ∷ []) (eqb-true b 48 e))
one_byte b false e = inr (λ is. eqb-false b 48 e (same_byte b 48 is))

more_bytes : (b c : ℕ) (bytes : List ℕ) (t : Bool) → eqb b 48 ≡ t
    → IsNameIn (c ∷ bytes) (name_of (c ∷ bytes))
    → IsNameIn (b ∷ c ∷ bytes) (if t then name_of (c ∷ bytes) else b ∷ c ∷ bytes)
more_bytes b c bytes true e h = record {
  zeros = suc h.zeros;
  text = ap (λ (x : ℕ). x ∷ c ∷ bytes) (eqb-true b 48 e) ∙ ap (λ (r : List ℕ). 48 ∷ r) h.text;
  some_byte = h.some_byte;
  bare = h.bare;
}
more_bytes b c bytes false e h = record {
  zeros = 0;
  text = refl;
  some_byte = omega arith;
  bare = inr (λ is. eqb-false b 48 e (same_byte b 48 is));
}

name_is : (content : List ℕ) → 0 < length content → IsNameIn content (name_of content)
name_is [] some = absurd (omega arith)
name_is (b ∷ []) some = record {
  zeros = 0;
  text = refl;
  some_byte = some;
  bare = one_byte b (eqb b 48) refl;
}
name_is (b ∷ c ∷ bytes) some = more_bytes b c bytes (eqb b 48) refl
    (name_is (c ∷ bytes) (omega arith))

-- The name that a content of some bytes holds is the content without its leading zeros.
pub name_known : (content name : List ℕ) → 0 < length content
    → IsNameIn content name ↔ (name ≡ name_of content)
name_known content name some = (
  (λ h. name_after_zeros h.zeros name h.some_byte h.bare ∙ ap name_of (sym h.text)),
  (λ e. subst (λ (r : List ℕ). IsNameIn content r) (sym e) (name_is content some)),
)

-- A content begins with no more zeros than it has, and where it begins with none, none goes.
first_kept : (bytes : List ℕ) → (0 ≡ prefix_len (λ b. b == 48) bytes) ⊎ (1 ≡ length bytes)
    → (length bytes ≤ 1) ⊎ (get_or bytes 0 0 ≢ 48)
first_kept [] h = inl (omega arith)
first_kept (b ∷ bytes) (inr one) = inl (omega (arith, one))
first_kept (b ∷ bytes) (inl none) = split (b == 48) refl where
  split : (t : Bool) → (b == 48) ≡ t → (length (b ∷ bytes) ≤ 1) ⊎ (b ≢ 48)
  split true e = absurd (omega (
    arith,
    none ∙ ap
        (λ (t : Bool). cond t (1 + prefix_len (λ b. b == 48) bytes) 0) e,
  ))
  split false e = inr (eqb-false b 48 e)

abbrev zeros : List ℕ → ℕ
zeros bytes = prefix_len (λ b. b == 48) bytes

-- Without the zeros before it a content is its name; of zeros alone the last one stays.
pub name_beyond : (n : ℕ) (bytes : List ℕ) → n ≤ zeros bytes → n < length bytes → (n ≡ zeros bytes)
    ⊎ (n + 1 ≡ length bytes) → drop n bytes ≡ name_of bytes
name_beyond zero bytes le lt h = name_kept bytes (first_kept bytes h)
name_beyond (suc n) [] le lt h = absurd (omega (arith, lt))
name_beyond (suc n) (b ∷ bytes) le lt h = split (name_beyond n bytes) (b == 48) refl where
  rest : zeros (b ∷ bytes) ≡ 1 + zeros bytes → (suc n ≡ zeros (b ∷ bytes))
      ⊎ (suc n + 1 ≡ length (b ∷ bytes)) → (n ≡ zeros bytes) ⊎ (n + 1 ≡ length bytes)
  rest more (inl is) = inl (omega (arith, is, more))
  rest more (inr is) = inr (omega (arith, is))

  split : (n ≤ zeros bytes → n < length bytes → (n ≡ zeros bytes) ⊎ (n + 1 ≡ length bytes)
      → drop n bytes ≡ name_of bytes) → (t : Bool) → (b == 48) ≡ t
      → drop n bytes ≡ name_of (b ∷ bytes)
  split shorter false e = absurd (omega (
    arith,
    le,
    ap (λ (t : Bool). cond t (1 + zeros bytes) 0) e,
  ))
  split shorter true e =
      let more : zeros (b ∷ bytes) ≡ 1 + zeros bytes =
      ap (λ (t : Bool). cond t (1 + zeros bytes) 0) e in
      shorter (omega (arith, le, more)) (omega (arith, lt)) (rest more h)
      ∙ name_step (b ∷ bytes) (omega (arith, lt)) (eqb-true b 48 e)

not_not : (t : Bool) → not (not t) ≡ t
not_not true = refl
not_not false = refl

-- The bytes of a content that are no other than zeros, in a load of them all.
pub zeros_in_load : (n : ℕ) (bytes : List ℕ) → length bytes ≡ n
    → prefix_len (λ b. not (not (b == 48))) (chunk 0 n bytes) ≡ prefix_len (λ b. b == 48) bytes
zeros_in_load n bytes e =
    (λ i. prefix_len (λ b. not_not (b == 48) i) (chunk 0 n bytes))
    ∙ ap (λ (xs : List ℕ). prefix_len (λ b. b == 48) xs) (take_all n bytes (omega (arith, e)))

-- A content of either width has some byte.
pub some_byte : (content : List ℕ) → (length content ≡ 8) ⊎ (length content ≡ 16)
    → 0 < length content
some_byte content (inl e) = omega (arith, e)
some_byte content (inr e) = omega (arith, e)

-- A content of 8 or 16 bytes that has not 8 has 16.
pub long_content : (content : List ℕ) → (length content ≡ 8) ⊎ (length content ≡ 16)
    → (length content ≡ 8 → ⊥) → length content ≡ 16
long_content content (inl e) other = absurd (other e)
long_content content (inr e) other = e
