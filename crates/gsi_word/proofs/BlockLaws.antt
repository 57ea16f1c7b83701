-- A block kept as bytes, a width and a number of words.
use Rattle.std.proofs.Common.{◌≡◌, ℕ, zero, suc, ◌+◌, ◌-◌, ◌*◌, ◌<◌, ◌≤◌, List, length, take, drop}
use Rattle.std.proofs.Common.{IsTrue, subst, Some, None, refl, ap, ◌∙◌, arith}
use Rattle.std.specs.Prelude.{slice_get}
use Rattle.std.proofs.lemmas.List.{length-take, get_or-take}
use Rattle.gsi_word.specs.Layout.{word_of, words_from, is_width, HasIndex, IsWordBytes, IsWholeWord}
use Rattle.gsi_word.specs.Layout.{KeepsWords}
use Rattle.gsi_word.proofs.RunLaws.{drop_words}

-- The word at a place below the count is read from the bytes at that many words and blanks.
pub slice_get-words_from : (width count i : ℕ) (bytes : List ℕ) → i < count
    → slice_get (words_from width count bytes) i
    ≡ Some (word_of (take (7 + width) (drop ((8 + width) * i) bytes)))
slice_get-words_from width zero i bytes lt = absurd (omega arith)
slice_get-words_from width (suc n) zero bytes lt =
    let none : 0 ≡ (8 + width) * 0 = omega arith in
    ap (λ (k : ℕ). Some (word_of (take (7 + width) (drop k bytes)))) none
slice_get-words_from width (suc n) (suc i) bytes lt =
    slice_get-words_from width n i (drop (8 + width) bytes) (omega arith)
    ∙ ap (λ (r : List ℕ). Some (word_of (take (7 + width) r))) (drop_words width i bytes)

-- At a place from the count on there is no word.
pub slice_get-words_from_past : (width count i : ℕ) (bytes : List ℕ) → count ≤ i
    → slice_get (words_from width count bytes) i ≡ None
slice_get-words_from_past width zero i bytes le = refl
slice_get-words_from_past width (suc n) zero bytes le = absurd (omega arith)
slice_get-words_from_past width (suc n) (suc i) bytes le =
    slice_get-words_from_past width n i (drop (8 + width) bytes) (omega arith)

index_of_take : (n : ℕ) (bytes : List ℕ) → 2 ≤ n → HasIndex (take n bytes) → HasIndex bytes
index_of_take n bytes le h =
    record {
      long = omega (arith, h.long, length-take n bytes);
      tens = subst (λ (b : ℕ). (48 ≤ b) × (b ≤ 57)) (get_or-take n bytes 0 0 (omega arith)) h.tens;
      ones = subst (λ (b : ℕ). (48 ≤ b) × (b ≤ 57)) (get_or-take n bytes 1 0 (omega arith)) h.ones;
    }

-- The bytes of a block begin with the two digits of its first word.
pub first_index : (width count : ℕ) (bytes : List ℕ) → KeepsWords width bytes count → HasIndex bytes
first_index width count bytes kept =
    let none : (8 + width) * 0 ≡ 0 = omega arith in
    let first : IsWordBytes width (take (7 + width) bytes) =
    subst (λ (k : ℕ). IsWordBytes width (take (7 + width) (drop k bytes))) none
    (kept.each 0 kept.some_word) in
    index_of_take (7 + width) bytes (omega arith) first.digits

-- The place of a word as the code computes it.
word_place : (width i : ℕ) → (7 + width + 1) * i ≡ (8 + width) * i
word_place width i = let e : 7 + width + 1 ≡ 8 + width = omega arith in ap (λ (k : ℕ). k * i) e

-- The bytes of a word of one of the two widths are a whole word.
pub whole_word : (width : ℕ) (bytes : List ℕ) → IsTrue (is_width width) → IsWordBytes width bytes
    → IsWholeWord bytes
whole_word width bytes known h =
    let w : width ≡ length bytes - 7 = omega (arith, h.len) in
    record {
      long = omega (arith, h.len);
      width_known = subst (λ (n : ℕ). IsTrue (is_width n)) w known;
      word = subst (λ (n : ℕ). IsWordBytes n bytes) w h;
    }

after_start : (start size : ℕ) → start + size - start ≡ size
after_start start size = omega arith

-- The bytes of a word, as the code takes them and as the definitions do.
pub word_span : (width i : ℕ) (bytes : List ℕ)
    → take ((7 + width + 1) * i + (7 + width) - (7 + width + 1) * i)
    (drop ((7 + width + 1) * i) bytes) ≡ take (7 + width) (drop ((8 + width) * i) bytes)
word_span width i bytes =
    ap (λ (n : ℕ). take n (drop ((7 + width + 1) * i) bytes))
    (after_start ((7 + width + 1) * i) (7 + width))
    ∙ ap (λ (k : ℕ). take (7 + width) (drop k bytes)) (word_place width i)
