-- A run of words from the front of some bytes, each with its blank: what a loop over words has
-- passed.
use Rattle.std.proofs.Common.{◌≡◌, ◌≢◌, ℕ, zero, suc, ◌+◌, ◌*◌, ◌<◌, ◌≤◌, true, false, List, []}
use Rattle.std.proofs.Common.{◌∷◌, ◌++◌, length, take, drop, map, replicate, All, Any, ◌⊎◌, inl}
use Rattle.std.proofs.Common.{inr, refl, sym, ap, subst, ◌∙◌, append_assoc, arith, add-one}
use Rattle.std.specs.List.{flat_map, join_with_byte}
use Rattle.std.proofs.lemmas.List.{length-drop, drop-drop, take-append-drop, nil_from_length}
use Rattle.std.proofs.lemmas.List.Elements.{All-cons, All-nil, All-drop}
use Rattle.std.proofs.Math.Nat.{mul-suc}
use Rattle.gsi_word.specs.Words.{IsLineByte, IsWord, spelled}
use Rattle.gsi_word.specs.Blocks.{AreWords}
use Rattle.gsi_word.specs.LineFaults.{EndsWord, followed, IsWordFault}
use Rattle.gsi_word.specs.Layout.{word_of, begins_word, words_from, IsWordBytes}
use Rattle.gsi_word.proofs.WordLaws.{Front, front, no_word, long_of, word_bytes_of}

-- The bytes begin with this many words, and after them and their blanks stands the rest.
abbrev pub Runs : ℕ → ℕ → List ℕ → List ℕ → Type 0
Runs width zero bytes rest = rest ≡ bytes
Runs width (suc n) bytes rest = (begins_word width bytes ≡ true)
    × Runs width n (drop (8 + width) bytes) rest

runs_suc : (width n : ℕ) (bytes rest : List ℕ) → Runs width n bytes rest
    → begins_word width rest ≡ true → Runs width (suc n) bytes (drop (8 + width) rest)
runs_suc width zero bytes rest is e = (
  ap (λ (r : List ℕ). begins_word width r) (sym is)
      ∙ e,
  ap (λ (r : List ℕ). drop (8 + width) r) is,
)
runs_suc width (suc n) bytes rest run e = (
  run.0,
  runs_suc width n (drop (8 + width) bytes) rest run.1 e,
)

-- A run that a word follows is a run of one word more.
pub runs_more : (width n : ℕ) (bytes rest : List ℕ) → Runs width n bytes rest
    → begins_word width rest ≡ true → Runs width (n + 1) bytes (drop (8 + width) rest)
runs_more width n bytes rest run e = subst (λ (k : ℕ). Runs width k bytes (drop (8 + width) rest))
    (sym (add-one n)) (runs_suc width n bytes rest run e)

blank_first : (rest : List ℕ) → EndsWord rest → 0 < length rest → rest ≡ 32 ∷ drop 1 rest
blank_first [] e lt = absurd (omega arith)
blank_first (b ∷ rest) e lt = ap (λ (x : ℕ). x ∷ rest) e

after_blank : (width : ℕ) (bytes : List ℕ) → drop 1 (drop (7 + width) bytes)
    ≡ drop (8 + width) bytes
after_blank width bytes = drop-drop 1 (7 + width) bytes ∙ ap (λ (k : ℕ). drop k bytes) (omega arith)

-- A word, and what follows it.
split_front : (width : ℕ) (bytes : List ℕ) → Front width bytes
    → bytes ≡ spelled (word_of (take (7 + width) bytes)) ++ drop (7 + width) bytes
split_front width bytes f = sym (take-append-drop (7 + width) bytes)
    ∙ ap (λ (w : List ℕ). w ++ drop (7 + width) bytes) f.text

-- A word with its blank, and what follows them, where something does.
split_followed : (width : ℕ) (bytes : List ℕ) → Front width bytes
    → 0 < length (drop (8 + width) bytes) → bytes ≡ spelled (word_of (take (7 + width) bytes)) ++ 32
    ∷ drop (8 + width) bytes
split_followed width bytes f more =
    let longer : 0 < length (drop (7 + width) bytes) =
    omega (arith, length-drop (8 + width) bytes, length-drop (7 + width) bytes, more) in
    let blank : drop (7 + width) bytes ≡ 32 ∷ drop (8 + width) bytes =
    blank_first (drop (7 + width) bytes) f.ends longer
    ∙ ap (λ (r : List ℕ). 32 ∷ r) (after_blank width bytes) in
    split_front width bytes f ∙ ap (λ (r : List ℕ). spelled (word_of (take (7 + width) bytes)) ++ r)
    blank

-- Where a run goes on, or something stands after it, there are bytes at all.
runs_length : (width n : ℕ) (bytes rest : List ℕ) → Runs width n bytes rest → (0 < n)
    ⊎ (0 < length rest) → 0 < length bytes
runs_length width zero bytes rest is (inl lt) = absurd (omega arith)
runs_length width zero bytes rest is (inr lt) = omega (arith, ap length is, lt)
runs_length width (suc n) bytes rest run some = omega (arith, long_of width bytes run.0)

-- What follows the last word: nothing, or a blank and the blanks of the rest.
record Ends (bytes rest : List ℕ) : Type 0 where
  pub blanks : ℕ
  pub text : bytes ≡ replicate blanks 32

last_blanks : (back rest : List ℕ) → EndsWord back → drop 1 back ≡ rest
    → rest ≡ replicate (length rest) 32 → Ends back rest
last_blanks [] rest e is blank = record { blanks = 0; text = refl }
last_blanks (b ∷ back) rest e is blank = record {
  blanks = suc (length rest);
  text = ap (λ (x : ℕ). x ∷ back) e ∙ ap (λ (r : List ℕ). 32 ∷ r) (is ∙ blank);
}

run_is_words : (width n : ℕ) (bytes rest : List ℕ) → Runs width (suc n) bytes rest
    → All IsLineByte bytes → rest ≡ replicate (length rest) 32
    → AreWords width bytes (words_from width (suc n) bytes)
run_is_words width zero bytes rest run h blank =
    let f = front width bytes run.0 h in
    let w = word_of (take (7 + width) bytes) in
    let e = last_blanks (drop (7 + width) bytes) rest f.ends (after_blank width bytes ∙ sym run.1)
    blank in
    record {
      some_word = omega arith;
      each = All-cons (IsWord width) w [] f.word (All-nil (IsWord width));
      blanks = e.blanks;
      text = split_front width bytes f ∙ ap (λ (r : List ℕ). spelled w ++ r) e.text;
    }
run_is_words width (suc n) bytes rest run h blank =
    let f = front width bytes run.0 h in
    let w = word_of (take (7 + width) bytes) in
    let next = drop (8 + width) bytes in
    let tail = run_is_words width n next rest run.1 (All-drop IsLineByte (8 + width) bytes h)
    blank in
    let rest_text = join_with_byte 32 (map spelled (words_from width (suc n) next)) in
    record {
      some_word = omega arith;
      each = All-cons (IsWord width) w (words_from width (suc n) next) f.word tail.each;
      blanks = tail.blanks;
      text = split_followed width bytes f (runs_length width (suc n) next rest run.1
          (inl (omega arith)))
          ∙ ap (λ (r : List ℕ). spelled w ++ 32 ∷ r) tail.text
          ∙ sym (append_assoc (spelled w) (32 ∷ rest_text) (replicate tail.blanks 32));
    }

-- A run of words with nothing but blanks after it is all of the bytes.
pub run_are_words : (width n : ℕ) (bytes rest : List ℕ) → Runs width n bytes rest → 0 < n
    → All IsLineByte bytes → rest ≡ replicate (length rest) 32
    → AreWords width bytes (words_from width n bytes)
run_are_words width zero bytes rest run some h blank = absurd (omega arith)
run_are_words width (suc n) bytes rest run some h blank =
    run_is_words width n bytes rest run h blank

-- The words of a run, each with its blank, and the rest are the bytes.
record Begun (width n : ℕ) (bytes rest : List ℕ) : Type 0 where
  pub each : All (IsWord width) (words_from width n bytes)
  pub text : bytes ≡ flat_map followed (words_from width n bytes) ++ rest

run_begun : (width n : ℕ) (bytes rest : List ℕ) → Runs width n bytes rest → All IsLineByte bytes
    → (n ≡ 0) ⊎ (0 < length rest) → Begun width n bytes rest
run_begun width zero bytes rest is h some = record { each = All-nil (IsWord width); text = sym is }
run_begun width (suc n) bytes rest run h (inl none) = absurd (omega arith)
run_begun width (suc n) bytes rest run h (inr some) =
    let f = front width bytes run.0 h in
    let w = word_of (take (7 + width) bytes) in
    let next = drop (8 + width) bytes in
    let words = words_from width n next in
    let tail = run_begun width n next rest run.1 (All-drop IsLineByte (8 + width) bytes h)
    (inr some) in
    record {
      each = All-cons (IsWord width) w words f.word tail.each;
      text = split_followed width bytes f (runs_length width n next rest run.1 (inr some))
          ∙ ap (λ (r : List ℕ). spelled w ++ 32 ∷ r) tail.text
          ∙ sym (append_assoc (spelled w) (32 ∷ []) (flat_map followed words ++ rest))
          ∙ sym (append_assoc (followed w) (flat_map followed words) rest);
    }

-- So many words that are read from bytes are so many.
pub length_words_from : (width n : ℕ) (bytes : List ℕ) → length (words_from width n bytes) ≡ n
length_words_from width zero bytes = refl
length_words_from width (suc n) bytes = ap suc (length_words_from width n (drop (8 + width) bytes))

-- Where no word begins after a run of words, the next word is a fault, if it isn't blanks alone.
pub run_has_fault : (width n : ℕ) (bytes rest : List ℕ) → Runs width n bytes rest
    → All IsLineByte bytes → begins_word width rest ≡ false → (n ≡ 0) ⊎ Any (λ b. b ≢ 32) rest
    → IsWordFault width bytes (n + 1)
run_has_fault width n bytes rest run h e some =
    let begun = run_begun width n bytes rest run h
    (elim some [ inl none ↦ inl none | inr ink ↦ inr (omega (arith, ink.2)) ]) in
    record {
      words = words_from width n bytes;
      rest = rest;
      each = begun.each;
      text = begun.text;
      place = omega (arith, length_words_from width n bytes);
      fault = no_word width rest e;
      goes_on = elim some [
        | inl none ↦ inl (nil_from_length (words_from width n bytes)
            (length_words_from width n bytes ∙ none))
        | inr ink ↦ inr ink
      ];
    }

-- The bytes after a word and its blank, and after more of them, are those after one word more.
pub drop_words : (width i : ℕ) (bytes : List ℕ)
    → drop ((8 + width) * i) (drop (8 + width) bytes) ≡ drop ((8 + width) * suc i) bytes
drop_words width i bytes = drop-drop ((8 + width) * i) (8 + width) bytes
    ∙ ap (λ (k : ℕ). drop k bytes) (omega (arith, mul-suc (8 + width) i))

-- Each word of a run has its bytes at its place.
pub run_places : (width n : ℕ) (bytes rest : List ℕ) → Runs width n bytes rest
    → All IsLineByte bytes → (i : ℕ) → i < n
    → IsWordBytes width (take (7 + width) (drop ((8 + width) * i) bytes))
run_places width zero bytes rest run h i lt = absurd (omega arith)
run_places width (suc n) bytes rest run h zero lt =
    let none : 0 ≡ (8 + width) * 0 = omega arith in
    subst (λ (k : ℕ). IsWordBytes width (take (7 + width) (drop k bytes))) none
    (word_bytes_of width bytes run.0 h)
run_places width (suc n) bytes rest run h (suc i) lt =
    subst (λ (r : List ℕ). IsWordBytes width (take (7 + width) r)) (drop_words width i bytes)
    (run_places width n (drop (8 + width) bytes) rest run.1
    (All-drop IsLineByte (8 + width) bytes h) i (omega arith))

-- The words of a run have room in the bytes; the blank after the last may be missing.
pub run_room : (width n : ℕ) (bytes rest : List ℕ) → Runs width n bytes rest
    → (8 + width) * n ≤ length bytes + 1
run_room width zero bytes rest run = omega arith
run_room width (suc zero) bytes rest run = omega (arith, long_of width bytes run.0)
run_room width (suc (suc n)) bytes rest run =
    let next = drop (8 + width) bytes in
    let longer : 7 + width ≤ length next = long_of width next run.1.0 in
    omega (
      arith,
      run_room width (suc n) next rest run.1,
      longer,
      length-drop (8 + width) bytes,
      mul-suc (8 + width) (suc n),
    )
