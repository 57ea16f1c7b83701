-- The words of one index, found one after another.
use Rattle.std.proofs.Common.{◌≡◌, ◌≢◌, ℕ, ◌+◌, ◌<◌, ◌≤◌, Bool, eqb, List, [], ◌∷◌, ◌++◌, length}
use Rattle.std.proofs.Common.{take, Option, Some, None, inl, inr, refl, sym, ap, ◌∙◌}
use Rattle.std.specs.Prelude.{slice_get, if◌then◌else◌}
use Rattle.std.proofs.lemmas.Bool.{eq-eqb, ne_eqb}
use Rattle.std.proofs.lemmas.List.{take_all, append-nil}
use Rattle.std.proofs.lemmas.List.Elements.{filter_more}
use Rattle.std.proofs.lemmas.Option.{get_or_from_slice_get, slice_get_cases}
use Rattle.gsi_word.specs.Words.{GsiWord}
use Rattle.gsi_word.specs.FoundWords.{words_with, found_among}
use Rattle.gsi_word.specs.declared.found.Found.TheVariants.{Absent, One, Twice}

-- A word of another index.
words_with_other : (index : ℕ) (words : List GsiWord) (i : ℕ) (w : GsiWord) → i < length words
    → slice_get words i ≡ Some w → w.index ≢ index
    → words_with index (take (i + 1) words) ≡ words_with index (take i words)
words_with_other index words i w lt at ne =
    filter_more (λ (v : GsiWord). eqb v.index index) words i w lt
    ∙ ap (λ (v : GsiWord). words_with index (take i words)
    ++ (if eqb v.index index then v ∷ [] else [])) (get_or_from_slice_get words i w w at)
    ∙ ap (λ (t : Bool). words_with index (take i words) ++ (if t then w ∷ [] else []))
    (ne_eqb w.index index ne)
    ∙ append-nil (words_with index (take i words))

-- A word of the index.
words_with_one : (index : ℕ) (words : List GsiWord) (i : ℕ) (w : GsiWord) → i < length words
    → slice_get words i ≡ Some w → w.index ≡ index
    → words_with index (take (i + 1) words) ≡ words_with index (take i words) ++ w ∷ []
words_with_one index words i w lt at e =
    filter_more (λ (v : GsiWord). eqb v.index index) words i w lt
    ∙ ap (λ (v : GsiWord). words_with index (take i words)
    ++ (if eqb v.index index then v ∷ [] else [])) (get_or_from_slice_get words i w w at)
    ∙ ap (λ (t : Bool). words_with index (take i words) ++ (if t then w ∷ [] else []))
    (eq-eqb w.index index e)

none_some : (w : GsiWord) → ◌≡◌ {A = Option GsiWord} None (Some w) → ⊥
none_some w e = cc

-- A place at which a word stands is below their number.
pub below : (words : List GsiWord) (i : ℕ) (w : GsiWord) → slice_get words i ≡ Some w
    → i < length words
below words i w at = elim (slice_get_cases words i).1 [
  | inl found ↦ found.1
  | inr past ↦
      absurd (none_some w (sym past.1 ∙ at))
]

none_found : (ws : List GsiWord) → Absent ≡ found_among ws → ws ≡ []
none_found [] e = refl
none_found (w ∷ []) e = absurd cc
none_found (w ∷ v ∷ ws) e = absurd cc

-- Where no word before has the index, and this one has, it is the one that was found.
pub found_first : (index : ℕ) (words : List GsiWord) (i : ℕ) (w : GsiWord)
    → Absent ≡ found_among (words_with index (take i words)) → slice_get words i ≡ Some w
    → w.index ≡ index → One w ≡ found_among (words_with index (take (i + 1) words))
found_first index words i w none at e =
    let before : words_with index (take i words) ≡ [] =
    none_found (words_with index (take i words)) none in
    ap found_among (ap (λ (ws : List GsiWord). ws ++ w ∷ []) (sym before)
    ∙ sym (words_with_one index words i w (below words i w at) at e))

twice : (before : List GsiWord) (w : GsiWord) → found_among before ≢ Absent
    → Twice ≡ found_among (before ++ w ∷ [])
twice [] w some = absurd (some refl)
twice (x ∷ []) w some = refl
twice (x ∷ y ∷ before) w some = refl

-- Where a word before has the index, and this one too, it was found twice.
pub found_further : (index : ℕ) (words : List GsiWord) (i : ℕ) (w : GsiWord)
    → found_among (words_with index (take i words)) ≢ Absent → slice_get words i ≡ Some w
    → w.index ≡ index → Twice ≡ found_among (words_with index (take (i + 1) words))
found_further index words i w some at e =
    twice (words_with index (take i words)) w some
    ∙ ap found_among (sym (words_with_one index words i w (below words i w at) at e))

-- A word of another index leaves what was found as it is.
pub found_other : (index : ℕ) (words : List GsiWord) (i : ℕ) (w : GsiWord)
    → slice_get words i ≡ Some w → w.index ≢ index
    → found_among (words_with index (take i words))
    ≡ found_among (words_with index (take (i + 1) words))
found_other index words i w at ne = ap found_among
    (sym (words_with_other index words i w (below words i w at) at ne))

-- A place at which no word stands is past the last.
past : (words : List GsiWord) (i : ℕ) → slice_get words i ≡ None → length words ≤ i
past words i at = elim (slice_get_cases words i).1
    [ inl found ↦ absurd (none_some found.0 (sym at ∙ found.2)) | inr out ↦ out.0 ]

-- Past the last word, what was found is what is found among all words.
pub found_all : (index : ℕ) (words : List GsiWord) (i : ℕ) → slice_get words i ≡ None
    → found_among (words_with index (take i words)) ≡ found_among (words_with index words)
found_all index words i at = ap (λ (ws : List GsiWord). found_among (words_with index ws))
    (take_all i words (past words i at))
