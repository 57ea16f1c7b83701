-- The name in the first word 42 of some words, which are gone through one by one.
use Rattle.std.proofs.Common.{◌≡◌, ℕ, List, ◌∷◌, Option, Some, refl}
use Rattle.std.specs.Prelude.{slice_get}
use Rattle.std.specs.Option.{option_map}
use Rattle.std.proofs.lemmas.Bool.{eq-eqb, ne_eqb}
use Rattle.gsi_word.specs.Words.{GsiWord}
use Rattle.gsi_word.specs.FoundWords.{words_with}
use Rattle.gsi_word.specs.Names.{name_of}

-- the name in the first word 42, if there is one
abbrev pub first_named : List GsiWord → Option (List ℕ)
first_named words = option_map (λ w. name_of w.content) (slice_get (words_with 42 words) 0)

-- It is in the next word, where this is a word 42.
pub named_here : (w : GsiWord) (ws : List GsiWord) → w.index ≡ 42
    → first_named (w ∷ ws) ≡ Some (name_of w.content)
named_here w ws e = rw (eq-eqb w.index 42 e) refl

-- Else it is in those after that.
pub named_later : (w : GsiWord) (ws : List GsiWord) → (w.index ≡ 42 → ⊥)
    → first_named (w ∷ ws) ≡ first_named ws
named_later w ws e = rw (ne_eqb w.index 42 e) refl
