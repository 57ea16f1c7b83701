-- The words that an iterator has left.
use Rattle.std.proofs.Common.{◌≡◌, ℕ, suc, ◌+◌, List, ◌∷◌, drop, Some, sym, ap, ◌∙◌, drop-cons}
use Rattle.std.proofs.Common.{add-one}
use Rattle.std.specs.Prelude.{slice_get}
use Rattle.std.proofs.lemmas.Option.{get_or_from_slice_get, slice_get_within}
use Rattle.gsi_word.specs.Words.{GsiWord}

-- The word at a place is the first of those from there on.
pub first_left : (words : List GsiWord) (place : ℕ) (w : GsiWord) → slice_get words place ≡ Some w
    → drop place words ≡ w ∷ drop (place + 1) words
first_left words place w at =
    drop-cons words place w (slice_get_within words place w at)
    ∙ ap (λ (v : GsiWord). v ∷ drop (suc place) words) (get_or_from_slice_get words place w w at)
    ∙ ap (λ (k : ℕ). w ∷ drop k words) (sym (add-one place))
