-- The words of one index in a block: what a search for an index is to find.
use Rattle.std.specs.Prelude.{◌==◌, ℕ, Bool, true, false, List, [], ◌∷◌, filter}
use Rattle.gsi_word.specs.declared.found.Found.{Found}
use Rattle.gsi_word.specs.declared.found.Found.TheVariants.{Absent, One, Twice}
use Rattle.gsi_word.specs.Words.{GsiWord}

-- The words of this index, in order.
abbrev pub words_with : ℕ → List GsiWord → List GsiWord
words_with index words = filter (λ w. w.index == index) words

-- None, the only one, or more than one.
abbrev pub found_among : List GsiWord → Found
found_among [] = Absent
found_among (w ∷ []) = One w
found_among (w ∷ v ∷ ws) = Twice

-- What is found of an index among words: no word, the only one, or more than one.
abbrev pub found : ℕ → List GsiWord → Found
found index words = found_among (words_with index words)

-- Whether no word was found.
abbrev pub is_absent : Found → Bool
is_absent Absent = true
is_absent (One w) = false
is_absent Twice = false

-- Whether two words or more were found.
abbrev pub is_twice : Found → Bool
is_twice Absent = false
is_twice (One w) = false
is_twice Twice = true
