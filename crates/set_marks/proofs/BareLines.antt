-- No line begins within a block of three words of which the second and the third begin none.
use Rattle.std.proofs.Common.{◌≡◌, Bool, true, false, List, [], ◌∷◌, length, drop, Some, refl, sym}
use Rattle.std.specs.Prelude.{not, slice_get}
use Rattle.std.specs.Bool.{OnTrue}
use Rattle.std.specs.List.{list_any}
use Rattle.gsi_word.specs.Words.{GsiWord}
use Rattle.set_marks.specs.Stations.{begins_line}

none_begins : (ws : List GsiWord) (second third : GsiWord) → length ws ≡ 3
    → slice_get ws 1 ≡ Some second → slice_get ws 2 ≡ Some third → begins_line second ≡ false
    → begins_line third ≡ false → list_any begins_line (drop 1 ws) ≡ false
none_begins [] second third is e f g h = cc
none_begins (a ∷ []) second third is e f g h = cc
none_begins (a ∷ b ∷ []) second third is e f g h = cc
none_begins (a ∷ b ∷ c ∷ []) second third is e f g h =
    let eb : b ≡ second = cc in
    let ec : c ≡ third = cc in
    rw (eb, ec, g, h) refl
none_begins (a ∷ b ∷ c ∷ d ∷ ws) second third is e f g h = cc

-- So a test of the third tells it, once the second is known to begin none.
pub tells_bare : (ws : List GsiWord) (second third : GsiWord) (begins : Bool) → length ws ≡ 3
    → slice_get ws 1 ≡ Some second → slice_get ws 2 ≡ Some third → begins_line second ≡ false
    → begins ≡ begins_line third → OnTrue (not begins) (list_any begins_line (drop 1 ws) ≡ false)
tells_bare ws second third true is e f g h = tt
tells_bare ws second third false is e f g h = none_begins ws second third is e f g (sym h)
