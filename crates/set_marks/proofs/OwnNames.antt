-- A station that is called as its set-up line needs no second look at its targets.
use Rattle.std.proofs.Common.{◌≡◌, ℕ, true, List, [], ◌∷◌, Option, None, refl, sym, ap, ◌∙◌}
use Rattle.std.specs.Str.{bytes_eq}
use Rattle.std.proofs.lemmas.Slice.Eq.{bytes_eq-Decides}
use Rattle.station_book.specs.Faults.{first_of}
use Rattle.set_marks.specs.declared.flaw.Flaw.{Flaw}
use Rattle.set_marks.specs.declared.sight.Sight.{Sight}
use Rattle.set_marks.specs.Judging.{itself_fault}

twice : (o : Option Flaw) → o ≡ None → first_of (o ∷ o ∷ []) ≡ None
twice o none = rw none refl

pub is_called_so : (name line : List ℕ) (rs : List Sight) → bytes_eq name line ≡ true
    → itself_fault line rs ≡ None
    → None ≡ first_of (itself_fault line rs ∷ itself_fault name rs ∷ [])
is_called_so name line rs same none =
    sym (ap (λ (n : List ℕ). first_of (itself_fault line rs ∷ itself_fault n rs ∷ []))
    ((bytes_eq-Decides name line).0 same) ∙ twice (itself_fault line rs) none)
