-- Targets of another station after the sets, without comparing each reading with all.
use Rattle.std.proofs.Common.{◌≡◌, Bool, true, false, ◌&&◌, not, List, [], ◌∷◌, ◌++◌}
use Rattle.std.proofs.Common.{refl, sym, ap, ◌∙◌, append_assoc, inl, inr}
use Rattle.std.specs.Prelude.{filter}
use Rattle.std.specs.List.{list_any}
use Rattle.std.proofs.lemmas.Bool.{cases_Bool}
use Rattle.station_book.specs.Places.{is_among, with_new}
use Rattle.set_marks.specs.declared.faces.Faces.{Faces}
use Rattle.set_marks.specs.declared.known.Known.{Known}
use Rattle.set_marks.specs.declared.sight.Sight.{Sight}
use Rattle.set_marks.specs.Divisions.{is_of, is_pair}
use Rattle.set_marks.specs.Remarks.{seems_of_another}
use Rattle.set_marks.specs.Searching.{knows, names_in, KnowsTargetsOf, KeepsFaces}
use Rattle.set_marks.proofs.Asking.{faces_more, pairs_kept}

-- The faces of the first of these readings are kept, and these are left.
pub record KeepsFront (all left : List Sight) (faces : Faces) : Type 0 where
  pub front : List Sight
  pub split : all ≡ front ++ left
  pub kept : KeepsFaces front faces

pub no_front : (all : List Sight) (faces : Faces) → KeepsFaces [] faces → KeepsFront all all faces
no_front all faces kept = record { front = []; split = refl; kept = kept }

pub longer_front : (all left rest : List Sight) (old new : Faces) (r : Sight)
    → KeepsFront all left old → left ≡ r ∷ rest
    → names_in r.second new ≡ with_new (names_in r.second old) r.target
    → names_in (not r.second) new ≡ names_in (not r.second) old → KeepsFront all rest new
longer_front all left rest old new r k is added other = record {
  front = k.front ++ r ∷ [];
  split = k.split ∙ ap (λ l. k.front ++ l) is ∙ sym (append_assoc k.front (r ∷ []) rest);
  kept = faces_more k.front old new r k.kept added other;
}

-- Where no reading is in face II, none is of another station.
pub none_of_another : (in_sets all rs : List Sight) → list_any (λ s. s.second) rs ≡ false
    → filter (seems_of_another in_sets all) rs ≡ []
none_of_another in_sets all [] e = refl
none_of_another in_sets all (r ∷ rs) e = elim (cases_Bool r.second) [
  | inl h ↦ let f : true ≡ false = rw h at e in cc
  | inr h ↦ rw h (none_of_another in_sets all rs (rw h at e))
]

-- What is asked of a reading in face II.
pub of_another : (in_sets after : List Sight) (known : Known) (faces : Faces) (r : Sight)
    (is_known is_paired : Bool) → is_known ≡ knows known r.target
    → is_paired ≡ is_among (names_in false faces) r.target → r.second ≡ true
    → KnowsTargetsOf in_sets known → KeepsFaces after faces
    → (not is_known && is_paired) ≡ seems_of_another in_sets after r
of_another in_sets after known faces r is_known is_paired asked paired second all kept =
    let one : is_paired ≡ list_any (is_pair r) after =
    paired ∙ ap (λ b. is_among (names_in (not b) faces) r.target) (sym second)
    ∙ pairs_kept after faces kept r in
    ap (λ b. not b && is_paired) (asked ∙ all r.target)
    ∙ ap (λ b. not (list_any (is_of r.target) in_sets) && b) one
    ∙ ap (λ b. b && (not (list_any (is_of r.target) in_sets) && list_any (is_pair r) after))
    (sym second)
