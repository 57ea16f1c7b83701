-- What the book finds, and that it finds no fault of code lines, said over the tree.
use Rattle.std.specs.Prelude.{if◌then◌else◌, IfSome}
use Rattle.std.proofs.Common.{◌≡◌, ℕ, Bool, true, false, ◌&&◌, not, List, [], ◌∷◌, ◌++◌, Option}
use Rattle.std.proofs.Common.{Some, None, is_some, refl, sym, ap, subst, ◌∙◌, append_assoc}
use Rattle.std.specs.List.{AllByRecursion}
use Rattle.std.specs.Option.{option_map}
use Rattle.std.proofs.lemmas.List.{append-nil}
use Rattle.gsi_word.specs.declared.index.TheConstants.{HORIZONTAL_DIRECTION, VERTICAL_ANGLE}
use Rattle.gsi_word.specs.declared.angle.AngleFault.{AngleFault}
use Rattle.gsi_word.specs.Blocks.{GsiBlock}
use Rattle.station_book.specs.declared.fault.BookKind.{BookKind}
use Rattle.station_book.specs.declared.fault.BookKind.TheVariants as kinds
use Rattle.station_book.specs.declared.role.Role.{Role}
use Rattle.station_book.specs.declared.role.Role.TheVariants as role
use Rattle.station_book.specs.Limits.{FaceLimits}
use Rattle.station_book.specs.Blocks.{role_of, lacks, has_direction, number, angle_fault}
use Rattle.station_book.specs.Places.{History, Place, is_open, station, opening, number_at}
use Rattle.station_book.specs.Faults.{when, first_of, fault_after, fault_at_end, name_at}
use Rattle.book_tree.specs.Tree.{SetOf, Tree, tree_of, name_in, code_faults, tree_end_faults}
use Rattle.book_tree.specs.Tree.{code_set_faults, HasNone, code_reading_faults}
use Rattle.book_tree.specs.Reflects.{Reflects, block_at}
use Rattle.book_tree.specs.TreeFaults.{faults_by, other_set_faults, reading_faults}
use Rattle.book_tree.proofs.Reflects.{name_there, reflects}
use Rattle.book_tree.proofs.SameFaults.{same_faults, ends}
use Rattle.set_marks.specs.Found.{Found, found_after, found_in, is_of_codes, HasNoFaultOfCodes}
use Rattle.set_marks.specs.MarkedBlocks.{grown}
use Rattle.set_marks.specs.TreeWalks.{after, found_now, found_of, AreFree}

-- no fault, or none of the code lines
abbrev Avoids : Option BookKind → Type 0
Avoids o = IfSome o (λ kind. is_of_codes kind ≡ false)

abbrev AllAvoid : List (Option BookKind) → Type 0
AllAvoid os = AllByRecursion Avoids os

first_avoids : (os : List (Option BookKind)) → AllAvoid os → Avoids (first_of os)
first_avoids [] all = tt
first_avoids (None ∷ os) all = first_avoids os all.1
first_avoids (Some kind ∷ os) all = all.0

-- none of these, and all those avoid
none_then : (os more : List (Option BookKind)) → HasNone os → AllAvoid more
    → AllAvoid (os ++ more)
none_then [] more none all = all
none_then (o ∷ os) more none all = (
  subst (λ (o : Option BookKind). Avoids o) (sym none.0) tt,
  none_then os more none.1 all,
)

all_none : (os : List (Option BookKind)) → HasNone os → AllAvoid os
all_none os none = subst (λ (os : List (Option BookKind)). AllAvoid os) (append-nil os)
    (none_then os [] none tt)

also : {A B : Type 0} → A → B → A × B
also a b = (a, b)

other : (t : Bool) (kind : BookKind) → is_of_codes kind ≡ false → Avoids (when t kind)
other true kind e = e
other false kind e = tt

hz : (o : Option AngleFault) → Avoids (option_map kinds.Hz o)
hz None = tt
hz (Some f) = refl

zenith : (o : Option AngleFault) → Avoids (option_map kinds.Zenith o)
zenith None = tt
zenith (Some f) = refl

-- Where no fault of codes stands, the first fault is none of codes.
avoids : (r : Role) (limits : FaceLimits) (past : History) (t : Tree) (b : GsiBlock)
    → HasNone (code_faults r t b) → AllAvoid (faults_by r limits past t b)
avoids role.Station limits past t b none = all_none (code_faults role.Station t b) none
avoids role.Set limits past t b none =
    let rest : AllAvoid (other_set_faults past) =
    also (other _ kinds.TooManyStations refl) (also (other _ kinds.TooManySets refl) tt) in
    subst (λ (os : List (Option BookKind)). AllAvoid os)
    (append_assoc (tree_end_faults t) (code_set_faults t b) (other_set_faults past))
    (none_then (code_faults role.Set t b) (other_set_faults past) none rest)
avoids role.Close limits past t b none = all_none (code_faults role.Close t b) none
avoids role.Measurement limits past t b none =
    by (not (lacks HORIZONTAL_DIRECTION b) && is_some t.current) none
  where
    by : (v : Bool) → HasNone (if v then code_reading_faults t b else [])
        → AllAvoid (if v then reading_faults limits past t b else [])
    by false none = tt
    by true none =
        also (other _ (kinds.WordTwice HORIZONTAL_DIRECTION) refl)
        (also (other _ (kinds.WordTwice VERTICAL_ANGLE) refl) (also (other _ kinds.NoZenith refl)
        (also (hz (angle_fault HORIZONTAL_DIRECTION b))
        (also (zenith (angle_fault VERTICAL_ANGLE b))
        (also (other _ kinds.FaceUnclear refl)
        (also (subst (λ (o : Option BookKind). Avoids o) (sym none.0) tt)
        (also (other _ kinds.TooManyTargets refl) (also (other _ kinds.TwoC refl)
        (also (other _ kinds.TwoI refl) tt)))))))))
avoids role.Other limits past t b none = tt

-- No block has a fault of codes where none has one over the tree.
pub none_of_codes : (limits : FaceLimits) (past : History) (bs : List GsiBlock)
    → HasNoFaultOfCodes limits past → AreFree (tree_of past) bs
    → HasNoFaultOfCodes limits (grown past bs)
unfolding fault_after
none_of_codes limits past [] so_far free = so_far
none_of_codes limits past (b ∷ bs) so_far free =
    none_of_codes limits (b ∷ past) bs (first, so_far) free.1
  where
    first : Avoids (fault_after limits past b)
    first = subst (λ (os : List (Option BookKind)). Avoids (first_of os))
        (sym (same_faults past (tree_of past) (reflects past) (role_of b) limits b))
        (first_avoids _ (avoids (role_of b) limits past (tree_of past) b free.0))

-- The fault of the end is that over the tree.
pub fault_of_end : (past : History) → fault_at_end past ≡ first_of (tree_end_faults (tree_of past))
unfolding fault_at_end
fault_of_end past = ap (λ (os : List (Option BookKind)). first_of os)
    (ends past (tree_of past) (reflects past))

-- found at the station of this name, in the set of this number
abbrev at_set : Option (List ℕ) → Option ℕ → Option Found
at_set name n = Some (record { station = name; set = n })

set_found : (name : Option (List ℕ)) (o : Option SetOf) (v : Bool) (p : Place) → is_some o ≡ v
    → option_map (λ s. s.code) o ≡ (if v then block_at p else None)
    → (if v then at_set name (number_at p) else None)
    ≡ option_map (λ s. record { station = name; set = number s.code }) o
set_found name None true p e f = cc
set_found name None false p e f = refl
set_found name (Some s) false p e f = cc
set_found name (Some s) true [] e f = cc
set_found name (Some s) true (b ∷ before) e f =
    let same : b ≡ s.code = cc in ap (λ (c : GsiBlock). at_set name (number c)) same

-- A reading is found where the tree says.
found_same : (past : History) (t : Tree) → Reflects t past → found_after past ≡ found_now t
found_same past t h =
    set_found (name_at (station past)) t.current (is_open past) (opening past) h.is_open_too
    h.current
    ∙ ap (λ (name : Option (List ℕ)).
    option_map (λ s. record { station = name; set = number s.code }) t.current)
    (name_there (station past) ∙ ap (λ (o : Option GsiBlock). name_in o) (sym h.code))

pub found_grown : (past : History) (bs : List GsiBlock)
    → found_in (grown past bs) ≡ found_in past ++ found_of (tree_of past) bs
found_grown past [] = sym (append-nil (found_in past))
found_grown past (b ∷ bs) = found_grown (b ∷ past) bs
    ∙ append_assoc (found_in past) _ (found_of (tree_of (b ∷ past)) bs)
    ∙ ap (λ (f : Option Found). found_in past ++ ((if has_direction b then f ∷ [] else [])
    ++ found_of (tree_of (b ∷ past)) bs)) (found_same past (tree_of past) (reflects past))

pub tree_grown : (past : History) (bs : List GsiBlock)
    → tree_of (grown past bs) ≡ after (tree_of past) bs
tree_grown past [] = refl
tree_grown past (b ∷ bs) = tree_grown (b ∷ past) bs

-- Of no faults none is the first.
pub none_first : (os : List (Option BookKind)) → HasNone os → first_of os ≡ None
none_first [] none = refl
none_first (o ∷ os) none =
    ap (λ (x : Option BookKind). first_of (x ∷ os)) none.0 ∙ none_first os none.1
