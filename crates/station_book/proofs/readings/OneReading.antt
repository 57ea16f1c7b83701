-- A file without fault has one reading at most of a set, target and face.
use Rattle.std.proofs.Common.{◌≡◌, ℕ, ◌≤◌, true, false, ◌&&◌, List, [], ◌∷◌, length, Option, Some}
use Rattle.std.proofs.Common.{None, is_some, refl, sym, ap, ◌∙◌, inl, inr, subst, arith}
use Rattle.std.specs.Str.{bytes_eq}
use Rattle.std.proofs.lemmas.Bool.{and_from, eq-eqb}
use Rattle.std.proofs.lemmas.Slice.Eq.{bytes_eq-Decides}
use Rattle.gsi_word.specs.Blocks.{GsiBlock}
use Rattle.station_book.specs.declared.face.Face.{Face}
use Rattle.station_book.specs.Limits.{FaceLimits}
use Rattle.station_book.specs.Blocks.{target, is_of_face, is_opening}
use Rattle.station_book.specs.Places.{History, Place, places, last, before, opening, is_same}
use Rattle.station_book.specs.Places.{is_reading, target_at, passes_at, reading_in}
use Rattle.station_book.specs.Faults.{face, open_readings, fault_after, IsWithoutFault}
use Rattle.station_book.specs.Recorded.{IsReadingOf}
use Rattle.station_book.proofs.readings.CleanBlocks.{clean_reading}
use Rattle.station_book.proofs.lists.Elements.{in_filter, in_contains, In, find_found}
use Rattle.station_book.proofs.readings.FaceReadings.{face_of}

-- a place of a file is one of its blocks, and stands there with those before it
pub length_place : (h : History) (r : Place) → In r (places h) → length r ≤ length h
length_place [] r placed = absurd placed
length_place (b ∷ past) r (inl e) = let l : length r ≡ length
    (b ∷ past) = ap length e in omega arith
length_place (b ∷ past) r (inr placed) = let l = length_place past r placed in omega arith

-- What places of one set, target and face have in common.
pub record IsOf (set : Place) (name : List ℕ) (f : Face) (r : Place) : Type 0 where
  pub reading : is_reading r ≡ true
  pub of_set : opening (before r) ≡ set
  pub of_target : target_at r ≡ name
  pub of_face : passes_at (is_of_face f) r ≡ true

none_there : (o : Option Place) → is_some o ≡ false → o ≡ None
none_there None e = refl
none_there (Some r) e = cc

-- a reading without fault is the first of its set, target and face
first_time : (limits : FaceLimits) (past : History) (b : GsiBlock) (set : Place) (name : List ℕ)
    (f : Face) (q : Place)
    → fault_after limits past b ≡ None → IsOf set name f (b ∷ past) → In q (places past)
    → IsOf set name f q → ⊥
first_time limits past b set name f q clean new placed old =
    let free = (clean_reading limits past b new.reading clean).free in
    let faced : face b ≡ f = face_of f b new.of_face in
    let own : In q (open_readings past) =
    in_filter (λ place. is_reading place && is_same (last is_opening (before place)) (opening past))
    q (places past) placed
    (and_from (is_reading q) (is_same (opening (before q)) (opening past)) old.reading
    (eq-eqb (length (opening (before q))) (length (opening past))
    (ap length (old.of_set ∙ sym new.of_set)))) in
    find_found (λ r. bytes_eq (target_at r) (target b) && passes_at (is_of_face (face b)) r) q
    (open_readings past) own
    (and_from (bytes_eq (target_at q) (target b)) (passes_at (is_of_face (face b)) q)
    ((bytes_eq-Decides (target_at q) (target b)).1 (old.of_target ∙ sym new.of_target))
    (ap (λ v. passes_at (is_of_face v) q) faced ∙ old.of_face))
    (none_there (reading_in (face b) (target b) (open_readings past)) free)

-- In a file without fault two places of one set, target and face are one.
pub one_place : (limits : FaceLimits) (h : History) (set : Place) (name : List ℕ) (f : Face)
    (a b : Place) → IsWithoutFault limits h → In a (places h) → In b (places h) → IsOf set name f a
    → IsOf set name f b → a ≡ b
one_place limits [] set name f a b clean pa pb ia ib = absurd pa
one_place limits (c ∷ past) set name f a b clean (inl ea) (inl eb) ia ib = ea ∙ sym eb
one_place limits (c ∷ past) set name f a b clean (inl ea) (inr pb) ia ib =
    absurd (first_time limits past c set name f b clean.0 (subst (IsOf set name f) ea ia) pb ib)
one_place limits (c ∷ past) set name f a b clean (inr pa) (inl eb) ia ib =
    absurd (first_time limits past c set name f a clean.0 (subst (IsOf set name f) eb ib) pa ia)
one_place limits (c ∷ past) set name f a b clean (inr pa) (inr pb) ia ib =
    one_place limits past set name f a b clean.1 pa pb ia ib

-- A reading of a station, set, target and face is of this set, target and face.
pub is_of : (h : History) (station : List ℕ) (set : Place) (name : List ℕ) (f : Face) (r : Place)
    → IsReadingOf h station set name f r → IsOf set name f r
is_of h station set name f r is = record {
  reading = is.reading;
  of_set = is.of_set;
  of_target = is.of_target;
  of_face = is.of_face;
}

-- A file without fault has at most one reading of a set, target and face.
pub one_reading : (limits : FaceLimits) (h : History) (station : List ℕ) (set : Place)
    (name : List ℕ) (f : Face) (a b : Place)
    → IsWithoutFault limits h → IsReadingOf h station set name f a
    → IsReadingOf h station set name f b → a ≡ b
one_reading limits h station set name f a b clean ra rb =
    one_place limits h set name f a b clean (in_contains a (places h) ra.placed)
    (in_contains b (places h) rb.placed)
    (is_of h station set name f a ra) (is_of h station set name f b rb)
