-- The sets of a station have different numbers, and each has a reading.
use Rattle.std.proofs.Common.{◌≡◌, ◌≢◌, ℕ, Bool, true, false, cond, ◌&&◌, eqb, List, [], ◌∷◌, length}
use Rattle.std.proofs.Common.{map, filter, reverse, Some, None, refl, sym, ap, ◌∙◌, inl, inr, ◌⊎◌, subst}
use Rattle.std.specs.List.{AllPairs, AllByRecursion}
use Rattle.std.proofs.lemmas.Bool.{cases_Bool, and_parts, eqb-true, eq-eqb, false≢true, or_right}
use Rattle.std.proofs.lemmas.Bool.{or_left}
use Rattle.std.proofs.lemmas.List.{reverse-append}
use Rattle.gsi_word.specs.Blocks.{GsiBlock}
use Rattle.station_book.specs.declared.fault.BookKind.TheVariants as kinds
use Rattle.station_book.specs.Limits.{FaceLimits}
use Rattle.station_book.specs.Blocks.{opens_station, opens_set, closes_set, is_opening, number}
use Rattle.station_book.specs.Places.{History, Place, places, last, number_at, before, opening}
use Rattle.station_book.specs.Places.{station, is_open, is_empty, is_same, is_set, is_reading}
use Rattle.station_book.specs.Places.{passes_at, sets_of}
use Rattle.station_book.specs.Faults.{same_number, open_sets, open_readings, first_of, end_faults}
use Rattle.station_book.specs.Faults.{fault_at_end, IsWithoutFault, IsWholeFile}
use Rattle.station_book.proofs.lists.Elements.{In, all_in}
use Rattle.station_book.proofs.names.StationNames.{Pairwise, all_reverse, pairwise_snoc, each_false}
use Rattle.station_book.proofs.names.StationNames.{all_pairs}
use Rattle.station_book.proofs.places.StationSets.{right_false}
use Rattle.station_book.proofs.readings.CleanBlocks.{clean_set, all_none, none_when}
use Rattle.station_book.proofs.recorded.WholeFile.{may_end, open_reading}

pairwise_reverse : {X : Type 0} (R : X → X → Type 0) (xs : List X) → Pairwise R xs
    → Pairwise (λ a b. R b a) (reverse xs)
pairwise_reverse R [] pairs = tt
pairwise_reverse R (x ∷ xs) pairs =
    subst (Pairwise (λ a b. R b a)) (sym (reverse-append (x ∷ []) xs))
    (pairwise_snoc (λ a b. R b a) (reverse xs) x (pairwise_reverse R xs pairs.1)
    (all_reverse (R x) xs pairs.0))

-- The numbers of two sets differ.
abbrev NumbersDiffer : Place → Place → Type 0
NumbersDiffer newer older = same_number (number_at older) (number_at newer) ≡ false

numbers_apart : (limits : FaceLimits) (h : History) (st : Place) → IsWithoutFault limits h
    → Pairwise NumbersDiffer (sets_of st h)
numbers_apart limits [] st clean = tt
numbers_apart limits (b ∷ past) st clean =
    let ih = numbers_apart limits past st clean.1 in
    elim (cases_Bool (opens_set b && is_same (station past) st)) [
      | inr f ↦ rw f ih
      | inl t ↦
          let parts = and_parts (opens_set b) (is_same (station past) st) t in
          let same : open_sets past ≡ sets_of st past =
          ap (λ (n : ℕ). filter (λ place. is_set place && eqb (length (station (before place))) n)
          (places past)) (eqb-true (length (station past)) (length st) parts.1) in
          let others = each_false (λ s. same_number (number_at s) (number b))
          (open_sets past) (clean_set limits past b parts.0 clean.0).new_number in
          rw t (subst (AllByRecursion (NumbersDiffer (b ∷ past))) same others, ih)
    ]

apart_numbers : (x y : Place) (n m : ℕ) → number_at x ≡ Some n → number_at y ≡ Some m
    → same_number (number_at x) (number_at y) ≡ false → n ≢ m
apart_numbers x y n m ex ey f = λ e. false≢true
    (sym f ∙ (λ i. same_number (ex i) (ey i)) ∙ eq-eqb n m e)

apart_from : (x : Place) (n : ℕ) (xs : List Place) (ns : List ℕ) → number_at x ≡ Some n
    → map number_at xs ≡ map (λ m. Some m) ns
    → AllByRecursion (λ y. same_number (number_at x) (number_at y) ≡ false) xs
    → AllByRecursion (λ m. n ≢ m) ns
apart_from x n [] [] ex e all = tt
apart_from x n (y ∷ ys) (m ∷ ns) ex e all =
    let head : number_at y ≡ Some m = cc in
    let tail : map number_at ys ≡ map (λ m. Some m) ns = cc in
    (apart_numbers x y n m ex head all.0, apart_from x n ys ns ex tail all.1)
apart_from x n ys ns ex e all = cc

numbers_of_sets : (xs : List Place) (ns : List ℕ)
    → map number_at xs ≡ map (λ m. Some m) ns
    → Pairwise (λ a b. same_number (number_at a) (number_at b) ≡ false) xs
    → Pairwise (λ a b. a ≢ b) ns
numbers_of_sets [] [] e pairs = tt
numbers_of_sets (x ∷ xs) (n ∷ ns) e pairs =
    let head : number_at x ≡ Some n = cc in
    let tail : map number_at xs ≡ map (λ m. Some m) ns = cc in
    (apart_from x n xs ns head tail pairs.0, numbers_of_sets xs ns tail pairs.1)
numbers_of_sets xs ns e pairs = cc

-- The numbers of a station's sets are different.
pub different_numbers : (limits : FaceLimits) (h : History) (st : Place) (ns : List ℕ)
    → IsWithoutFault limits h → map number_at (reverse (sets_of st h)) ≡ map (λ m. Some m) ns
    → AllPairs (λ a b. a ≢ b) ns
different_numbers limits h st ns clean e =
    all_pairs (λ a b. a ≢ b) ns (numbers_of_sets (reverse (sets_of st h)) ns e
    (pairwise_reverse NumbersDiffer (sets_of st h) (numbers_apart limits h st clean)))

same_numbers : (x a b : Place) (n : ℕ) → x ≡ a → number_at a ≡ Some n → number_at b ≡ Some n
    → NumbersDiffer x b → ⊥
same_numbers x a b n e na nb differ = false≢true (sym differ
    ∙ ap (λ (p : Place). same_number (number_at b) (number_at p)) e
    ∙ (λ i. same_number (nb i) (na i)) ∙ eq-eqb n n refl)

one_numbered : (n : ℕ) (xs : List Place) (a b : Place) → Pairwise NumbersDiffer xs → In a xs
    → In b xs → number_at a ≡ Some n → number_at b ≡ Some n → a ≡ b
one_numbered n [] a b pairs ia ib na nb = absurd ia
one_numbered n (x ∷ xs) a b pairs (inl ea) (inl eb) na nb = ea ∙ sym eb
one_numbered n (x ∷ xs) a b pairs (inl ea) (inr ib) na nb =
    absurd (same_numbers x a b n (sym ea) na nb (all_in (NumbersDiffer x) b xs pairs.0 ib))
one_numbered n (x ∷ xs) a b pairs (inr ia) (inl eb) na nb =
    absurd (same_numbers x b a n (sym eb) nb na (all_in (NumbersDiffer x) a xs pairs.0 ia))
one_numbered n (x ∷ xs) a b pairs (inr ia) (inr ib) na nb =
    one_numbered n xs a b pairs.1 ia ib na nb

-- A station has one set of a number.
pub one_set : (limits : FaceLimits) (h : History) (st : Place) (n : ℕ) (a b : Place)
    → IsWithoutFault limits h → In a (sets_of st h) → In b (sets_of st h)
    → number_at a ≡ Some n → number_at b ≡ Some n → a ≡ b
one_set limits h st n a b clean ia ib na nb =
    one_numbered n (sets_of st h) a b (numbers_apart limits h st clean) ia ib na nb

-- a reading of this set
pub record HasReading (h : History) (set : Place) : Type 0 where
  pub read : Place
  pub placed : In read (places h)
  pub reading : is_reading read ≡ true
  pub of_set : opening (before read) ≡ set

later : (b : GsiBlock) (past : History) (set : Place) → HasReading past set
    → HasReading (b ∷ past) set
later b past set r = record {
  read = r.read;
  placed = inr r.placed;
  reading = r.reading;
  of_set = r.of_set;
}

some_in : (rs : List Place) → is_empty rs ≡ false → (r : Place) × In r rs
some_in [] e = cc
some_in (r ∷ rs) e = (r, inl refl)

open_has_reading : (past : History) (set : Place) → opening past ≡ set → is_set set ≡ true
    → first_of (end_faults past) ≡ None → HasReading past set
open_has_reading past set e s clean =
    let now : is_open past ≡ true = ap (λ (p : Place). passes_at opens_set p) e ∙ s in
    let some : is_empty (open_readings past) ≡ false =
    right_false (is_open past) (is_empty (open_readings past)) now
    (none_when (is_open past && is_empty (open_readings past)) kinds.EmptySet
    (all_none (end_faults past) clean).0) in
    let r = some_in (open_readings past) some in
    let own = open_reading past r.0 r.1 in
    record { read = r.0; placed = own.placed; reading = own.reading; of_set = own.of_set ∙ e }

opening_here : (b : GsiBlock) (past : History) (v : Bool) → is_opening b ≡ v
    → opening (b ∷ past) ≡ cond v (b ∷ past) (opening past)
opening_here b past v e = ap (λ (w : Bool). cond w (b ∷ past) (last is_opening past)) e

-- a set is open, or has a reading
open_or_read : (limits : FaceLimits) (h : History) (set : Place) → IsWithoutFault limits h
    → In set (places h) → is_set set ≡ true → (opening h ≡ set) ⊎ HasReading h set
open_or_read limits [] set clean placed s = absurd placed
open_or_read limits (b ∷ past) set clean (inl e) s =
    let opens : opens_set b ≡ true = ap (λ (p : Place). passes_at opens_set p) (sym e) ∙ s in
    inl (opening_here b past true
    (or_right (opens_station b) _ (or_left (opens_set b) (closes_set b) opens)) ∙ sym e)
open_or_read limits (b ∷ past) set clean (inr placed) s =
    elim (open_or_read limits past set clean.1 placed s) [
      | inr r ↦ inr (later b past set r)
      | inl e ↦ elim (cases_Bool (is_opening b)) [
        | inl o ↦ inr
            (later b past set (open_has_reading past set e s (may_end limits past b o clean.0)))
        | inr o ↦ inl (opening_here b past false o ∙ e)
      ]
    ]

-- Each set of a whole file has a reading.
pub set_has_reading : (limits : FaceLimits) (h : History) (set : Place) → IsWholeFile limits h
    → In set (places h) → is_set set ≡ true → HasReading h set
unfolding fault_at_end
set_has_reading limits h set whole placed s = elim
    (open_or_read limits h set whole.blocks placed s) [
      | inl e ↦ open_has_reading h set e s whole.ending
      | inr r ↦ r
    ]
