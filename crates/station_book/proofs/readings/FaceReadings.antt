-- The readings of the open set by target and face.
use Rattle.std.proofs.Common.{◌≡◌, ℕ, Bool, true, false, cond, ltb, ◌&&◌, ◌||◌, List, [], ◌∷◌, map}
use Rattle.std.proofs.Common.{Option, Some, None, is_some, is_none, refl, sym, ap, ◌∙◌, inl, inr}
use Rattle.std.proofs.Common.{◌⊎◌, arith}
use Rattle.std.specs.List.{list_any, AllByRecursion}
use Rattle.std.specs.Str.{bytes_eq}
use Rattle.std.proofs.lemmas.Bool.{and_parts, and_from, cases_Bool, false≢true, or_cases, ltb-true}
use Rattle.std.proofs.lemmas.Bool.{or_right, and_left}
use Rattle.std.proofs.lemmas.Slice.Eq.{bytes_eq-Decides}
use Rattle.gsi_word.specs.Blocks.{GsiBlock}
use Rattle.station_book.specs.declared.face.Face.{Face}
use Rattle.station_book.specs.declared.face.Face.TheVariants.{One, Two}
use Rattle.station_book.specs.Blocks.{is_of_face, other_face, angles}
use Rattle.station_book.specs.Places.{Place, reading_in, is_among, target_at, passes_at}
use Rattle.station_book.specs.Faults.{has_one_face, face, face_at}
use Rattle.station_book.proofs.lists.Elements.{In, any_from, any_to, find_some, find_found, all_in}
use Rattle.station_book.proofs.lists.Elements.{same_test, in_map, of_map}

-- what a book keeps of the open set: the readings of each target of the station, in face I and in
-- face II
pub record Slot : Type 0 where
  pub first : Option Place
  pub second : Option Place

-- the readings of a target
abbrev pub slot : List Place → List ℕ → Slot
slot rs name = record { first = reading_in One name rs; second = reading_in Two name rs }

-- those of each of these targets
abbrev pub slots : List (List ℕ) → List Place → List Slot
slots targets rs = map (slot rs) targets

-- one face alone
abbrev pub is_single : Slot → Bool
is_single s = (is_some s.first && is_none s.second) || (is_none s.first && is_some s.second)

-- each reading has a face, and its target is one of these
pub record IsKept (targets : List (List ℕ)) (r : Place) : Type 0 where
  pub in_targets : is_among targets (target_at r) ≡ true
  pub has_face : passes_at (is_of_face (face_at r)) r ≡ true

below_half : (z : ℕ) → (ltb 0 z && ltb z 20_000_000) ≡ true
    → (ltb 20_000_000 z && ltb z 40_000_000) ≡ false
below_half z e = elim (cases_Bool (ltb 20_000_000 z)) [
  | inl t ↦
      let low = ltb-true z 20_000_000 (and_parts (ltb 0 z) (ltb z 20_000_000) e).1 in
      let high = ltb-true 20_000_000 z t in absurd (omega arith)
  | inr f ↦ and_left (ltb 20_000_000 z) (ltb z 40_000_000) f
]

-- A block of face I is not of face II.
pub one_face : (b : GsiBlock) → is_of_face One b ≡ true → is_of_face Two b ≡ false
unfolding is_of_face angles
one_face b e = below_half (angles b).zenith e

cases_face : (f : Face) → (f ≡ One) ⊎ (f ≡ Two)
cases_face One = inl refl
cases_face Two = inr refl

-- the face of a block that has this one
pub face_of : (f : Face) (b : GsiBlock) → is_of_face f b ≡ true → face b ≡ f
face_of One b e = ap (λ v. cond v Two One) (one_face b e)
face_of Two b e = ap (λ v. cond v Two One) e

-- An option has nothing or something.
pub none_or_some : {X : Type 0} (o : Option X) → (o ≡ None) ⊎ ((x : X) × (o ≡ Some x))
none_or_some None = inl refl
none_or_some (Some x) = inr (x, refl)

-- Where a reading of a target and face is listed, one is found.
pub some_there : (f : Face) (name : List ℕ) (r : Place) (rs : List Place) → In r rs
    → target_at r ≡ name → passes_at (is_of_face f) r ≡ true → is_some (reading_in f name rs) ≡ true
some_there f name r rs h e g = elim (none_or_some (reading_in f name rs)) [
  | inl n ↦ absurd (find_found (λ r. bytes_eq (target_at r) name && passes_at (is_of_face f) r) r rs
      h (and_from _ _ ((bytes_eq-Decides (target_at r) name).1 e) g) n)
  | inr s ↦ ap is_some s.1
]

single_first : (s : Slot) → is_some s.first ≡ true → is_none s.second ≡ true → is_single s ≡ true
single_first s e g = rw (e, g)

single_second : (s : Slot) → is_none s.first ≡ true → is_some s.second ≡ true → is_single s ≡ true
single_second s e g = or_right (is_some s.first && is_none s.second)
    (is_none s.first && is_some s.second) (and_from _ _ e g)

-- a reading alone makes a single slot
alone : (rs : List Place) (r : Place) → In r rs → passes_at (is_of_face (face_at r)) r ≡ true
    → is_none (reading_in (other_face (face_at r)) (target_at r) rs) ≡ true
    → is_single (slot rs (target_at r)) ≡ true
alone rs r h g n = elim (cases_face (face_at r)) [
  | inl e ↦ single_first (slot rs (target_at r))
      (some_there One (target_at r) r rs h refl (rw e at g)) (rw e at n)
  | inr e ↦ single_second (slot rs (target_at r)) (rw e at n)
      (some_there Two (target_at r) r rs h refl (rw e at g))
]

face_at_is : (f : Face) (a : Place) → passes_at (is_of_face f) a ≡ true → face_at a ≡ f
face_at_is f [] e = cc
face_at_is f (b ∷ past) e = face_of f b e

-- a single slot is that of a reading alone
lonely : (rs : List Place) (name : List ℕ) → is_single (slot rs name) ≡ true
    → has_one_face rs ≡ true
lonely rs name e = elim (or_cases
    (is_some (reading_in One name rs) && is_none (reading_in Two name rs))
    (is_none (reading_in One name rs) && is_some (reading_in Two name rs)) e) [
      | inl h ↦
          let p = and_parts (is_some (reading_in One name rs))
          (is_none (reading_in Two name rs)) h in
          let s = the_some (reading_in One name rs) p.0 in at One s.0 s.1 p.1
      | inr h ↦
          let p = and_parts (is_none (reading_in One name rs))
          (is_some (reading_in Two name rs)) h in
          let s = the_some (reading_in Two name rs) p.1 in at Two s.0 s.1 p.0
    ]
  where
    the_some : (o : Option Place) → is_some o ≡ true → (a : Place) × (o ≡ Some a)
    the_some None t = cc
    the_some (Some a) t = (a, refl)

    at : (f : Face) (a : Place) → reading_in f name rs ≡ Some a
        → is_none (reading_in (other_face f) name rs) ≡ true
        → has_one_face rs ≡ true
    at f a s n =
        let (inside, test) = find_some
        (λ r. bytes_eq (target_at r) name && passes_at (is_of_face f) r) a rs s in
        let parts = and_parts (bytes_eq (target_at a) name) (passes_at (is_of_face f) a) test in
        let same : target_at a ≡ name = (bytes_eq-Decides (target_at a) name).0 parts.0 in
        any_from (λ r. is_none (reading_in (other_face (face_at r)) (target_at r) rs)) a rs inside
        (ap (λ v. is_none (reading_in (other_face v) (target_at a) rs)) (face_at_is f a parts.1)
        ∙ ap (λ (t : List ℕ). is_none (reading_in (other_face f) t rs)) same ∙ n)

-- A target has one face exactly where a slot is single.
pub one_face_by_slots : (targets : List (List ℕ)) (rs : List Place)
    → AllByRecursion (IsKept targets) rs → has_one_face rs ≡ list_any is_single (slots targets rs)
one_face_by_slots targets rs kept = same_test (has_one_face rs)
    (list_any is_single (slots targets rs)) there back where
      there : has_one_face rs ≡ true → list_any is_single (slots targets rs) ≡ true
      there e =
          let (r, inside, test) = any_to
          (λ r. is_none (reading_in (other_face (face_at r)) (target_at r) rs)) rs e in
          let k = all_in (IsKept targets) r rs kept inside in
          let (name, listed, same) = any_to
          (λ other. bytes_eq other (target_at r)) targets k.in_targets in
          let equal : name ≡ target_at r = (bytes_eq-Decides name (target_at r)).0 same in
          any_from is_single (slot rs name) (slots targets rs)
          (in_map (slot rs) name targets listed)
          (ap (λ (t : List ℕ). is_single (slot rs t)) equal ∙ alone rs r inside k.has_face test)

      back : list_any is_single (slots targets rs) ≡ true → has_one_face rs ≡ true
      back e =
          let (s, inside, single) = any_to is_single (slots targets rs) e in
          let (name, listed, same) = of_map (slot rs) s targets inside in
          lonely rs name (ap is_single same ∙ single)

-- A new target has no reading.
pub unseen : (targets : List (List ℕ)) (rs : List Place) (name : List ℕ) (f : Face)
    → AllByRecursion (IsKept targets) rs → is_among targets name ≡ false
    → reading_in f name rs ≡ None
unseen targets rs name f kept out = elim (none_or_some (reading_in f name rs)) [
  | inl n ↦ n
  | inr s ↦
      let (inside, test) = find_some
      (λ r. bytes_eq (target_at r) name && passes_at (is_of_face f) r) s.0 rs s.1 in
      let same : target_at s.0 ≡ name = (bytes_eq-Decides (target_at s.0) name).0
      (and_parts (bytes_eq (target_at s.0) name) (passes_at (is_of_face f) s.0) test).0 in
      absurd (false≢true (sym out ∙ ap (is_among targets) (sym same)
      ∙ (all_in (IsKept targets) s.0 rs kept inside).in_targets))
]
