-- The faults of code lines over the field book are those of the definitions by places.
use Rattle.std.proofs.Common.{◌≡◌, ℕ, Bool, cond, ◌&&◌, ◌||◌, not, List, [], ◌∷◌, ◌++◌, Option}
use Rattle.std.proofs.Common.{Some, None, is_some, is_none, length, refl, sym, ap, ◌∙◌, inl, inr}
use Rattle.std.specs.Prelude.{nat_le, find}
use Rattle.std.specs.List.{list_any}
use Rattle.std.specs.Option.{option_map}
use Rattle.std.specs.Str.{bytes_eq}
use Rattle.std.proofs.lemmas.Bool.{cases_Bool}
use Rattle.gsi_word.specs.declared.index.TheConstants.{HORIZONTAL_DIRECTION, VERTICAL_ANGLE}
use Rattle.gsi_word.specs.Blocks.{GsiBlock}
use Rattle.adjust_kernel.specs.declared.bounds.TheConstants.{MOST_TARGETS}
use Rattle.station_book.specs.declared.fault.BookKind.{BookKind}
use Rattle.station_book.specs.declared.fault.BookKind.TheVariants as kinds
use Rattle.station_book.specs.declared.role.Role.{Role}
use Rattle.station_book.specs.declared.role.Role.TheVariants as role
use Rattle.station_book.specs.declared.face.Face.{Face}
use Rattle.station_book.specs.declared.face.Face.TheVariants.{One, Two}
use Rattle.station_book.specs.Limits.{FaceLimits}
use Rattle.station_book.specs.Blocks.{lacks, has_two, angle_fault, is_of_face, other_face, number}
use Rattle.station_book.specs.Blocks.{target}
use Rattle.station_book.specs.Places.{History, Place, is_empty, is_open, station, targets_of}
use Rattle.station_book.specs.Places.{reading_in, number_at, target_at, passes_at}
use Rattle.station_book.specs.Faults as places
use Rattle.station_book.specs.Faults.{when, first_of, faults_as, fault_after, fault_at_end}
use Rattle.station_book.specs.Faults.{station_faults, face, face_at, same_number, has_one_face}
use Rattle.station_book.specs.Faults.{has_set_number, is_face_taken, had_sets, is_new_target}
use Rattle.station_book.specs.Faults.{is_beyond, has_no_two_c, has_no_two_i}
use Rattle.book_tree.specs.Tree.{Tree, sets_in, open_readings, has_reading, has_other_face}
use Rattle.book_tree.specs.Tree.{has_number, tree_end_faults, code_set_faults}
use Rattle.book_tree.specs.Reflects.{Reflects, block_at, StandAt}
use Rattle.book_tree.specs.TreeFaults.{other_set_faults, reading_faults, faults_by}

-- A test of blocks finds one where the test of places does.
any_same : {X : Type 0} (f : X → GsiBlock) (p : Place → Bool) (q : GsiBlock → Bool)
    → ((b : GsiBlock) (past : History) → p (b ∷ past) ≡ q b) → (xs : List X) (ps : List Place)
    → StandAt f xs ps → list_any p ps ≡ list_any (λ x. q (f x)) xs
any_same f p q alike [] [] e = refl
any_same f p q alike [] (y ∷ ps) e = cc
any_same f p q alike (x ∷ xs) [] e = cc
any_same f p q alike (x ∷ xs) ([] ∷ ps) e = cc
any_same f p q alike (x ∷ xs) ((b ∷ past) ∷ ps) e =
    let here : b ≡ f x = cc in
    let tails : StandAt f xs ps = cc in
    (λ i. (alike b past ∙ ap q here) i || any_same f p q alike xs ps tails i)

empty_same : {X : Type 0} (f : X → GsiBlock) (xs : List X) (ps : List Place) → StandAt f xs ps
    → is_empty ps ≡ is_empty xs
empty_same f [] [] e = refl
empty_same f [] (y ∷ ps) e = cc
empty_same f (x ∷ xs) [] e = cc
empty_same f (x ∷ xs) (p ∷ ps) e = refl

found_any : (p : Place → Bool) (ps : List Place) → is_some (find p ps) ≡ list_any p ps
found_any p [] = refl
found_any p (x ∷ ps) = elim (cases_Bool (p x)) [
  | inl h ↦ rw h refl
  | inr h ↦ rw h (found_any p ps)
]

none_is : {X : Type 0} (o : Option X) → is_none o ≡ not (is_some o)
none_is None = refl
none_is (Some x) = refl

-- A reading of this target and face is there.
read_same : (name : List ℕ) (f : Face) (rs : List GsiBlock) (ps : List Place)
    → StandAt (λ b. b) rs ps → is_some (reading_in f name ps)
    ≡ list_any (λ r. bytes_eq (target r) name && is_of_face f r) rs
read_same name f rs ps e = found_any _ ps ∙ any_same (λ b. b)
    (λ r. bytes_eq (target_at r) name && passes_at (is_of_face f) r)
    (λ r. bytes_eq (target r) name && is_of_face f r) (λ b past. refl) rs ps e

module _ (past : History) (t : Tree) (h : Reflects t past) where
  empty_set : (is_open past && is_empty (places.open_readings past))
      ≡ (is_some t.current && is_empty (open_readings t))
  empty_set = (λ i. sym h.is_open_too i
      && empty_same (λ b. b) (open_readings t) (places.open_readings past) h.readings i)

  one_face : (is_open past && has_one_face (places.open_readings past))
      ≡ (is_some t.current && list_any (λ b. not (has_other_face b (open_readings t)))
      (open_readings t))
  one_face =
      let ps = places.open_readings past in
      let rs = open_readings t in
      (λ i. sym h.is_open_too i && any_same (λ b. b)
      (λ r. is_none (reading_in (other_face (face_at r)) (target_at r) ps))
      (λ b. not (has_other_face b rs))
      (λ b before. none_is (reading_in (other_face (face b)) (target b) ps)
      ∙ ap not (read_same (target b) (other_face (face b)) rs ps h.readings)) rs ps h.readings i)

  outside : is_empty (station past) ≡ is_none t.code
  outside = by (station past) ∙ ap (λ (o : Option GsiBlock). is_none o) (sym h.code) where
    by : (p : Place) → is_empty p ≡ is_none (block_at p)
    by [] = refl
    by (b ∷ before) = refl

  set_twice : (n : Option ℕ) → has_set_number n past ≡ has_number n (sets_in t)
  set_twice n = any_same (λ s. s.code) (λ s. same_number (number_at s) n)
      (λ b. same_number (number b) n) (λ b before. refl) (sets_in t) (places.open_sets past) h.sets

  face_twice : (b : GsiBlock) → is_face_taken b past ≡ has_reading b (open_readings t)
  face_twice b = read_same (target b) (face b) (open_readings t) (places.open_readings past)
      h.readings

  -- where a set that is open ends
  pub ends : places.end_faults past ≡ tree_end_faults t
  ends = (λ i. when (empty_set i) kinds.EmptySet ∷ when (one_face i) kinds.OneFace ∷ [])

  -- at a block with code 20
  at_set : (b : GsiBlock) → places.set_faults past b ≡ code_set_faults t b ++ other_set_faults past
  at_set b = (λ i. places.twice_informed b
      ∷ when (outside i) kinds.SetOutside
      ∷ when (is_none (number b)) kinds.SetNumber
      ∷ when (sym h.had i) kinds.StationTwice
      ∷ when (set_twice (number b) i) kinds.SetTwice
      ∷ other_set_faults past)

  at_reading : (limits : FaceLimits) (b : GsiBlock)
      → places.reading_faults limits past b ≡ reading_faults limits past t b
  at_reading limits b = ap (λ (v : Bool).
      when (has_two HORIZONTAL_DIRECTION b) (kinds.WordTwice HORIZONTAL_DIRECTION)
      ∷ when (has_two VERTICAL_ANGLE b) (kinds.WordTwice VERTICAL_ANGLE)
      ∷ when (lacks VERTICAL_ANGLE b) kinds.NoZenith
      ∷ option_map kinds.Hz (angle_fault HORIZONTAL_DIRECTION b)
      ∷ option_map kinds.Zenith (angle_fault VERTICAL_ANGLE b)
      ∷ when (not (is_of_face One b || is_of_face Two b)) kinds.FaceUnclear
      ∷ when v kinds.FaceTwice
      ∷ when (is_new_target b past
      && nat_le MOST_TARGETS (length (targets_of (station past) past))) kinds.TooManyTargets
      ∷ when (is_beyond (has_no_two_c limits.two_c) b past) kinds.TwoC
      ∷ when (is_beyond (has_no_two_i limits.two_i) b past) kinds.TwoI
      ∷ []) (face_twice b)

  -- The faults of a block are those by the field book.
  pub same_faults : (r : Role) (limits : FaceLimits) (b : GsiBlock)
      → faults_as r limits past b ≡ faults_by r limits past t b
  same_faults role.Station limits b =
      ap (λ (os : List (Option BookKind)). os ++ station_faults b) ends
  same_faults role.Set limits b = (λ i. ends i ++ at_set b i)
  same_faults role.Close limits b = ends
  same_faults role.Measurement limits b = (λ i. cond (not (lacks HORIZONTAL_DIRECTION b)
      && sym h.is_open_too i) (at_reading limits b i) [])
  same_faults role.Other limits b = refl
