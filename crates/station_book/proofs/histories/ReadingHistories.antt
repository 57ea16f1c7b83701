-- What is kept of a station stands for it after a reading.
use Rattle.std.proofs.Common.{◌≡◌, ◌≢◌, ℕ, zero, suc, ◌+◌, ◌<◌, ◌≤◌, Bool, true, false, cond, ◌||◌}
use Rattle.std.proofs.Common.{List, [], ◌∷◌, ◌++◌, length, map, filter, get_or, set, Option, Some}
use Rattle.std.proofs.Common.{None, AllPairs, refl, sym, ap, ◌∙◌, inl, inr, ◌⊎◌, arith, append-nil}
use Rattle.std.specs.List.{AllByRecursion, enumerate_from, filter_map}
use Rattle.std.specs.Str.{bytes_eq}
use Rattle.std.proofs.lemmas.Bool.{cases_Bool, false≢true, cases_eq, cases_lt, or_parts}
use Rattle.std.proofs.lemmas.Bool.{false_from_ne_true}
use Rattle.std.proofs.lemmas.List.{length-map, length-set, ext_get_or, get_or-set_same}
use Rattle.std.proofs.lemmas.List.{get_or-set_other, map-append}
use Rattle.std.proofs.lemmas.List.Elements.{filter_map-append}
use Rattle.std.proofs.lemmas.List.Folds.{list_any_at, list_any-append}
use Rattle.std.proofs.lemmas.List.Quantifiers.{all_pairs_push, position-Some}
use Rattle.std.proofs.lemmas.Slice.Eq.{bytes_eq-Decides}
use Rattle.station_book.specs.declared.face.Face.{Face}
use Rattle.station_book.specs.declared.face.Face.TheVariants.{One, Two}
use Rattle.station_book.specs.TwoFaces.{Angles}
use Rattle.station_book.specs.declared.angles.Reading.{Reading}
use Rattle.station_book.specs.declared.slot.Slot.{Slot}
use Rattle.station_book.specs.Slots.{empty_slot, slot_at, with_face_reading, obs_at, obs_of}
use Rattle.station_book.specs.Slots.{faces_at, faces_of}
use Rattle.station_book.specs.StationState.{StationState, place_of, with_reading, with_reading_at}
use Rattle.station_book.specs.Blocks.{is_of_face, other_face}
use Rattle.station_book.specs.Places.{Place, opening, before, is_same, is_among, distinct}
use Rattle.station_book.specs.Places.{reading_in, target_at, passes_at}
use Rattle.station_book.specs.StateOfHistory.{in_set, angles_of, slot_of, slots_of, targets_in}
use Rattle.station_book.specs.StateOfHistory.{obs_in, faces_in, IsStateOf}
use Rattle.station_book.proofs.readings.SetReadings.{found_other, found_here, found_not}
use Rattle.station_book.proofs.states.SlotObservations.{enumerate-append}
use Rattle.station_book.proofs.states.StationInvariant.{absent_name}
use Rattle.station_book.proofs.lists.JoinedLists.{absent}
use Rattle.station_book.specs.Faults.{angles_at}

-- what was read says of the reading at a place
pub record Says (s : Reading) (r : Place) : Type 0 where
  pub target_is : s.target ≡ target_at r
  pub angles_are : s.angles ≡ angles_at r
  pub face_is : passes_at (is_of_face s.face) r ≡ true
  pub face_not : passes_at (is_of_face (other_face s.face)) r ≡ false

-- the slots of other targets stay
slot_other : (r : Place) (name : List ℕ) (rs : List Place) → bytes_eq (target_at r) name ≡ false
    → slot_of (r ∷ rs) name ≡ slot_of rs name
slot_other r name rs e = λ i. record {
  one = angles_of (found_other One r name rs e i);
  two = angles_of (found_other Two r name rs e i);
}

-- its own takes the reading of the face
slot_own : (f : Face) (v : Angles) (r : Place) (name : List ℕ) (rs : List Place) → v ≡ angles_at r
    → passes_at (is_of_face f) r ≡ true → passes_at (is_of_face (other_face f)) r ≡ false
    → bytes_eq (target_at r) name ≡ true
    → slot_of (r ∷ rs) name ≡ with_face_reading f v (slot_of rs name)
slot_own One v r name rs s f g e = λ i. record {
  one = (ap angles_of (found_here One r name rs e f) ∙ ap Some (sym s)) i;
  two = angles_of (found_not Two r name rs g i);
}
slot_own Two v r name rs s f g e = λ i. record {
  one = angles_of (found_not One r name rs g i);
  two = (ap angles_of (found_here Two r name rs e f) ∙ ap Some (sym s)) i;
}

-- targets are all different
pub distinct_different : (names : List (List ℕ)) → AllPairs (λ a b. a ≢ b) (distinct names)
distinct_different [] = λ i j d lt inside. absurd (omega arith)
distinct_different (name ∷ older) = elim (cases_Bool (is_among (distinct older) name)) [
  | inl e ↦ rw e (distinct_different older)
  | inr e ↦ rw e (all_pairs_push (λ a b. a ≢ b) (distinct older) name (distinct_different older)
      (absent_name name (distinct older) e))
]

not_named : (a b : List ℕ) → a ≢ b → bytes_eq a b ≡ false
not_named a b ne = false_from_ne_true (bytes_eq a b) (λ e. ne ((bytes_eq-Decides a b).0 e))

-- a name that is no target has no reading
no_reading_of : (name : List ℕ) (readings : List Place)
    → is_among (targets_in readings) name ≡ false
    → AllByRecursion (λ r. bytes_eq (target_at r) name ≡ false) readings
no_reading_of name [] e = tt
no_reading_of name (r ∷ rs) e = elim (cases_Bool (is_among (targets_in rs) (target_at r))) [
  | inl t ↦
      let out : is_among (targets_in rs) name ≡ false = rw t at e in (
        not_named (target_at r) name (λ same. false≢true (sym out
            ∙ ap (is_among (targets_in rs)) (sym same) ∙ t)),
        no_reading_of name rs out,
      )
  | inr t ↦
      let p = or_parts (is_among (targets_in rs) name) (bytes_eq (target_at r) name || false)
      (sym (list_any-append (λ o. bytes_eq o name) (targets_in rs) (target_at r ∷ []))
      ∙ (rw t at e)) in
      ((or_parts (bytes_eq (target_at r) name) false p.1).0, no_reading_of name rs p.0)
]

-- What holds of each element of a list holds of each that a filter keeps.
pub all_filter : {X : Type 0} (P : X → Type 0) (p : X → Bool) (xs : List X) → AllByRecursion P xs
    → AllByRecursion P (filter p xs)
all_filter P p [] all = tt
all_filter P p (x ∷ xs) all = elim (cases_Bool (p x)) [
  | inl t ↦ rw t (all.0, all_filter P p xs all.1)
  | inr t ↦ rw t (all_filter P p xs all.1)
]

none_read : (f : Face) (name : List ℕ) (rs : List Place)
    → AllByRecursion (λ r. bytes_eq (target_at r) name ≡ false) rs → reading_in f name rs ≡ None
none_read f name [] all = refl
none_read f name (r ∷ rs) all = found_other f r name rs all.0 ∙ none_read f name rs all.1

empty_of : (name : List ℕ) (rs : List Place)
    → AllByRecursion (λ r. bytes_eq (target_at r) name ≡ false) rs → slot_of rs name ≡ empty_slot
empty_of name rs all = λ i. record {
  one = angles_of (none_read One name rs all i);
  two = angles_of (none_read Two name rs all i);
}

-- an empty slot at the end gives nothing
obs_empty : (n : ℕ) (slots : List Slot) → obs_of n (slots ++ empty_slot ∷ []) ≡ obs_of n slots
obs_empty n slots =
    ap (filter_map (obs_at n)) (enumerate-append 0 slots (empty_slot ∷ []))
    ∙ filter_map-append (obs_at n) (enumerate_from 0 slots)
    (enumerate_from (0 + length slots) (empty_slot ∷ [])) ∙ append-nil (obs_of n slots)

faces_empty : (slots : List Slot) → faces_of (slots ++ empty_slot ∷ []) ≡ faces_of slots
faces_empty slots = filter_map-append faces_at slots (empty_slot ∷ []) ∙ append-nil (faces_of slots)

-- the slots of a set without a reading of the new target
slots_new : (targets : List (List ℕ)) (name : List ℕ) (rs : List Place)
    → AllByRecursion (λ r. bytes_eq (target_at r) name ≡ false) rs
    → slots_of (targets ++ name ∷ []) rs ≡ slots_of targets rs ++ empty_slot ∷ []
slots_new targets name rs all = map-append (slot_of rs) targets (name ∷ [])
    ∙ ap (λ s. slots_of targets rs ++ s ∷ []) (empty_of name rs all)

-- older sets: the reading is in none of them
abbrev pub IsInNone : Place → List Place → List Place → Type 0
IsInNone r readings older = AllByRecursion (λ s. in_set s (r ∷ readings) ≡ in_set s readings) older

obs_same : (targets : List (List ℕ)) (r : Place) (readings older : List Place)
    → IsInNone r readings older
    → obs_in targets (r ∷ readings) older ≡ obs_in targets readings older
obs_same targets r readings [] all = refl
obs_same targets r readings
    (s ∷ older) all = λ i. obs_same targets r readings older all.1 i ++ obs_of (length older)
    (slots_of targets (all.0 i))

faces_same : (targets : List (List ℕ)) (r : Place) (readings older : List Place)
    → IsInNone r readings older
    → faces_in targets (r ∷ readings) older ≡ faces_in targets readings older
faces_same targets r readings [] all = refl
faces_same targets r readings
    (s ∷ older) all = λ i. faces_same targets r readings older all.1 i ++ faces_of
    (slots_of targets (all.0 i))

obs_new : (targets : List (List ℕ)) (name : List ℕ) (readings older : List Place)
    → AllByRecursion (λ r. bytes_eq (target_at r) name ≡ false) readings
    → obs_in (targets ++ name ∷ []) readings older ≡ obs_in targets readings older
obs_new targets name readings [] all = refl
obs_new targets name readings (s ∷ older) all =
    let rs = all_filter _ (λ r. is_same (opening (before r)) s) readings all in
    (λ i. obs_new targets name readings older all i ++ obs_of (length older)
    (slots_new targets name (in_set s readings) rs i))
    ∙ ap (λ os. obs_in targets readings older ++ os)
    (obs_empty (length older) (slots_of targets (in_set s readings)))

faces_new : (targets : List (List ℕ)) (name : List ℕ) (readings older : List Place)
    → AllByRecursion (λ r. bytes_eq (target_at r) name ≡ false) readings
    → faces_in (targets ++ name ∷ []) readings older ≡ faces_in targets readings older
faces_new targets name readings [] all = refl
faces_new targets name readings (s ∷ older) all =
    let rs = all_filter _ (λ r. is_same (opening (before r)) s) readings all in
    (λ i. faces_new targets name readings older all i ++ faces_of
    (slots_new targets name (in_set s readings) rs i))
    ∙ ap (λ os. faces_in targets readings older ++ os)
    (faces_empty (slots_of targets (in_set s readings)))

-- The slot at a place is that of the target at this place.
pub slot_get : (targets : List (List ℕ)) (rs : List Place) (k : ℕ) (d : List ℕ) → k < length targets
    → slot_at (slots_of targets rs) k ≡ slot_of rs (get_or targets k d)
slot_get [] rs k d lt = absurd (omega arith)
slot_get (t ∷ ts) rs zero d lt = refl
slot_get (t ∷ ts) rs (suc k) d lt = slot_get ts rs k d (omega arith)

-- a further reading of the target at place i
existing : (targets : List (List ℕ)) (i : ℕ) (f : Face) (v : Angles) (r : Place) (rs : List Place)
    → i < length targets → get_or targets i [] ≡ target_at r → AllPairs (λ a b. a ≢ b) targets
    → v ≡ angles_at r → passes_at (is_of_face f) r ≡ true → passes_at
    (is_of_face (other_face f)) r ≡ false
    → set (slots_of targets rs) i (with_face_reading f v (slot_at (slots_of targets rs) i))
    ≡ slots_of targets (r ∷ rs)
existing targets i f v r rs inside here different s g n = ext_get_or empty_slot
    (set (slots_of targets rs) i new) (slots_of targets (r ∷ rs)) same_length
    (λ k lt. at k (let l = length-set (slots_of targets rs) i new in
    let m = length-map targets (slot_of rs) in omega (arith, l, m, lt)) (cases_eq k i)) where
      new : Slot
      new = with_face_reading f v (slot_at (slots_of targets rs) i)

      same_length : length (set (slots_of targets rs) i new) ≡ length (slots_of targets (r ∷ rs))
      same_length = length-set (slots_of targets rs) i new ∙ length-map targets (slot_of rs)
          ∙ sym (length-map targets (slot_of (r ∷ rs)))

      inside_slots : i < length (slots_of targets rs)
      inside_slots = let m = length-map targets (slot_of rs) in omega (arith, m)

      own : new ≡ slot_at (slots_of targets (r ∷ rs)) i
      own = ap (with_face_reading f v) (slot_get targets rs i [] inside)
          ∙ sym (slot_own f v r (get_or targets i []) rs s g n
          ((bytes_eq-Decides (target_at r) (get_or targets i [])).1 (sym here)))
          ∙ sym (slot_get targets (r ∷ rs) i [] inside)

      other_name : (k : ℕ) → k < length targets → k ≢ i → (k < i) ⊎ (i ≤ k)
          → get_or targets i [] ≢ get_or targets k []
      other_name k lt ne (inl l) = λ e. different k i [] l inside (sym e)
      other_name k lt ne (inr l) = λ e. different i k [] (omega arith) lt e

      at : (k : ℕ) → k < length targets → (k ≡ i) ⊎ (k ≡ i → ⊥)
          → slot_at (set (slots_of targets rs) i new) k ≡ slot_at (slots_of targets (r ∷ rs)) k
      at k lt (inl e) = ap (slot_at (set (slots_of targets rs) i new)) e
          ∙ get_or-set_same (slots_of targets rs) i new empty_slot inside_slots ∙ own
          ∙ ap (slot_at (slots_of targets (r ∷ rs))) (sym e)
      at k lt (inr ne) =
          get_or-set_other (slots_of targets rs) i k new empty_slot ne ∙ slot_get targets rs k [] lt
          ∙ sym (slot_other r (get_or targets k []) rs
          (not_named (target_at r) (get_or targets k [])
          (λ e. other_name k lt ne (cases_lt k i) (here ∙ e))))
          ∙ sym (slot_get targets (r ∷ rs) k [] lt)

others_stay : (targets : List (List ℕ)) (r : Place) (rs : List Place)
    → is_among targets (target_at r) ≡ false → slots_of targets (r ∷ rs) ≡ slots_of targets rs
others_stay [] r rs e = refl
others_stay (t ∷ ts) r rs e =
    let p = or_parts (bytes_eq t (target_at r)) (is_among ts (target_at r)) e in
    let q : bytes_eq (target_at r) t ≡ false = not_named (target_at r) t
    (λ same. false≢true (sym p.0 ∙ (bytes_eq-Decides t (target_at r)).1 (sym same))) in
    λ i. slot_other r t rs q i ∷ others_stay ts r rs p.1 i

-- after a reading
pub reading_state : (st newest : Place) (older readings : List Place) (r : Place) (name : List ℕ)
    (e : StationState) (s : Reading) → Says s r
    → in_set newest (r ∷ readings) ≡ r ∷ in_set newest readings → IsInNone r readings older
    → IsStateOf st newest older readings name e
    → IsStateOf st newest older (r ∷ readings) name (with_reading s e)
reading_state st newest older readings r name e s says mine none h = split
    (place_of s.target e.targets) refl where
      place : place_of s.target e.targets ≡ place_of (target_at r) (targets_in readings)
      place = λ j. place_of (says.target_is j) (h.targets j)

      split : (o : Option ℕ) → place_of s.target e.targets ≡ o
          → IsStateOf st newest older (r ∷ readings) name (with_reading_at s e o)
      split (Some i) p =
          let at = position-Some (λ x. bytes_eq x (target_at r)) (targets_in readings) i []
          (sym place ∙ p) in
          let here : get_or (targets_in readings) i [] ≡ target_at r =
          (bytes_eq-Decides (get_or (targets_in readings) i []) (target_at r)).0 at.1 in
          let among : is_among (targets_in readings) (target_at r) ≡ true = list_any_at
          (λ x. bytes_eq x (target_at r)) (targets_in readings) i [] at.0 at.1 in
          let same : targets_in (r ∷ readings) ≡ targets_in readings = ap
          (λ v. cond v (targets_in readings) (targets_in readings ++ target_at r ∷ [])) among in
          record {
            named_so = h.named_so;
            targets = h.targets ∙ sym same;
            numbers = h.numbers;
            slots = (λ j. set (h.slots j) i
                (with_face_reading s.face s.angles (slot_at (h.slots j) i)))
                ∙ existing (targets_in readings) i s.face s.angles r
                (in_set newest readings) at.0 here
                (distinct_different (map (λ q. target_at q) readings)) says.angles_are says.face_is
                says.face_not ∙ (λ j. slots_of (sym same j) (sym mine j));
            obs = h.obs ∙ sym (ap (λ ts. obs_in ts (r ∷ readings) older) same
                ∙ obs_same (targets_in readings) r readings older none);
            faces = h.faces ∙ sym
                (ap (λ ts. faces_in ts (r ∷ readings) older) same
                ∙ faces_same (targets_in readings) r readings older none);
          }
      split None p =
          let out : is_among (targets_in readings) (target_at r) ≡ false = absent
          (λ x. bytes_eq x (target_at r)) (targets_in readings) (sym place ∙ p) in
          let more : targets_in (r ∷ readings) ≡ targets_in readings ++ target_at r ∷ [] = ap
          (λ v. cond v (targets_in readings) (targets_in readings ++ target_at r ∷ [])) out in
          let unread = no_reading_of (target_at r) readings out in
          let own : slot_of (r ∷ in_set newest readings) (target_at r)
          ≡ with_face_reading s.face s.angles empty_slot = slot_own s.face s.angles r (target_at r)
          (in_set newest readings) says.angles_are says.face_is says.face_not
          ((bytes_eq-Decides (target_at r) (target_at r)).1 refl)
          ∙ ap (with_face_reading s.face s.angles)
          (empty_of (target_at r) (in_set newest readings)
          (all_filter _ (λ q. is_same (opening (before q)) newest) readings unread)) in
          record {
            named_so = h.named_so;
            targets = (λ j. h.targets j ++ says.target_is j ∷ []) ∙ sym more;
            numbers = h.numbers;
            slots = (λ j. h.slots j ++ with_face_reading s.face s.angles empty_slot ∷ [])
                ∙ sym (map-append (slot_of (r ∷ in_set newest readings)) (targets_in readings)
                (target_at r ∷ []) ∙ (λ j. others_stay (targets_in readings) r
                (in_set newest readings) out j ++ own j ∷ []))
                ∙ (λ j. slots_of (sym more j) (sym mine j));
            obs = h.obs ∙ sym (ap (λ ts. obs_in ts (r ∷ readings) older) more
                ∙ obs_same (targets_in readings ++ target_at r ∷ []) r readings older none
                ∙ obs_new (targets_in readings) (target_at r) readings older unread);
            faces = h.faces ∙ sym
                (ap (λ ts. faces_in ts (r ∷ readings) older) more
                ∙ faces_same (targets_in readings ++ target_at r ∷ []) r readings older none
                ∙ faces_new (targets_in readings) (target_at r) readings older unread);
          }
