-- What always holds of what is kept of a station still holds after a set and after a reading; and
-- once the last set may end, it is a station of the kernel.
use Rattle.std.proofs.Common.{◌≡◌, ◌≢◌, ℕ, ◌+◌, ◌-◌, ◌<◌, ◌≤◌, Bool, false, eqb, Result, Err, List}
use Rattle.std.proofs.Common.{[], ◌∷◌, ◌++◌, length, get_or, set, replicate, All, Any, Some, None}
use Rattle.std.proofs.Common.{is_none, inl, inr, ◌⊎◌, refl, sym, ap, ◌∙◌, subst, arith}
use Rattle.std.specs.List.{list_any, list_all}
use Rattle.std.specs.Str.{bytes_eq}
use Rattle.std.proofs.lemmas.Bool.{cases_lt, cases_eq, false≢true, eq-eqb, and_right}
use Rattle.std.proofs.lemmas.List.{length-append, length-set, get_or_append_left, get_or-append-add}
use Rattle.std.proofs.lemmas.List.{get_or-set_same, get_or-set_other, length-replicate}
use Rattle.std.proofs.lemmas.List.Elements.{All-push, All-weaker, All-set, All-replicate}
use Rattle.std.proofs.lemmas.List.Quantifiers.{all_pairs_push}
use Rattle.std.proofs.lemmas.Slice.Eq.{bytes_eq-Decides}
use Rattle.adjust_kernel.specs.Names.{IsName}
use Rattle.adjust_kernel.specs.Sheets.{IsSetNumber}
use Rattle.adjust_kernel.specs.Stations.{IsObs, AreObs, IsStation, station_of}
use Rattle.adjust_kernel.specs.declared.obs.Obs.{Obs}
use Rattle.station_book.specs.declared.face.Face.{Face}
use Rattle.station_book.specs.declared.face.Face.TheVariants.{One, Two}
use Rattle.station_book.specs.declared.fault.BookKind.TheVariants as kinds
use Rattle.station_book.specs.TwoFaces.{Angles, AreOnCircle}
use Rattle.station_book.specs.declared.angles.Reading.{Reading}
use Rattle.station_book.specs.declared.slot.Slot.{Slot}
use Rattle.station_book.specs.Faults.{when, first_of}
use Rattle.station_book.specs.Slots.{slot_at, empty_slot, with_face_reading, is_unread, is_single}
use Rattle.station_book.specs.Slots.{obs_of, faces_of, IsKeptSlot}
use Rattle.station_book.specs.SoFar.{AreSoFar}
use Rattle.station_book.specs.StationState.{StationState, closed, with_set, place_of}
use Rattle.station_book.specs.StationState.{new_target_fault, state_faults_at, state_faults}
use Rattle.station_book.specs.StationState.{with_reading_at, IsStationState, MayEnd}
use Rattle.std.specs.Prelude.{IfErr}
use Rattle.station_book.specs.Limits.{FaceLimits}
use Rattle.station_book.specs.declared.faces.Faces.{Faces}
use Rattle.station_book.specs.declared.fault.BookKind.{BookKind}
use Rattle.station_book.proofs.states.ClosedSets.{closes}
use Rattle.station_book.proofs.states.SlotObservations.{pairs_match}
use Rattle.std.proofs.lemmas.List.Folds.{list_any_at}
use Rattle.station_book.specs.Targets.{TargetsValue, IsAdded}
use Rattle.station_book.proofs.lists.JoinedLists.{absent}

-- what is kept of a station, by the parts in which the code keeps it
abbrev pub state_of_parts : TargetsValue → List ℕ → List Obs → List Faces → StationState
state_of_parts t sets obs faces =
    record { targets = t.names; slots = t.slots; sets = sets; obs = obs; faces = faces }

none_when : (a b : Bool) → first_of (when a kinds.EmptySet ∷ when b kinds.OneFace ∷ []) ≡ None
    → (a ≡ false) × (b ≡ false)
none_when false false e = (refl, refl)
none_when a b e = cc

-- the targets of what is kept
abbrev targets_of : StationState → TargetsValue
targets_of e = record { names = e.targets; slots = e.slots }

length_one : {X : Type 0} (xs : List X) (x : X) → length (xs ++ x ∷ []) ≡ length xs + 1
length_one xs x = length-append xs (x ∷ [])

-- the observations once the last set has ended
closed_obs : (e : StationState) → IsStationState e → MayEnd e
    → AreObs (length e.sets) (length e.targets) (closed e).obs
closed_obs e h may =
    let tests = none_when (list_all is_unread e.slots) (list_any is_single e.slots) may in
    let n : length e.sets - 1 + 1 ≡ length e.sets = let s = h.some_set in omega (arith, s) in
    subst (λ (t : ℕ). AreObs (length e.sets) t (closed e).obs) h.same_length
    (subst (λ (k : ℕ). AreObs k (length e.slots) (closed e).obs) n
    (closes (length e.sets - 1) e.slots e.obs h.so_far tests.0 tests.1))

paired_more : (fs gs : List Faces) (os ps : List Obs) → length fs ≡ length os
    → length gs ≡ length ps → length (fs ++ gs) ≡ length (os ++ ps)
paired_more fs gs os ps e f = length-append fs gs ∙ (λ i. e i + f i) ∙ sym (length-append os ps)

-- each observation of the closed station has its face differences
pub closed_paired : (e : StationState) → IsStationState e → length (closed e).faces ≡ length
    (closed e).obs
closed_paired e h = paired_more e.faces (faces_of e.slots) e.obs
    (obs_of (length e.sets - 1) e.slots) h.paired (pairs_match (length e.sets - 1) e.slots)

some_target : (slots : List Slot) → list_all is_unread slots ≡ false → 1 ≤ length slots
some_target [] e = cc
some_target (s ∷ slots) e = omega arith

-- a station of the kernel
pub is_station : (name : List ℕ) (e : StationState) → IsName name → IsStationState e → MayEnd e
    → IsStation (station_of name e.targets e.sets (closed e).obs)
is_station name e named h may = record {
  name = named;
  targets = record {
    some = (let tests = none_when (list_all is_unread e.slots)
        (list_any is_single e.slots) may in let s = some_target e.slots tests.0 in let l =
        h.same_length in omega (arith, s, l));
    few = h.few_targets;
    names = h.names;
    different = h.different;
  };
  sets = record {
    some = h.some_set;
    few = h.few_sets;
    numbers = h.numbers;
    different = h.different_sets;
  };
  obs = closed_obs e h may;
}

absent_number : (n : ℕ) (sets : List ℕ) → list_any (λ m. eqb m n) sets ≡ false → (k : ℕ) (d : ℕ)
    → k < length sets → get_or sets k d ≢ n
absent_number n sets e k d lt = λ same. false≢true (sym e
    ∙ list_any_at (λ m. eqb m n) sets k d lt (eq-eqb (get_or sets k d) n same))

-- after a set
set_is_state : (n : ℕ) (e : StationState) → IsStationState e → MayEnd e
    → list_any (λ m. eqb m n) e.sets ≡ false → length e.sets < 40 → IsSetNumber n
    → IsStationState (with_set n e)
set_is_state n e h may new few number = record {
  same_length = length-replicate (length e.slots) empty_slot ∙ h.same_length;
  paired = paired_more e.faces (faces_of e.slots) e.obs
      (obs_of (length e.sets - 1) e.slots) h.paired (pairs_match (length e.sets - 1) e.slots);
  few_targets = h.few_targets;
  some_set = (let l = length_one e.sets n in omega (arith, l));
  few_sets = (let l = length_one e.sets n in omega (arith, l));
  angles = All-replicate IsKeptSlot (length e.slots) empty_slot (tt, tt);
  names = h.names;
  different = h.different;
  numbers = All-push IsSetNumber e.sets n h.numbers number;
  different_sets = all_pairs_push (λ a b. a ≢ b) e.sets n h.different_sets
      (absent_number n e.sets new);
  so_far = subst (λ (k : ℕ). AreSoFar k (replicate (length e.slots) empty_slot) (closed e).obs)
      count
      after;
} where
  count : length e.sets ≡ length (e.sets ++ n ∷ []) - 1
  count = let l = length_one e.sets n in omega (arith, l)

  obs : AreObs (length e.sets) (length e.targets) (closed e).obs
  obs = closed_obs e h may

  targets : length e.targets ≡ length (replicate (length e.slots) empty_slot)
  targets = sym (length-replicate (length e.slots) empty_slot ∙ h.same_length)

  after : AreSoFar (length e.sets) (replicate (length e.slots) empty_slot) (closed e).obs
  after = record {
    within = subst (λ (t : ℕ). All (IsObs (length e.sets) t) (closed e).obs) targets obs.within;
    ordered = obs.ordered;
    each_set = obs.each_set;
    each_target = λ t lt. inl (obs.each_target t (let l = targets in omega (arith, l, lt)));
  }

read_now : (f : Face) (v : Angles) (s : Slot) → is_unread (with_face_reading f v s) ≡ false
read_now One v s = refl
read_now Two v s = and_right (is_none s.one) false refl

kept_reading : (f : Face) (v : Angles) (s : Slot) → AreOnCircle v → IsKeptSlot s
    → IsKeptSlot (with_face_reading f v s)
kept_reading One v s lt h = (lt, h.1)
kept_reading Two v s lt h = (h.0, lt)

-- after a further reading of a target
reading_is_state : (s : Reading) (e : StationState) (i : ℕ) → IsStationState e
    → i < length e.slots
    → AreOnCircle s.angles → IsStationState (with_reading_at s e (Some i))
reading_is_state s e i h inside low = record {
  same_length = length-set e.slots i new ∙ h.same_length;
  paired = h.paired;
  few_targets = h.few_targets;
  some_set = h.some_set;
  few_sets = h.few_sets;
  angles = All-set IsKeptSlot e.slots i new
      (kept_reading s.face s.angles (slot_at e.slots i) low (h.angles i empty_slot inside))
      h.angles;
  names = h.names;
  different = h.different;
  numbers = h.numbers;
  different_sets = h.different_sets;
  so_far = record {
    within = subst (λ (t : ℕ). All (IsObs (length e.sets - 1) t) e.obs)
        (sym (length-set e.slots i new)) h.so_far.within;
    ordered = h.so_far.ordered;
    each_set = h.so_far.each_set;
    each_target = λ t lt. by t
        (h.so_far.each_target t (let l = length-set e.slots i new in omega (arith, l, lt)))
        (same_or_other t);
  };
} where
  new : Slot
  new = with_face_reading s.face s.angles (slot_at e.slots i)

  same_or_other : (t : ℕ) → (t ≡ i) ⊎ (t ≢ i)
  same_or_other t = cases_eq t i

  by : (t : ℕ) → Any (λ o. o.target ≡ t) e.obs ⊎ (is_unread (slot_at e.slots t) ≡ false)
      → (t ≡ i) ⊎ (t ≢ i) → Any (λ o. o.target ≡ t) e.obs
      ⊎ (is_unread (slot_at (set e.slots i new) t) ≡ false)
  by t (inl a) c = inl a
  by t (inr r) (inl c) = inr
      (ap (λ (k : ℕ). is_unread (slot_at (set e.slots i new) k)) c
      ∙ ap is_unread (get_or-set_same e.slots i new empty_slot inside)
      ∙ read_now s.face s.angles (slot_at e.slots i))
  by t (inr r) (inr c) = inr (ap is_unread (get_or-set_other e.slots i t new empty_slot c) ∙ r)

-- A name that is not listed is at no place of the list.
pub absent_name : (name : List ℕ) (targets : List (List ℕ))
    → list_any (λ t. bytes_eq t name) targets ≡ false → (k : ℕ) (d : List ℕ) → k < length targets
    → get_or targets k d ≢ name
absent_name name targets e k d lt = λ same. false≢true (sym e
    ∙ list_any_at (λ t. bytes_eq t name) targets k d lt
    ((bytes_eq-Decides (get_or targets k d) name).1 same))

-- after the first reading of a target
target_is_state : (s : Reading) (e : StationState) → IsStationState e
    → list_any (λ t. bytes_eq t s.target) e.targets ≡ false → length e.targets < 100
    → IsName s.target → AreOnCircle s.angles → IsStationState (with_reading_at s e None)
target_is_state s e h new few named low = record {
  same_length = (let l = length_one e.slots slot in let m = length_one e.targets s.target in let n =
      h.same_length in omega (arith, l, m, n));
  paired = h.paired;
  few_targets = (let m = length_one e.targets s.target in omega (arith, m));
  some_set = h.some_set;
  few_sets = h.few_sets;
  angles = All-push IsKeptSlot e.slots slot h.angles
      (kept_reading s.face s.angles empty_slot low (tt, tt));
  names = All-push IsName e.targets s.target h.names named;
  different = all_pairs_push (λ a b. a ≢ b) e.targets s.target h.different
      (absent_name s.target e.targets new);
  numbers = h.numbers;
  different_sets = h.different_sets;
  so_far = record {
    within = All-weaker (IsObs (length e.sets - 1) (length e.slots))
        (IsObs (length e.sets - 1) (length (e.slots ++ slot ∷ [])))
        (λ o k. record {
          set = k.set;
          target = (let t = k.target in let l = length_one e.slots slot in omega (arith, t, l));
          value = k.value;
        }) e.obs h.so_far.within;
    ordered = h.so_far.ordered;
    each_set = h.so_far.each_set;
    each_target = λ t lt. by t (cases t (let l = length_one e.slots slot in omega (arith, l, lt)));
  };
} where
  slot : Slot
  slot = with_face_reading s.face s.angles empty_slot

  cases : (t : ℕ) → t < length e.slots + 1 → (t < length e.slots) ⊎ (t ≡ length e.slots + 0)
  cases t lt = elim (cases_lt t (length e.slots)) [ inl l ↦ inl l | inr l ↦ inr (omega arith) ]

  old : (t : ℕ) → t < length e.slots
      → Any (λ o. o.target ≡ t) e.obs ⊎ (is_unread (slot_at e.slots t) ≡ false)
      → Any (λ o. o.target ≡ t) e.obs ⊎ (is_unread (slot_at (e.slots ++ slot ∷ []) t) ≡ false)
  old t lt (inl a) = inl a
  old t lt (inr r) = inr (ap is_unread (get_or_append_left e.slots (slot ∷ []) empty_slot t lt) ∙ r)

  by : (t : ℕ) → (t < length e.slots) ⊎ (t ≡ length e.slots + 0)
      → Any (λ o. o.target ≡ t) e.obs ⊎ (is_unread (slot_at (e.slots ++ slot ∷ []) t) ≡ false)
  by t (inl lt) = old t lt (h.so_far.each_target t lt)
  by t (inr c) = inr (ap (λ (k : ℕ). is_unread (slot_at (e.slots ++ slot ∷ []) k)) c
      ∙ ap is_unread (get_or-append-add e.slots (slot ∷ []) 0 empty_slot)
      ∙ read_now s.face s.angles empty_slot)

-- the same, where the target was added as the code adds it
pub added_kept : (s : Reading) (e : StationState) (t : TargetsValue)
    → IsAdded s.target (with_face_reading s.face s.angles empty_slot) (targets_of e) t
    → IsStationState e → IsName s.target → AreOnCircle s.angles → IsStationState
    (state_of_parts t e.sets e.obs e.faces)
added_kept s e t is h named low = subst IsStationState
    (λ i. state_of_parts (sym is.added i) e.sets e.obs e.faces)
    (target_is_state s e h (absent (λ t. bytes_eq t s.target) e.targets (sym is.absent)) is.room
    named low)

-- a reading more of a target, as the code notes it
pub read_kept : (s : Reading) (e : StationState) (old t : TargetsValue) (i : ℕ) (new : Slot)
    → old ≡ targets_of e → t.names ≡ old.names → t.slots ≡ set old.slots i new
    → new ≡ with_face_reading s.face s.angles (slot_at old.slots i) → IsStationState e
    → i < length e.targets
    → AreOnCircle s.angles → IsStationState (state_of_parts t e.sets e.obs e.faces)
read_kept s e old t i new was names slots is h inside low =
    let here : i < length e.slots = let l = h.same_length in omega (arith, inside, l) in
    subst IsStationState
    (λ k. record {
      targets = sym (names ∙ ap (λ (w : TargetsValue). w.names) was) k;
      slots = sym (slots ∙ (λ j. set (was j).slots i (same j))) k;
      sets = e.sets;
      obs = e.obs;
      faces = e.faces;
    })
    (reading_is_state s e i h here low)
  where
    same : new ≡ with_face_reading s.face s.angles (slot_at e.slots i)
    same = is ∙ ap (λ (w : TargetsValue). with_face_reading s.face s.angles (slot_at w.slots i)) was

-- What always holds of a station holds after a set, as the code notes it.
pub set_kept : (n : ℕ) (e : StationState) (targets : List (List ℕ)) (slots : List Slot)
    (sets : List ℕ) (obs : List Obs) (faces : List Faces) → targets ≡ e.targets
    → slots ≡ replicate (length e.slots) empty_slot → sets ≡ e.sets ++ n ∷ []
    → obs ≡ (closed e).obs → faces ≡ (closed e).faces
    → IsStationState e → MayEnd e → list_any (λ m. eqb m n) e.sets ≡ false → length e.sets < 40
    → IsSetNumber n → IsStationState
    (record { targets = targets; slots = slots; sets = sets; obs = obs; faces = faces })
set_kept n e targets slots sets obs faces et el es eo ef h may new few number = subst IsStationState
    (λ i. record {
      targets = sym et i;
      slots = sym el i;
      sets = sym es i;
      obs = sym eo i;
      faces = sym ef i;
    }) (set_is_state n e h may new few number)

-- the fault of a new target, as that of a reading
pub fault_moved : {X : Type 0} (limits : FaceLimits) (e now : StationState) (s : Reading)
    (f : BookKind) (r : Result X BookKind) → Err f ≡ r → e ≡ now
    → place_of s.target e.targets ≡ None → new_target_fault e.targets ≡ Some f
    → IfErr r (λ kind. first_of (state_faults limits now s) ≡ Some kind)
fault_moved limits e now s f r it v absent h =
    subst (λ r. IfErr r (λ kind. first_of (state_faults limits now s) ≡ Some kind)) it
    (ap (λ (w : StationState). first_of (state_faults limits w s)) (sym v)
    ∙ ap (λ o. first_of (state_faults_at limits e s o)) absent ∙ h)
