-- From places to names: an acceptance is least squares by places, the promise by names.
use Rattle.std.proofs.Common.{◌≡◌, ◌≢◌, List, ℕ, zero, suc, ◌<◌, ◌≤◌, refl, sym, subst, ap, ◌∙◌}
use Rattle.std.proofs.Common.{[], ◌∷◌, length, arith, eqb}
use Rattle.std.specs.Prelude.{map, All, AllPairs, ℤ, pos, ◌+ℤ◌, slice_index_or}
use Rattle.std.specs.Str.{bytes_eq}
use Rattle.std.proofs.lemmas.Bool.{false_from_ne_true, eq-eqb, eqb-true}
use Rattle.std.proofs.lemmas.Int.{ints}
use Rattle.std.proofs.lemmas.List.{length-map}
use Rattle.std.specs.Prelude.{◌*◌, ◌-ℤ◌, ◌*ℤ◌, ◌≤ℤ◌}
use Rattle.std.proofs.lemmas.Slice.Eq.{bytes_eq-Decides}
use Rattle.adjust_kernel.specs.declared.obs.Obs.{Obs}
use Rattle.adjust_kernel.specs.declared.row.Row.{Row}
use Rattle.adjust_kernel.specs.declared.row.Direction.{Direction}
use Rattle.adjust_kernel.specs.declared.row.Orientation.{Orientation}
use Rattle.adjust_kernel.specs.Least.{IsLeast, IsUnique}
use Rattle.adjust_kernel.specs.Matching.{Key, key_of_row, key_of_obs}
use Rattle.adjust_kernel.specs.Pairs.{turned_by, turned_by_rows, choice_stated_by}
use Rattle.adjust_kernel.specs.Residuals.{Choice, residual, sum_of_squares}
use Rattle.adjust_kernel.specs.Sheets.{SheetValue, IsRow}
use Rattle.adjust_kernel.specs.Stations.{StationValue}
use Rattle.adjust_kernel.specs.Sums.{squared}
use Rattle.adjust_kernel.specs.Turns.{with_turns, IsLeastOverTurns}
use Rattle.adjust_kernel.specs.TurnedObservations.{TurnedObservation}
use Rattle.adjust_kernel.specs.Verdict.{observations}
use Rattle.adjust_kernel.specs.Within.{IsWithin}
use Rattle.std.specs.List.{AllByRecursion}
use Rattle.std.specs.Prelude.{Any, unsigned_abs}
use Rattle.std.proofs.lemmas.List.Elements.{All-from_recursion}
use Rattle.sheet_promise.specs.LeastByNames.{NamedChoice, residual_of_row, squares_of_rows}
use Rattle.sheet_promise.specs.LeastByNames.{stated_in, direction_beside, orientation_beside}
use Rattle.sheet_promise.specs.LeastByNames.{IsLeastByNames, rows_turned, IsLeastOverAllTurns}
use Rattle.sheet_promise.specs.LeastByNames.{AreResidualsWithin, IsSizeOfOne, IsOnlyLeast}

-- The same choice, by places.
abbrev placed : List ℕ → List (List ℕ) → NamedChoice → Choice
placed sets targets c = record {
  denominator = c.denominator;
  direction = λ t. c.direction (slice_index_or targets t []);
  orientation = λ s. c.orientation (slice_index_or sets s 0);
}

row_is : (sets : List ℕ) (targets : List (List ℕ)) (c : NamedChoice) (r : Row) (o : Obs)
    → key_of_row r ≡ key_of_obs sets targets o
    → residual_of_row c r ≡ residual (placed sets targets c) (turned_by o r.turn)
row_is sets targets c r o e =
    let s : r.set ≡ slice_index_or sets o.set 0 = ap (λ (k : Key). k.set) e in
    let t : r.target ≡ slice_index_or targets o.target [] = ap (λ (k : Key). k.target) e in
    let v : r.value ≡ o.value = ap (λ (k : Key). k.value) e in
    rw (s, t, v) refl

head_is : (a b : Key) (xs ys : List Key) → (a ∷ xs) ≡ (b ∷ ys) → a ≡ b
head_is a b xs ys e = cc

tail_is : (a b : Key) (xs ys : List Key) → (a ∷ xs) ≡ (b ∷ ys) → xs ≡ ys
tail_is a b xs ys e = cc

squares_are : (sets : List ℕ) (targets : List (List ℕ)) (c : NamedChoice) (rows : List Row)
    (obs : List Obs) → map key_of_row rows ≡ map (key_of_obs sets targets) obs
    → squares_of_rows c rows ≡ sum_of_squares (placed sets targets c) (turned_by_rows obs rows)
squares_are sets targets c [] [] e = refl
squares_are sets targets c [] (o ∷ obs) e = cc
squares_are sets targets c (r ∷ rows) [] e = cc
squares_are sets targets c (r ∷ rows) (o ∷ obs) e =
    let h = row_is sets targets c r o (head_is _ _ _ _ e) in
    let t = squares_are sets targets c rows obs (tail_is _ _ _ _ e) in
    ap (λ (z : ℤ). squared z +ℤ squares_of_rows c rows) h
    ∙ ap (λ (z : ℤ). squared (residual (placed sets targets c) (turned_by o r.turn)) +ℤ z) t

-- A name that is not empty is no name by default, so it stands in the list.
named_inside : (names : List (List ℕ)) (t : ℕ) → 1 ≤ length (slice_index_or names t [])
    → t < length names
named_inside [] t some = absurd (omega (arith, some))
named_inside (n ∷ names) zero some = omega arith
named_inside (n ∷ names) (suc t) some =
    let i = named_inside names t some in omega (arith, i)

numbered_inside : (numbers : List ℕ) (s : ℕ) → 1 ≤ slice_index_or numbers s 0
    → s < length numbers
numbered_inside [] s some = absurd (omega (arith, some))
numbered_inside (n ∷ numbers) zero some = omega arith
numbered_inside (n ∷ numbers) (suc s) some =
    let i = numbered_inside numbers s some in omega (arith, i)

later_pairs : {X : Type 0} (R : X → X → Type 0) (x : X) (xs : List X) → AllPairs R (x ∷ xs)
    → AllPairs R xs
later_pairs R x xs all =
    λ i j d before inside. all (suc i) (suc j) d (omega (arith, before)) (omega (arith, inside))

-- What stands beside a name is what stands at its place, where no name stands twice.
direction_at : (ds : List Direction) (t : ℕ) → AllPairs (λ a b. a ≢ b) (map (λ d. d.name) ds)
    → 1 ≤ length (slice_index_or (map (λ d. d.name) ds) t [])
    → direction_beside ds (slice_index_or (map (λ d. d.name) ds) t [])
    ≡ slice_index_or (map (λ d. d.value) ds) t (pos 0)
direction_at [] t differ some = absurd (omega (arith, some))
direction_at (d ∷ ds) zero differ some = rw ((bytes_eq-Decides d.name d.name).1 refl) refl
direction_at (d ∷ ds) (suc t) differ some =
    let inside = named_inside (map (λ d. d.name) ds) t some in
    let other = differ 0 (suc t) [] (omega arith) (omega (arith, inside)) in
    let name = slice_index_or (map (λ d. d.name) ds) t [] in
    rw (false_from_ne_true (bytes_eq d.name name)
    (λ e. other ((bytes_eq-Decides d.name name).0 e)))
    (direction_at ds t (later_pairs (λ a b. a ≢ b) d.name (map (λ d. d.name) ds) differ) some)

orientation_at : (os : List Orientation) (s : ℕ) → AllPairs (λ a b. a ≢ b) (map (λ o. o.set) os)
    → 1 ≤ slice_index_or (map (λ o. o.set) os) s 0
    → orientation_beside os (slice_index_or (map (λ o. o.set) os) s 0)
    ≡ slice_index_or (map (λ o. o.value) os) s (pos 0)
orientation_at [] s differ some = absurd (omega (arith, some))
orientation_at (o ∷ os) zero differ some = rw (eq-eqb o.set o.set refl) refl
orientation_at (o ∷ os) (suc s) differ some =
    let inside = numbered_inside (map (λ o. o.set) os) s some in
    let other = differ 0 (suc s) 0 (omega arith) (omega (arith, inside)) in
    let number = slice_index_or (map (λ o. o.set) os) s 0 in
    rw (false_from_ne_true (eqb o.set number) (λ e. other (eqb-true o.set number e)))
    (orientation_at os s (later_pairs (λ a b. a ≢ b) o.set (map (λ o. o.set) os) differ) some)

-- No target and no set of a sheet stands twice.
pub record NothingTwice (sheet : SheetValue) : Type 0 where
  pub targets : AllPairs (λ a b. a ≢ b) (map (λ d. d.name) sheet.directions)
  pub sets : AllPairs (λ a b. a ≢ b) (map (λ o. o.set) sheet.orientations)

-- What a row says by names, it says by the places of its observation.
stated_row : (sheet : SheetValue) → NothingTwice sheet → (r : Row) (o : Obs) → IsRow r
    → key_of_row r ≡ key_of_obs (map (λ o. o.set) sheet.orientations)
    (map (λ d. d.name) sheet.directions) o
    → residual_of_row (stated_in sheet) r
    ≡ residual (choice_stated_by sheet) (turned_by o r.turn)
stated_row sheet once r o is k =
    let s : r.set ≡ slice_index_or (map (λ o. o.set) sheet.orientations) o.set 0 =
    ap (λ (k : Key). k.set) k in
    let t : r.target ≡ slice_index_or (map (λ d. d.name) sheet.directions) o.target [] =
    ap (λ (k : Key). k.target) k in
    let v : r.value ≡ o.value = ap (λ (k : Key). k.value) k in
    let a : direction_beside sheet.directions r.target
    ≡ (choice_stated_by sheet).direction o.target =
    ap (direction_beside sheet.directions) t ∙ direction_at sheet.directions o.target once.targets
    (subst (λ (n : List ℕ). 1 ≤ length n) t is.target.some) in
    let b : orientation_beside sheet.orientations r.set
    ≡ (choice_stated_by sheet).orientation o.set =
    ap (orientation_beside sheet.orientations) s
    ∙ orientation_at sheet.orientations o.set once.sets
    (subst (λ (n : ℕ). 1 ≤ n) s is.set.0) in
    rw (a, b, v) refl

stated_are : (sheet : SheetValue) → NothingTwice sheet → (rows : List Row)
    (obs : List Obs) → All IsRow rows
    → map key_of_row rows ≡ map (key_of_obs (map (λ o. o.set) sheet.orientations)
    (map (λ d. d.name) sheet.directions)) obs
    → squares_of_rows (stated_in sheet) rows
    ≡ sum_of_squares (choice_stated_by sheet) (turned_by_rows obs rows)
stated_are sheet once [] [] all e = refl
stated_are sheet once [] (o ∷ obs) all e = cc
stated_are sheet once (r ∷ rows) [] all e = cc
stated_are sheet once (r ∷ rows) (o ∷ obs) all e =
    let c = stated_in sheet in
    let h = stated_row sheet once r o (all 0 r (omega arith)) (head_is _ _ _ _ e) in
    let rest = stated_are sheet once rows obs (λ k d below. all (suc k) d (omega (arith, below)))
    (tail_is _ _ _ _ e) in
    ap (λ (z : ℤ). squared z +ℤ squares_of_rows c rows) h
    ∙ ap (λ (z : ℤ). squared (residual (choice_stated_by sheet) (turned_by o r.turn)) +ℤ z) rest

limits_are : (sheet : SheetValue) → NothingTwice sheet → (most : ℤ) (rows : List Row)
    (obs : List Obs) → All IsRow rows
    → map key_of_row rows ≡ map (key_of_obs (map (λ o. o.set) sheet.orientations)
    (map (λ d. d.name) sheet.directions)) obs
    → All (λ r. IsWithin most (residual (choice_stated_by sheet) r)) (turned_by_rows obs rows)
    → AllByRecursion (λ r. IsWithin most (residual_of_row (stated_in sheet) r)) rows
limits_are sheet once most [] obs all e kept = tt
limits_are sheet once most (r ∷ rows) [] all e kept = cc
limits_are sheet once most (r ∷ rows) (o ∷ obs) all e kept =
    let h = stated_row sheet once r o (all 0 r (omega arith)) (head_is _ _ _ _ e) in (
      subst (IsWithin most) (sym h) (kept 0 (turned_by o r.turn) (omega arith)),
      limits_are sheet once most rows obs (λ k d below. all (suc k) d (omega (arith, below)))
          (tail_is _ _ _ _ e) (λ k d below. kept (suc k) d (omega (arith, below))),
    )

size_is : (sheet : SheetValue) → NothingTwice sheet → (size : ℤ) (rows : List Row)
    (obs : List Obs) → All IsRow rows
    → map key_of_row rows ≡ map (key_of_obs (map (λ o. o.set) sheet.orientations)
    (map (λ d. d.name) sheet.directions)) obs
    → (k : ℕ) (t : TurnedObservation) → k < length (turned_by_rows obs rows)
    → slice_index_or (turned_by_rows obs rows) k t ≡ t
    → pos (unsigned_abs (residual (choice_stated_by sheet) t)) ≡ size
    → Any (λ r. pos (unsigned_abs (residual_of_row (stated_in sheet) r)) ≡ size) rows
size_is sheet once size [] [] all e k t inside at is = absurd (omega (arith, inside))
size_is sheet once size [] (o ∷ obs) all e k t inside at is = cc
size_is sheet once size (r ∷ rows) [] all e k t inside at is = cc
size_is sheet once size (r ∷ rows) (o ∷ obs) all e zero t inside at is =
    let h = stated_row sheet once r o (all 0 r (omega arith)) (head_is _ _ _ _ e) in (
      0,
      r,
      omega arith,
      refl,
      ap (λ (z : ℤ). pos (unsigned_abs z))
          (h ∙ ap (residual (choice_stated_by sheet)) at) ∙ is,
    )
size_is sheet once size (r ∷ rows) (o ∷ obs) all e (suc k) t inside at is =
    let (n, row, below, there, so) = size_is sheet once size rows obs
    (λ k d below. all (suc k) d (omega (arith, below))) (tail_is _ _ _ _ e) k t
    (omega (arith, inside)) at is in
    (suc n, row, omega (arith, below), there, so)

-- Other full turns of rows are those of their observations.
keys_turned : (rows : List Row) (turns : List ℤ) → length turns ≡ length rows
    → map key_of_row (rows_turned rows turns) ≡ map key_of_row rows
keys_turned [] turns e = refl
keys_turned (r ∷ rows) [] e = absurd (omega (arith, e))
keys_turned (r ∷ rows) (k ∷ turns) e =
    ap (λ (ks : List Key). key_of_row r ∷ ks) (keys_turned rows turns (omega (arith, e)))

turned_rows : (obs : List Obs) (rows : List Row) (turns : List ℤ)
    → turned_by_rows obs (rows_turned rows turns) ≡ with_turns (turned_by_rows obs rows) turns
turned_rows [] rows turns = refl
turned_rows (o ∷ obs) [] turns = refl
turned_rows (o ∷ obs) (r ∷ rows) [] = refl
turned_rows (o ∷ obs) (r ∷ rows) (k ∷ turns) =
    ap (λ (os : List TurnedObservation). turned_by o k ∷ os) (turned_rows obs rows turns)

as_long : (sets : List ℕ) (targets : List (List ℕ)) (rows : List Row) (obs : List Obs)
    → map key_of_row rows ≡ map (key_of_obs sets targets) obs
    → length (turned_by_rows obs rows) ≡ length rows
as_long sets targets [] [] e = refl
as_long sets targets [] (o ∷ obs) e = cc
as_long sets targets (r ∷ rows) [] e = cc
as_long sets targets (r ∷ rows) (o ∷ obs) e =
    ap (λ (n : ℕ). suc n) (as_long sets targets rows obs (tail_is _ _ _ _ e))

index_inside : {X Y : Type 0} (f : X → Y) (xs : List X) (k : ℕ) (d : X) (e : Y) → k < length xs
    → slice_index_or (map f xs) k e ≡ f (slice_index_or xs k d)
index_inside f [] k d e below = absurd (omega (arith, below))
index_inside f (x ∷ xs) zero d e below = refl
index_inside f (x ∷ xs) (suc k) d e below = index_inside f xs k d e (omega (arith, below))

both_ways : (y z : ℤ) → y ≤ℤ z → z ≤ℤ y → y ≡ z
both_ways y z m n = omega (arith, ints, m, n)

-- A sheet whose rows are the observations of a station, by places.
pub record IsByPlaces (sheet : SheetValue) (station : StationValue) : Type 0 where
  pub each : All IsRow sheet.rows
  pub once : NothingTwice sheet
  pub targets : map (λ d. d.name) sheet.directions ≡ station.targets
  pub sets : map (λ o. o.set) sheet.orientations ≡ station.sets
  pub rows : map key_of_row sheet.rows ≡ map (key_of_obs station.sets station.targets) station.obs

module _ (sheet : SheetValue) (station : StationValue) (x : IsByPlaces sheet station) where
  own_rows : map key_of_row sheet.rows
      ≡ map (key_of_obs (map (λ o. o.set) sheet.orientations)
      (map (λ d. d.name) sheet.directions)) station.obs
  own_rows =
      subst (λ (ts : List (List ℕ)). map key_of_row sheet.rows
      ≡ map (key_of_obs (map (λ o. o.set) sheet.orientations) ts) station.obs) (sym x.targets)
      (subst (λ (ss : List ℕ). map key_of_row sheet.rows
      ≡ map (key_of_obs ss station.targets) station.obs) (sym x.sets) x.rows)

  mine : squares_of_rows (stated_in sheet) sheet.rows
      ≡ sum_of_squares (choice_stated_by sheet) (observations station sheet)
  mine = stated_are sheet x.once sheet.rows station.obs x.each own_rows

  -- What is least by the places of a station is least by names.
  pub by_names : IsLeast (choice_stated_by sheet) (observations station sheet)
      → IsLeastByNames sheet
  by_names least other positive =
      let theirs : squares_of_rows other sheet.rows
      ≡ sum_of_squares (placed station.sets station.targets other) (observations station sheet) =
      squares_are station.sets station.targets other sheet.rows station.obs x.rows in
      rw (mine, theirs) (least (placed station.sets station.targets other) positive)

  -- So is what is least over other full turns too.
  pub over_turns_by_names : IsLeastOverTurns (choice_stated_by sheet) (observations station sheet)
      → IsLeastOverAllTurns sheet
  over_turns_by_names least other turns long positive =
      let theirs : squares_of_rows other (rows_turned sheet.rows turns)
      ≡ sum_of_squares (placed station.sets station.targets other)
      (with_turns (observations station sheet) turns) =
      squares_are station.sets station.targets other (rows_turned sheet.rows turns) station.obs
      (keys_turned sheet.rows turns long ∙ x.rows)
      ∙ ap (sum_of_squares (placed station.sets station.targets other))
      (turned_rows station.obs sheet.rows turns) in
      rw (mine, theirs) (least (placed station.sets station.targets other) turns
      (long ∙ sym (as_long station.sets station.targets sheet.rows station.obs x.rows)) positive)

  -- And a bound that residuals keep by places they keep by names.
  pub within_by_names : (most : ℤ)
      → All (λ r. IsWithin most (residual (choice_stated_by sheet) r)) (observations station sheet)
      → AreResidualsWithin most sheet
  within_by_names most kept =
      All-from_recursion (λ r. IsWithin most (residual_of_row (stated_in sheet) r)) sheet.rows
      (limits_are sheet x.once most sheet.rows station.obs x.each own_rows kept)

  pub size_by_names : (size : ℤ) → Any (λ r.
      pos (unsigned_abs (residual (choice_stated_by sheet) r)) ≡ size) (observations station sheet)
      → IsSizeOfOne size sheet
  size_by_names size (k, t, inside, at, e) =
      size_is sheet x.once size sheet.rows station.obs x.each own_rows k t inside at e

  -- What is as small by names is as small by places, and so it is a rotation.
  pub only_by_names : IsLeast (choice_stated_by sheet) (observations station sheet)
      → IsUnique (length station.sets) (length station.targets) (choice_stated_by sheet)
      (observations station sheet) → IsOnlyLeast sheet
  only_by_names least unique other positive small =
      let there = placed station.sets station.targets other in
      let theirs : squares_of_rows other sheet.rows
      ≡ sum_of_squares there (observations station sheet) =
      squares_are station.sets station.targets other sheet.rows station.obs x.rows in
      let no_larger = least there positive in
      let no_smaller : (pos (sheet.denominator * sheet.denominator)
      *ℤ sum_of_squares there (observations station sheet))
      ≤ℤ (pos (other.denominator * other.denominator)
      *ℤ sum_of_squares (choice_stated_by sheet) (observations station sheet)) =
      rw (sym theirs, sym mine) small in
      let turned = unique there positive (both_ways _ _ no_larger no_smaller) in
      record {
        rotation = turned.rotation;
        directions = λ k d below.
            let inside : k < length station.targets =
            subst (λ (n : ℕ). k < n) (sym (length-map sheet.directions (λ d. d.name))
            ∙ ap length x.targets) below in
            let value = index_inside (λ (e : Direction). e.value) sheet.directions k d (pos 0)
            below in
            let name = sym (ap (λ (ts : List (List ℕ)). slice_index_or ts k []) x.targets)
            ∙ index_inside (λ (e : Direction). e.name) sheet.directions k d [] below in
            sym (ap (λ (z : ℤ). pos other.denominator *ℤ z
            -ℤ pos sheet.denominator *ℤ other.direction (slice_index_or sheet.directions k d).name)
            value)
            ∙ sym (ap (λ (n : List ℕ). pos other.denominator
            *ℤ slice_index_or (map (λ d. d.value) sheet.directions) k (pos 0)
            -ℤ pos sheet.denominator *ℤ other.direction n) name)
            ∙ turned.directions k inside;
        orientations = λ k o below.
            let inside : k < length station.sets =
            subst (λ (n : ℕ). k < n) (sym (length-map sheet.orientations (λ o. o.set))
            ∙ ap length x.sets) below in
            let value = index_inside (λ (e : Orientation). e.value) sheet.orientations k o (pos 0)
            below in
            let number = sym (ap (λ (ss : List ℕ). slice_index_or ss k 0) x.sets)
            ∙ index_inside (λ (e : Orientation). e.set) sheet.orientations k o 0 below in
            sym (ap (λ (z : ℤ). pos other.denominator *ℤ z
            -ℤ pos sheet.denominator
            *ℤ other.orientation (slice_index_or sheet.orientations k o).set) value)
            ∙ sym (ap (λ (n : ℕ). pos other.denominator
            *ℤ slice_index_or (map (λ o. o.value) sheet.orientations) k (pos 0)
            -ℤ pos sheet.denominator *ℤ other.orientation n) number)
            ∙ turned.orientations k inside;
      }
