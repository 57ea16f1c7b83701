-- A station has one sheet of means at most.
use Rattle.std.proofs.Common.{◌≡◌, ℕ, ◌<◌, List, [], length, get_or, ℤ, pos, ◌+ℤ◌, ◌<ℤ◌, arith, ap}
use Rattle.std.proofs.Common.{sym, ◌∙◌, subst}
use Rattle.std.proofs.Math.IntN.{◌*ℤ◌, ◌-ℤ◌}
use Rattle.std.proofs.lemmas.Int.{ints, by_lt_z}
use Rattle.std.proofs.lemmas.List.{ext_get_or, length-map, get_or-map}
use Rattle.adjust_kernel.specs.declared.bounds.TheConstants.{TURN}
use Rattle.adjust_kernel.specs.declared.obs.Obs.{Obs}
use Rattle.adjust_kernel.specs.declared.row.Direction.{Direction}
use Rattle.adjust_kernel.specs.declared.row.Orientation.{Orientation}
use Rattle.adjust_kernel.specs.declared.row.Row.{Row}
use Rattle.adjust_kernel.specs.Matching.{Key, key_of_row, key_of_obs}
use Rattle.adjust_kernel.specs.Pairs.{turned_by_rows}
use Rattle.adjust_kernel.specs.Sheets.{SheetValue}
use Rattle.adjust_kernel.specs.Stations.{StationValue}
use Rattle.adjust_kernel.proofs.ObservationLaws.{length-turned_by_rows, get_or-turned_by_rows}
use Rattle.sheet_means.specs.Means.{IsMeansSheet}
use Rattle.sheet_means.specs.Totals.{target_total, set_total, whole_total}
use Rattle.sheet_means.specs.Turning.{IsInHalfCircle, IsTurned, angle_difference}
use Rattle.sheet_means.proofs.CompleteLaws.{any_obs}
use Rattle.sheet_means.proofs.GridLaws.{any_observation}
use Rattle.sheet_means.proofs.MeansRowLaws.{any_row}

-- One number of turns alone brings a difference into the half circle.
not_fewer : (d k m : ℤ) → IsInHalfCircle (d +ℤ pos TURN *ℤ k) → IsInHalfCircle (d +ℤ pos TURN *ℤ m)
    → k <ℤ m → ⊥
not_fewer d k m h j lt = let a = h.low in let b = j.high in omega (arith, ints)

one_turn : (d k m : ℤ) → IsInHalfCircle (d +ℤ pos TURN *ℤ k) → IsInHalfCircle (d +ℤ pos TURN *ℤ m)
    → k ≡ m
one_turn d k m h j = by_lt_z k m (λ lt. absurd (not_fewer d k m h j lt))
    (λ le. by_lt_z m k (λ lt. absurd (not_fewer d m k j h lt)) (λ ge. omega (arith, ints)))

module _ (station : StationValue) (sheet : SheetValue) (means : IsMeansSheet station sheet) where
  as_many_rows : length station.obs ≡ length sheet.rows
  as_many_rows = sym (length-map station.obs (key_of_obs station.sets station.targets))
      ∙ ap length (sym means.matches.rows) ∙ length-map sheet.rows key_of_row

  as_many_directions : length sheet.directions ≡ length station.targets
  as_many_directions = sym (length-map sheet.directions (λ (d : Direction). d.name))
      ∙ ap length means.matches.targets

  as_many_orientations : length sheet.orientations ≡ length station.sets
  as_many_orientations = sym (length-map sheet.orientations (λ (o : Orientation). o.set))
      ∙ ap length means.matches.sets

  abbrev obs_at : ℕ → Obs
  obs_at i = get_or station.obs i any_obs

  abbrev row_at : ℕ → Row
  row_at i = get_or sheet.rows i any_row

  key_at : (i : ℕ) → i < length station.obs → key_of_row (row_at i)
      ≡ key_of_obs station.sets station.targets (obs_at i)
  key_at i h =
      let k : Key = record { set = 0; target = []; value = 0 } in
      sym (get_or-map key_of_row sheet.rows i any_row k (omega (arith, h, as_many_rows)))
      ∙ ap (λ (l : List Key). get_or l i k) means.matches.rows
      ∙ get_or-map (key_of_obs station.sets station.targets) station.obs i any_obs k h

  turn_at : (i : ℕ) → i < length station.obs
      → IsInHalfCircle (angle_difference station.obs (obs_at i).set (obs_at i).target
      +ℤ pos TURN *ℤ (row_at i).turn)
  turn_at i h =
      subst (IsTurned station.obs) (get_or-turned_by_rows station.obs sheet.rows i any_obs any_row
      any_observation as_many_rows h)
      (means.turned i any_observation
      (omega (arith, h, length-turned_by_rows station.obs sheet.rows as_many_rows)))

module _ (station : StationValue) (one other : SheetValue) (a : IsMeansSheet station one)
    (b : IsMeansSheet station other) where
  same_row : (i : ℕ) → i < length station.obs
      → get_or one.rows i any_row ≡ get_or other.rows i any_row
  same_row i h =
      let key = key_at station one a i h ∙ sym (key_at station other b i h) in
      let turn = one_turn (angle_difference station.obs (obs_at station one a i).set
      (obs_at station one a i).target) (get_or one.rows i any_row).turn
      (get_or other.rows i any_row).turn (turn_at station one a i h)
      (turn_at station other b i h) in
      λ j. record {
        set = (key j).set;
        target = (key j).target;
        value = (key j).value;
        turn = turn j;
      }

  same_rows : one.rows ≡ other.rows
  same_rows = ext_get_or any_row one.rows other.rows (sym (as_many_rows station one a)
      ∙ as_many_rows station other b) (λ i h. same_row i
      (omega (arith, h, as_many_rows station one a)))

  abbrev any_direction : Direction
  any_direction = record { name = []; value = pos 0 }

  abbrev any_orientation : Orientation
  any_orientation = record { set = 0; value = pos 0 }

  -- The direction and the orientation that the observations with these rows have.
  abbrev direction_by : List Row → ℕ → ℤ
  direction_by rows t = let observations = turned_by_rows station.obs rows in
      pos (length station.targets) *ℤ (target_total observations t -ℤ target_total observations 0)

  abbrev orientation_by : List Row → ℕ → ℤ
  orientation_by rows s = let observations = turned_by_rows station.obs rows in
      whole_total observations -ℤ pos (length station.sets) *ℤ set_total observations s
      -ℤ pos (length station.targets) *ℤ target_total observations 0

  same_directions : one.directions ≡ other.directions
  same_directions = ext_get_or any_direction one.directions other.directions
      (as_many_directions station one a ∙ sym (as_many_directions station other b)) same
    where
      same : (i : ℕ) → i < length one.directions → get_or one.directions i any_direction
          ≡ get_or other.directions i any_direction
      same i h =
          let inside : i < length station.targets =
          omega (arith, h, as_many_directions station one a) in
          let k : i < length other.directions =
          omega (arith, inside, as_many_directions station other b) in
          let name =
          sym (get_or-map (λ (d : Direction). d.name) one.directions i any_direction [] h)
          ∙ ap (λ (l : List (List ℕ)). get_or l i []) (a.matches.targets
          ∙ sym b.matches.targets)
          ∙ get_or-map (λ (d : Direction). d.name) other.directions i any_direction [] k in
          let stated = a.means.directions i inside
          ∙ ap (λ (rows : List Row). direction_by rows i) same_rows
          ∙ sym (b.means.directions i inside) in
          let value = sym (get_or-map (λ (d : Direction). d.value) one.directions i any_direction
          (pos 0) h) ∙ stated
          ∙ get_or-map (λ (d : Direction). d.value) other.directions i any_direction
          (pos 0) k in
          λ j. record { name = name j; value = value j }

  same_orientations : one.orientations ≡ other.orientations
  same_orientations = ext_get_or any_orientation one.orientations other.orientations
      (as_many_orientations station one a ∙ sym (as_many_orientations station other b)) same
    where
      same : (i : ℕ) → i < length one.orientations → get_or one.orientations i any_orientation
          ≡ get_or other.orientations i any_orientation
      same i h =
          let inside : i < length station.sets =
          omega (arith, h, as_many_orientations station one a) in
          let k : i < length other.orientations =
          omega (arith, inside, as_many_orientations station other b) in
          let set =
          sym (get_or-map (λ (o : Orientation). o.set) one.orientations i any_orientation 0 h)
          ∙ ap (λ (l : List ℕ). get_or l i 0) (a.matches.sets ∙ sym b.matches.sets)
          ∙ get_or-map (λ (o : Orientation). o.set) other.orientations i any_orientation 0 k in
          let stated = a.means.orientations i inside
          ∙ ap (λ (rows : List Row). orientation_by rows i) same_rows
          ∙ sym (b.means.orientations i inside) in
          let value =
          sym (get_or-map (λ (o : Orientation). o.value) one.orientations i any_orientation
          (pos 0) h) ∙ stated
          ∙ get_or-map (λ (o : Orientation). o.value) other.orientations i any_orientation
          (pos 0) k in
          λ j. record { set = set j; value = value j }

  -- Two sheets of means of one station are one.
  pub same_sheet : one ≡ other
  same_sheet = λ i. record {
    name = (a.matches.name ∙ sym b.matches.name) i;
    denominator = (a.means.denominator ∙ sym b.means.denominator) i;
    directions = same_directions i;
    orientations = same_orientations i;
    rows = same_rows i;
  }
