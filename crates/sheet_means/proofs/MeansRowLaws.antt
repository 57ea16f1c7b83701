-- The observations of a complete station with the rows of its sheet of means: one of each set and
-- target, in order.
use Rattle.std.proofs.Common.{◌≡◌, ℕ, ◌+◌, ◌*◌, ◌<◌, List, [], length, get_or, ℤ, pos, ◌+ℤ◌, arith}
use Rattle.std.proofs.Common.{ap, sym, ◌∙◌}
use lib.IntN.{◌*ℤ◌}
use Rattle.std.proofs.lemmas.List.{length-map, get_or-map}
use Rattle.adjust_kernel.specs.declared.bounds.TheConstants.{TURN}
use Rattle.adjust_kernel.specs.declared.row.Row.{Row}
use Rattle.adjust_kernel.specs.Matching.{Key, key_of_row, key_of_obs}
use Rattle.adjust_kernel.specs.Pairs.{turned_by, turned_by_rows}
use Rattle.adjust_kernel.specs.TurnedObservations.{TurnedObservation}
use Rattle.adjust_kernel.specs.Residuals.{unrolled}
use Rattle.adjust_kernel.specs.Stations.{StationValue, IsStation}
use Rattle.adjust_kernel.proofs.ObservationLaws.{length-turned_by_rows, get_or-turned_by_rows}
use Rattle.sheet_means.specs.Complete.{IsComplete}
use Rattle.sheet_means.specs.Parts.{AreMeansRows}
use Rattle.sheet_means.proofs.CompleteLaws.{any_obs, at_place, full_where_complete}
use Rattle.sheet_means.proofs.ValueLaws.{place_inside}
use Rattle.sheet_means.proofs.GridLaws.{AreGrid, any_observation}

-- What is read at a place that no row has.
abbrev pub any_row : Row
any_row = record { set = 0; target = []; value = 0; turn = pos 0 }

-- What a row says was read, with its full turns.
abbrev pub unrolled_row : Row → ℤ
unrolled_row r = pos r.value +ℤ pos TURN *ℤ r.turn

module _ (station : StationValue) (valid : IsStation station) (complete : IsComplete station)
    (rows : List Row) (means : AreMeansRows station rows) where
  -- The number of targets.
  abbrev pub T : ℕ
  T = length station.targets

  -- There are as many observations as rows.
  pub same_length : length station.obs ≡ length rows
  same_length = sym (length-map station.obs (key_of_obs station.sets station.targets))
      ∙ ap length (sym means.keys) ∙ length-map rows key_of_row

  -- The row of a set and a target stands inside the list of rows.
  pub row_inside : (s t : ℕ) → s < length station.sets → t < T → s * T + t < length rows
  row_inside s t h k = let e = place_inside station valid complete s t h k in
      let f = same_length in omega arith

  observation_at : (i : ℕ) → i < length station.obs
      → get_or (turned_by_rows station.obs rows) i any_observation
      ≡ turned_by (get_or station.obs i any_obs) (get_or rows i any_row).turn
  observation_at i h =
      get_or-turned_by_rows station.obs rows i any_obs any_row any_observation same_length h

  -- The observations with the turns of the rows are one of each set and target, in order.
  pub grid : AreGrid (length station.sets) T (turned_by_rows station.obs rows)
  grid = record {
    long = length-turned_by_rows station.obs rows same_length
        ∙ full_where_complete station valid complete;
    at_place = λ s t h k.
        let p = at_place (length station.sets) T station.obs valid.obs.within valid.obs.ordered
        (full_where_complete station valid complete) s t h k in
        let e = observation_at (s * T + t) (place_inside station valid complete s t h k) in (
          ap (λ (r : TurnedObservation). r.set) e ∙ p.0,
          ap (λ (r : TurnedObservation). r.target) e
              ∙ p.1,
        );
  }

  same_value_at : (i : ℕ) → i < length station.obs
      → (get_or rows i any_row).value ≡ (get_or station.obs i any_obs).value
  same_value_at i h =
      let k : Key = record { set = 0; target = []; value = 0 } in
      ap (λ (k : Key). k.value) (sym (get_or-map key_of_row rows i any_row k
      (omega (arith, h, same_length))) ∙ ap (λ (l : List Key). get_or l i k) means.keys
      ∙ get_or-map (key_of_obs station.sets station.targets) station.obs i any_obs k h)

  -- An observation with its full turns is what its row says was read.
  pub unrolled_at : (i : ℕ) → i < length station.obs
      → unrolled (get_or (turned_by_rows station.obs rows) i any_observation)
      ≡ unrolled_row (get_or rows i any_row)
  unrolled_at i h = ap unrolled (observation_at i h)
      ∙ ap (λ n. pos n +ℤ pos TURN *ℤ (get_or rows i any_row).turn) (sym (same_value_at i h))
