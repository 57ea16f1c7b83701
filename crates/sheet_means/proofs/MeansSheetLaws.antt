-- The sheet of means: within the limits of a sheet, as defined, unturned in its first row and first
-- column of observations, and accepted.
use Rattle.std.proofs.Common.{◌≡◌, ◌⊎◌, inl, inr, ℕ, suc, zero, ◌*◌, ◌<◌, ◌≤◌, List, [], length}
use Rattle.std.proofs.Common.{map, get_or, ℤ, pos, negsuc, ◌+ℤ◌, arith, ap, refl, sym, ◌∙◌, subst}
use Rattle.std.proofs.Math.IntN.{◌*ℤ◌, ◌-ℤ◌}
use Rattle.std.proofs.Math.Nat.{mul-le-mul}
use Rattle.std.proofs.lemmas.Int.{ints}
use Rattle.std.proofs.lemmas.List.{ext_get_or, length-map, get_or-map}
use Rattle.adjust_kernel.specs.declared.bounds.TheConstants.{TURN, MOST_ROWS, LARGEST_ANGLE}
use Rattle.adjust_kernel.specs.declared.row.Direction.{Direction}
use Rattle.adjust_kernel.specs.declared.row.Orientation.{Orientation}
use Rattle.adjust_kernel.specs.declared.row.Row.{Row}
use Rattle.adjust_kernel.specs.Names.{IsName}
use Rattle.adjust_kernel.specs.Pairs.{choice_stated_by, turned_by_rows}
use Rattle.adjust_kernel.specs.TurnedObservations.{TurnedObservation}
use Rattle.adjust_kernel.specs.Sheets.{SheetValue, IsSheet, IsSetNumber}
use Rattle.adjust_kernel.specs.Stations.{StationValue, IsStation}
use Rattle.adjust_kernel.specs.Verdict.{TargetsAddUp, SetsAddUp, HoldsTogether}
use Rattle.adjust_kernel.specs.Within.{IsWithin}
use Rattle.sheet_means.specs.declared.adjusted.TheConstants.{LARGEST_MEAN}
use Rattle.sheet_means.specs.Complete.{IsComplete}
use Rattle.sheet_means.specs.Means.{AreMeans, IsMeansSheet, IsUnturnedAtFirst}
use Rattle.sheet_means.specs.Parts.{AreEach, AreMeansRows, IsMeansDirection, IsMeansOrientation}
use Rattle.sheet_means.specs.Turning.{IsInHalfCircle, IsTurned, angle_difference, value_of}
use Rattle.sheet_means.proofs.BalanceOfMeans.{target_sums_vanish, set_sums_vanish, first_direction}
use Rattle.sheet_means.proofs.CompleteLaws.{full_where_complete}
use Rattle.sheet_means.proofs.ConnectedLaws.{complete_is_connected}
use Rattle.sheet_means.proofs.MeansRowLaws.{grid, same_length}

-- No full turn keeps 0 in the half circle but none.
no_turns : (k : ℤ) → IsInHalfCircle (pos 0 +ℤ pos TURN *ℤ k) → k ≡ pos 0
no_turns (pos zero) h = refl
no_turns (pos (suc n)) h = let a = h.high in absurd (omega (arith, ints))
no_turns (negsuc n) h = let a = h.low in absurd (omega (arith, ints))

no_difference : (a b : ℤ) → (a -ℤ b) -ℤ (a -ℤ b) ≡ pos 0
no_difference a b = omega (arith, ints)

first_difference : (a b : ℤ) → (a -ℤ a) -ℤ (b -ℤ b) ≡ pos 0
first_difference a b = omega (arith, ints)

within_larger : (z : ℤ) → IsWithin LARGEST_MEAN z → IsWithin LARGEST_ANGLE z
within_larger z w = let l = w.low in let h = w.high in record {
  low = omega (arith, ints);
  high = omega (arith, ints);
}

module _ (station : StationValue) (valid : IsStation station) (complete : IsComplete station)
    (rows : List Row) (means_rows : AreMeansRows station rows)
    (directions : List Direction) (each_direction : AreEach (IsMeansDirection station
    (turned_by_rows station.obs rows)) (length station.targets) directions)
    (orientations : List Orientation) (each_orientation : AreEach (IsMeansOrientation station
    (turned_by_rows station.obs rows)) (length station.sets) orientations) where
  abbrev S : ℕ
  S = length station.sets

  abbrev T : ℕ
  T = length station.targets

  abbrev observations : List TurnedObservation
  observations = turned_by_rows station.obs rows

  -- The sheet of the station's name, of sets times targets, and of these parts.
  abbrev pub means_sheet : SheetValue
  means_sheet = record {
    name = station.name;
    denominator = S * T;
    directions = directions;
    orientations = orientations;
    rows = rows;
  }

  abbrev any_direction : Direction
  any_direction = record { name = []; value = pos 0 }

  abbrev any_orientation : Orientation
  any_orientation = record { set = 0; value = pos 0 }

  names : map (λ (d : Direction). d.name) directions ≡ station.targets
  names = ext_get_or [] (map (λ (d : Direction). d.name) directions) station.targets
      (length-map directions (λ (d : Direction). d.name) ∙ each_direction.long)
      (λ i h. let k : i < length directions =
      subst (λ (n : ℕ). i < n) (length-map directions (λ (d : Direction). d.name)) h in
      get_or-map (λ (d : Direction). d.name) directions i any_direction [] k
      ∙ (each_direction.at i any_direction (omega (arith, each_direction.long))).name)

  numbers : map (λ (o : Orientation). o.set) orientations ≡ station.sets
  numbers = ext_get_or 0 (map (λ (o : Orientation). o.set) orientations) station.sets
      (length-map orientations (λ (o : Orientation). o.set) ∙ each_orientation.long)
      (λ i h. let k : i < length orientations =
      subst (λ (n : ℕ). i < n) (length-map orientations (λ (o : Orientation). o.set)) h in
      get_or-map (λ (o : Orientation). o.set) orientations i any_orientation 0 k
      ∙ (each_orientation.at i any_orientation (omega (arith, each_orientation.long))).set)

  means : AreMeans S T observations (choice_stated_by means_sheet)
  means = record {
    denominator = refl;
    directions = λ t h. get_or-map (λ (d : Direction). d.value) directions t any_direction (pos 0)
        (omega (arith, each_direction.long)) ∙ (each_direction.at t any_direction h).value;
    orientations = λ s h. get_or-map (λ (o : Orientation). o.value) orientations s any_orientation
        (pos 0) (omega (arith, each_orientation.long))
        ∙ (each_orientation.at s any_orientation h).value;
  }

  -- It is the sheet of means.
  pub is_means_sheet : IsMeansSheet station means_sheet
  is_means_sheet = record {
    matches = record {
      name = refl;
      targets = names;
      sets = numbers;
      rows = means_rows.keys;
      datum = first_direction S T observations (grid station valid complete rows means_rows)
          (choice_stated_by means_sheet) means valid.targets.some;
    };
    turned = means_rows.turned;
    means = means;
  }

  unturned_at : (r : TurnedObservation) → IsTurned station.obs r → (r.set ≡ 0) ⊎ (r.target ≡ 0)
      → r.turn ≡ pos 0
  unturned_at r h (inl e) =
      let v = value_of station.obs in
      no_turns r.turn (subst (λ (z : ℤ). IsInHalfCircle (z +ℤ pos TURN *ℤ r.turn))
      (ap (λ (s : ℕ). angle_difference station.obs s r.target) e
      ∙ no_difference (v 0 r.target) (v 0 0)) h)
  unturned_at r h (inr e) =
      let v = value_of station.obs in
      no_turns r.turn (subst (λ (z : ℤ). IsInHalfCircle (z +ℤ pos TURN *ℤ r.turn))
      (ap (λ (t : ℕ). angle_difference station.obs r.set t) e
      ∙ first_difference (v r.set 0) (v 0 0)) h)

  -- No observation of the first set or of the first target has full turns in it.
  pub is_unturned : IsUnturnedAtFirst station means_sheet
  is_unturned k d h = unturned_at (get_or observations k d) (means_rows.turned k d h)

  few : S * T ≤ MOST_ROWS
  few = let a : S * T ≤ 40 * 100 = mul-le-mul valid.sets.few valid.targets.few in omega arith

  some : 1 ≤ S * T
  some = mul-le-mul valid.sets.some valid.targets.some

  -- It is within the limits of a sheet.
  pub is_sheet : IsSheet means_sheet
  is_sheet = record {
    name = valid.name;
    denominator = (some, omega (arith, few));
    directions = record {
      some = omega (arith, each_direction.long, valid.targets.some);
      few = omega (arith, each_direction.long, valid.targets.few);
      each = λ k d h.
          let inside : k < T = omega (arith, each_direction.long) in
          let p = each_direction.at k d inside in
          record {
            name = subst IsName (sym p.name) (valid.targets.names k [] inside);
            value = within_larger _ p.bound;
          };
    };
    orientations = record {
      some = omega (arith, each_orientation.long, valid.sets.some);
      few = omega (arith, each_orientation.long, valid.sets.few);
      each = λ k d h.
          let inside : k < S = omega (arith, each_orientation.long) in
          let p = each_orientation.at k d inside in
          record {
            set = subst IsSetNumber (sym p.set) (valid.sets.numbers k 0 inside);
            value = within_larger _ p.bound;
          };
    };
    rows = record {
      some = let e = same_length station valid complete rows means_rows in
          let f = full_where_complete station valid complete in omega (arith, some);
      few = let e = same_length station valid complete rows means_rows in
          let f = full_where_complete station valid complete in omega (arith, few);
      each = λ k d h. (means_rows.each k d h).row;
    };
  }

  -- Its residuals add up to 0 for each target.
  pub targets_add_up : TargetsAddUp station means_sheet
  targets_add_up = target_sums_vanish S T observations (grid station valid complete rows means_rows)
      (choice_stated_by means_sheet) means valid.targets.some

  -- And for each set.
  pub sets_add_up : SetsAddUp station means_sheet
  sets_add_up = set_sums_vanish S T observations (grid station valid complete rows means_rows)
      (choice_stated_by means_sheet) means valid.targets.some

  -- The station with its turns is held together.
  pub holds_together : HoldsTogether station means_sheet
  holds_together = complete_is_connected S T observations
      (grid station valid complete rows means_rows) valid.sets.some valid.targets.some

  -- There is at least one observation.
  pub some_observations : 1 ≤ length observations
  some_observations = let g = (grid station valid complete rows means_rows).long in
      omega (arith, some)
