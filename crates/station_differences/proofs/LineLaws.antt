-- Lines of targets, and the rows of those that are stated.
use Rattle.std.proofs.Common.{◌≡◌, ◌∙◌, ◌*◌, ℕ, ◌≤◌, ◌<◌, List, [], ◌∷◌, length, map, ap}
use Rattle.std.proofs.Common.{Option, Some, None, ℤ, pos, refl, sym, subst}
use Rattle.std.specs.List.{AllZip}
use Rattle.std.specs.Prelude.{slice_index_or}
use Rattle.adjust_kernel.specs.Residuals.{Choice}
use Rattle.directions_apart.proofs.ApartLaws.{turned_back}
use Rattle.directions_apart.specs.Apart.{stated_by}
use Rattle.directions_apart.specs.Arcs.{IsWayRound}
use Rattle.directions_apart.specs.Rounding.{IsRounded}
use Rattle.adjust_kernel.specs.declared.units.TheConstants.{CIRCLE, PARTS, UNIT}
use Rattle.station_differences.specs.ByAdjustment.{AreLinesBy, AreRowsBy}
use Rattle.station_differences.specs.Differences.{AreDifferences, differences_of, least_of}
use Rattle.station_differences.specs.Differences.{names_of, stated_of}
use Rattle.station_differences.specs.Lines.{HasStated, compared_of, least_on, target_on}
use Rattle.station_differences.specs.StatedTargets.{choice_at, stated_directions, stated_places}
use Rattle.station_differences.specs.declared.compared.TargetDifference.{TargetDifference}
use Rattle.station_differences.specs.declared.line.TargetLine.{TargetLine}
use Rattle.station_differences.specs.declared.line.TargetLine.TheVariants.{Compared, Lacking}
use Rattle.station_differences.proofs.DifferenceLaws.{as_differences, one_way}
use Rattle.station_differences.proofs.StatedLaws.{all_directions, all_places, as_all}

-- Lines are their names, what is stated, and numbers.
pub same_lines : (stated : List (Option ℤ)) (xs ys : List TargetLine)
    → map target_on xs ≡ map target_on ys → AllZip HasStated stated xs
    → AllZip HasStated stated ys → map least_on xs ≡ map least_on ys
    → differences_of (compared_of xs) ≡ differences_of (compared_of ys) → xs ≡ ys
same_lines [] [] [] e p q f g = refl
same_lines [] [] (y ∷ ys) e p q f g = absurd q
same_lines [] (x ∷ xs) ys e p q f g = absurd p
same_lines (s ∷ stated) [] ys e p q f g = absurd p
same_lines (s ∷ stated) (x ∷ xs) [] e p q f g = absurd q
same_lines (None ∷ stated) (Compared x ∷ xs) (y ∷ ys) e p q f g = absurd p.0
same_lines (None ∷ stated) (Lacking x ∷ xs) (Compared y ∷ ys) e p q f g = absurd q.0
same_lines (None ∷ stated) (Lacking x ∷ xs) (Lacking y ∷ ys) e p q f g =
    let target : x.target ≡ y.target = cc in
    let least : x.least ≡ y.least = cc in
    let targets : map target_on xs ≡ map target_on ys = cc in
    let all_least : map least_on xs ≡ map least_on ys = cc in
    let rest : xs ≡ ys = same_lines stated xs ys targets p.1 q.1 all_least g in
    λ i. Lacking (record { target = target i; least = least i }) ∷ rest i
same_lines (Some d ∷ stated) (Lacking x ∷ xs) (y ∷ ys) e p q f g = absurd p.0
same_lines (Some d ∷ stated) (Compared x ∷ xs) (Lacking y ∷ ys) e p q f g = absurd q.0
same_lines (Some d ∷ stated) (Compared x ∷ xs) (Compared y ∷ ys) e p q f g =
    let target : x.target ≡ y.target = cc in
    let on : x.stated ≡ y.stated =
    one_way (PARTS * CIRCLE) (pos 0) d x.stated y.stated p.0 q.0 in
    let least : x.least ≡ y.least = cc in
    let difference : x.difference ≡ y.difference = cc in
    let targets : map target_on xs ≡ map target_on ys = cc in
    let all_least : map least_on xs ≡ map least_on ys = cc in
    let differences : differences_of (compared_of xs) ≡ differences_of (compared_of ys) = cc in
    let rest : xs ≡ ys = same_lines stated xs ys targets p.1 q.1 all_least differences in
    λ i. Compared (record {
      target = target i;
      stated = on i;
      least = least i;
      difference = difference i;
    }) ∷ rest i

-- Where all is stated, each line is a row,
pub all_compared : (stated : List ℤ) (lines : List TargetLine)
    → AllZip HasStated (map Some stated) lines → lines ≡ map Compared (compared_of lines)
all_compared [] [] p = refl
all_compared [] (x ∷ lines) p = absurd p
all_compared (d ∷ stated) [] p = absurd p
all_compared (d ∷ stated) (Lacking x ∷ lines) p = absurd p.0
all_compared (d ∷ stated) (Compared x ∷ lines) p =
    let rest = all_compared stated lines p.1 in λ i. Compared x ∷ rest i

-- and the rows of lines that are rows are these.
pub rows_back : (rows : List TargetDifference) → compared_of (map Compared rows) ≡ rows
rows_back [] = refl
rows_back (x ∷ rows) = let rest = rows_back rows in λ i. x ∷ rest i

pub names_back : (rows : List TargetDifference) → map target_on (map Compared rows) ≡ names_of rows
names_back [] = refl
names_back (x ∷ rows) = let rest = names_back rows in λ i. x.target ∷ rest i

pub least_back : (rows : List TargetDifference) → map least_on (map Compared rows) ≡ least_of rows
least_back [] = refl
least_back (x ∷ rows) = let rest = least_back rows in λ i. x.least ∷ rest i

pub stated_rows : (stated : List ℤ) (rows : List TargetDifference)
    → AllZip HasStated (map Some stated) (map Compared rows)
    → AllZip (IsWayRound (PARTS * CIRCLE) (pos 0)) stated (stated_of rows)
stated_rows [] [] p = p
stated_rows [] (x ∷ rows) p = absurd p
stated_rows (d ∷ stated) [] p = absurd p
stated_rows (d ∷ stated) (x ∷ rows) p = (p.0, stated_rows stated rows p.1)

pub stated_lines : (stated : List ℤ) (rows : List TargetDifference)
    → AllZip (IsWayRound (PARTS * CIRCLE) (pos 0)) stated (stated_of rows)
    → AllZip HasStated (map Some stated) (map Compared rows)
stated_lines [] [] p = p
stated_lines [] (x ∷ rows) p = absurd p
stated_lines (d ∷ stated) [] p = absurd p
stated_lines (d ∷ stated) (x ∷ rows) p = (p.0, stated_lines stated rows p.1)

module _ (c : Choice) (some : 1 ≤ c.denominator) (stated differences : List ℤ) where
  abbrev places : List ℕ
  places = stated_places (map Some stated)

  -- The differences of all are those of the stated targets, and the other way round.
  pub of_all : AreDifferences (length places) (choice_at places c)
      (stated_by (stated_directions (map Some stated))) differences
      → AreDifferences (length stated) c (stated_by stated) differences
  of_all differ =
      as_differences (length stated) (choice_at places c) c (stated_by stated) differences some some
      (as_all stated c)
      (subst (λ (n : ℕ). AreDifferences n (choice_at places c) (stated_by stated) differences)
      (all_places 0 stated)
      (subst (λ (ds : List ℤ). AreDifferences (length places) (choice_at places c) (stated_by ds)
      differences) (all_directions stated) differ))

  pub of_stated : AreDifferences (length stated) c (stated_by stated) differences
      → AreDifferences (length places) (choice_at places c)
      (stated_by (stated_directions (map Some stated))) differences
  of_stated differ =
      subst (λ (ds : List ℤ). AreDifferences (length places) (choice_at places c) (stated_by ds)
      differences) (sym (all_directions stated))
      (subst (λ (n : ℕ). AreDifferences n (choice_at places c) (stated_by stated) differences)
      (sym (all_places 0 stated))
      (as_differences (length stated) c (choice_at places c) (stated_by stated) differences some
      some (turned_back (length stated) (choice_at places c) c (as_all stated c)) differ))

-- The lines of a choice, where all is stated, are its rows.
pub rows_by : (c : Choice) (targets : List (List ℕ)) (stated : List ℤ) (lines : List TargetLine)
    → 1 ≤ c.denominator → length stated ≡ length targets
    → AreLinesBy c targets (map Some stated) lines → AreRowsBy c targets stated (compared_of lines)
rows_by c targets stated lines some each by =
    let rows = compared_of lines in
    let are = all_compared stated lines by.stated_on in
    let leasts : map least_on lines ≡ least_of rows = ap (map least_on) are ∙ least_back rows in
    record {
      named = sym (ap (map target_on) are ∙ names_back rows) ∙ by.named;
      stated_on = stated_rows stated rows
          (subst (λ xs. AllZip HasStated (map Some stated) xs) are by.stated_on);
      count = sym (ap length leasts) ∙ by.count;
      rounded = subst (λ (xs : List ℕ). (t : ℕ) → t < length xs
          → IsRounded c t UNIT (slice_index_or xs t 0)) leasts by.rounded;
      differ = subst (λ (n : ℕ). AreDifferences n c (stated_by stated) (differences_of rows)) each
          (of_all c some stated (differences_of rows) by.differ);
    }
