-- What is said of the targets by an exact adjustment is said by every least choice.
use Rattle.std.proofs.Common.{◌≡◌, ℕ, ◌*◌, ◌<◌, List, All, Option, Some, length, map, ℤ, pos, arith}
use Rattle.std.proofs.Common.{ap, refl, sym, subst, ◌∙◌}
use Rattle.std.proofs.lemmas.List.{get_or_default, length-map}
use Rattle.std.proofs.lemmas.Slice.Zip.{AllZip-long}
use Rattle.std.specs.List.{AllZip}
use Rattle.adjust_kernel.specs.Stations.{StationValue, IsStation}
use Rattle.adjust_kernel.specs.Within.{IsWithin}
use Rattle.adjust_kernel.specs.declared.bounds.TheConstants.{LARGEST_RESIDUAL_LIMIT}
use Rattle.adjust_kernel.specs.declared.units.TheConstants.{CIRCLE, PARTS}
use Rattle.directions_apart.proofs.LeastLaws.{are_turned}
use Rattle.directions_apart.specs.Apart.{stated_by}
use Rattle.directions_apart.specs.Arcs.{IsWayRound}
use Rattle.exact_adjustment.specs.Adjustments.{AdjustmentValue, choice_by}
use Rattle.exact_adjustment.specs.Exact.{IsExact, KeepsLimit}
use Rattle.exact_adjustment.specs.LeastOf.{AreTied}
use Rattle.least_directions.proofs.LawLemmas.{one_list as one_rounding}
use Rattle.least_directions.proofs.LeastLaws.{are_rounded, least_of as its_least}
use Rattle.least_directions.specs.LeastDirections.{AreApart, AreRounded}
use Rattle.station_differences.specs.ByAdjustment.{AreLinesBy, AreRowsBy}
use Rattle.station_differences.specs.Differences.{AreCompared, AreDifferences, differences_of}
use Rattle.station_differences.specs.Differences.{least_of, names_of, stated_of}
use Rattle.station_differences.specs.Lines.{AreLines, HasStated, compared_of, least_on, target_on}
use Rattle.station_differences.specs.StatedTargets.{choice_at, stated_directions, stated_places}
use Rattle.station_differences.specs.declared.compared.TargetDifference.{TargetDifference}
use Rattle.station_differences.specs.declared.line.TargetLine.{TargetLine}
use Rattle.station_differences.specs.declared.line.TargetLine.TheVariants.{Compared}
use Rattle.station_differences.proofs.DifferenceLaws.{as_differences, no_larger, one_differences}
use Rattle.station_differences.proofs.LineLaws.{all_compared, least_back, names_back, of_all}
use Rattle.station_differences.proofs.LineLaws.{of_stated, rows_back, same_lines, stated_lines}
use Rattle.station_differences.proofs.LineLaws.{stated_rows}
use Rattle.station_differences.proofs.RowLaws.{one_on_circle, same_rows}
use Rattle.station_differences.proofs.StatedLaws.{all_inside, turned_at}

-- The rows by an exact adjustment are those of the least-squares directions.
pub are_compared : (station : StationValue) (a : AdjustmentValue) (stated : List ℤ)
    (rows : List TargetDifference) → IsStation station → AreTied station → IsExact station a
    → KeepsLimit station a LARGEST_RESIDUAL_LIMIT
    → AreRowsBy (choice_by a) station.targets stated rows → AreCompared station stated rows
are_compared station a stated rows s tied exact limited by = record {
  named = by.named;
  stated_on = by.stated_on;
  rounded = are_rounded station s a tied exact limited 1_000 (least_of rows) (omega arith) by.count
      by.rounded;
  differ = λ c turns least. as_differences (length station.targets) (choice_by a) c
      (stated_by stated) (differences_of rows) exact.rules.positive least.positive
      (are_turned station a s tied exact limited c turns least) by.differ;
}

-- The rows of a station and of stated directions are one list.
pub one_list : (station : StationValue) (stated : List ℤ) (a b : List TargetDifference)
    → AreCompared station stated a → AreCompared station stated b → a ≡ b
one_list station stated a b p q =
    let has = p.rounded.adjustable in
    let least = its_least station has in
    same_rows a b (p.named ∙ sym q.named)
    (one_on_circle 32_400_000_000_000 stated (stated_of a) (stated_of b) p.stated_on q.stated_on)
    (one_rounding station 1_000 (least_of a) (least_of b) (omega arith) refl p.rounded q.rounded)
    (one_differences (length station.targets) (choice_by has.adjustment) (stated_by stated)
    (differences_of a) (differences_of b)
    (p.differ (choice_by has.adjustment) has.adjustment.turns least)
    (q.differ (choice_by has.adjustment) has.adjustment.turns least))

-- No difference is larger in size than how far the directions are apart.
pub all_within : (station : StationValue) (stated : List ℤ) (rows : List TargetDifference)
    (off apart : ℕ) → AreCompared station stated rows
    → AreApart station (stated_by stated) off apart
    → All (IsWithin (pos apart)) (differences_of rows)
all_within station stated rows off apart p is = λ t other h.
    (let has = p.rounded.adjustable in
    let least = its_least station has in
    let c = choice_by has.adjustment in
    let differ = p.differ c has.adjustment.turns least in
    let count = differ.count in
    subst (IsWithin (pos apart)) (get_or_default (differences_of rows) t (pos 0) other h)
    (no_larger (length station.targets) off apart c (stated_by stated) (differences_of rows)
    least.positive (is.from_each c has.adjustment.turns least) differ t (omega (arith, h, count))))

-- The lines by an exact adjustment are those of the least-squares directions.
pub are_lines : (station : StationValue) (a : AdjustmentValue) (stated : List (Option ℤ))
    (lines : List TargetLine) → IsStation station → AreTied station → IsExact station a
    → KeepsLimit station a LARGEST_RESIDUAL_LIMIT
    → AreLinesBy (choice_by a) station.targets stated lines → AreLines station stated lines
are_lines station a stated lines s tied exact limited by =
    let places = stated_places stated in
    let each : length stated ≡ length station.targets =
    sym (AllZip-long HasStated stated lines by.stated_on)
    ∙ sym (length-map lines target_on) ∙ ap length by.named in
    let inside : All (λ place. place < length station.targets) places =
    subst (λ (n : ℕ). All (λ place. place < n) places) each (all_inside stated) in
    record {
      named = by.named;
      stated_on = by.stated_on;
      rounded = are_rounded station s a tied exact limited 1_000 (map least_on lines) (omega arith)
          by.count by.rounded;
      differ = λ c turns least. as_differences (length places) (choice_at places (choice_by a))
          (choice_at places c) (stated_by (stated_directions stated))
          (differences_of (compared_of lines)) exact.rules.positive least.positive
          (turned_at places (length station.targets) (choice_by a) c inside
          (are_turned station a s tied exact limited c turns least)) by.differ;
    }

-- The lines of a station and of what is stated of its targets are one list.
pub one_lines : (station : StationValue) (stated : List (Option ℤ)) (a b : List TargetLine)
    → AreLines station stated a → AreLines station stated b → a ≡ b
one_lines station stated a b p q =
    let has = p.rounded.adjustable in
    let least = its_least station has in
    let places = stated_places stated in
    same_lines stated a b (p.named ∙ sym q.named) p.stated_on q.stated_on
    (one_rounding station 1_000 (map least_on a) (map least_on b) (omega arith) refl p.rounded
    q.rounded)
    (one_differences (length places) (choice_at places (choice_by has.adjustment))
    (stated_by (stated_directions stated)) (differences_of (compared_of a))
    (differences_of (compared_of b))
    (p.differ (choice_by has.adjustment) has.adjustment.turns least)
    (q.differ (choice_by has.adjustment) has.adjustment.turns least))

-- The lines of a table that lacks no target are rows,
pub as_rows : (station : StationValue) (stated : List ℤ) (lines : List TargetLine)
    → AreLines station (map Some stated) lines → AreCompared station stated (compared_of lines)
as_rows station stated lines p =
    let rows = compared_of lines in
    let are : lines ≡ map Compared rows = all_compared stated lines p.stated_on in
    let named : names_of rows ≡ station.targets =
    sym (ap (map target_on) are ∙ names_back rows) ∙ p.named in
    let stated_on = stated_rows stated rows
    (subst (λ xs. AllZip HasStated (map Some stated) xs) are p.stated_on) in
    let each : length stated ≡ length station.targets =
    sym (length-map stated Some) ∙ sym (AllZip-long HasStated (map Some stated) lines p.stated_on)
    ∙ sym (length-map lines target_on) ∙ ap length p.named in
    record {
      named = named;
      stated_on = stated_on;
      rounded = subst (λ xs. AreRounded station 1_000 xs) (ap (map least_on) are ∙ least_back rows)
          p.rounded;
      differ = λ c turns least. subst (λ (n : ℕ). AreDifferences n c (stated_by stated)
          (differences_of rows)) each
          (of_all c least.positive stated (differences_of rows) (p.differ c turns least));
    }

-- and rows are its lines.
pub as_lines : (station : StationValue) (stated : List ℤ) (rows : List TargetDifference)
    → AreCompared station stated rows → AreLines station (map Some stated) (map Compared rows)
as_lines station stated rows p =
    let each : length stated ≡ length station.targets =
    sym (AllZip-long (IsWayRound (PARTS * CIRCLE) (pos 0)) stated (stated_of rows) p.stated_on)
    ∙ length-map rows (λ row. row.stated) ∙ sym (length-map rows (λ row. row.target))
    ∙ ap length p.named in
    record {
      named = names_back rows ∙ p.named;
      stated_on = stated_lines stated rows p.stated_on;
      rounded = subst (λ xs. AreRounded station 1_000 xs) (sym (least_back rows)) p.rounded;
      differ = λ c turns least. subst (λ xs. AreDifferences (length (stated_places
          (map Some stated))) (choice_at (stated_places (map Some stated)) c)
          (stated_by (stated_directions (map Some stated))) (differences_of xs))
          (sym (rows_back rows))
          (of_stated c least.positive stated (differences_of rows)
          (subst (λ (n : ℕ). AreDifferences n c (stated_by stated) (differences_of rows))
          (sym each) (p.differ c turns least)));
    }
