-- The lines of the first targets, one after the other.
use Rattle.std.proofs.Common.{◌≡◌, ◌∙◌, ℕ, zero, suc, ◌+◌, ◌-◌, ◌≤◌, ◌<◌, List, [], ◌∷◌, ◌++◌}
use Rattle.std.proofs.Common.{length, map, take, drop, get_or, Option, Some, None, ℤ, arith, ap, refl}
use Rattle.std.proofs.Common.{sym, subst}
use Rattle.std.proofs.Math.Seq.{take-add}
use Rattle.std.proofs.lemmas.List.{drop_more, length-drop, length-map, length_push}
use Rattle.std.proofs.lemmas.List.{map-append, take_all, take_more}
use Rattle.std.proofs.lemmas.List.Elements.{filter_map-append}
use Rattle.std.proofs.lemmas.Slice.Zip.{all_zipped_more}
use Rattle.std.specs.List.{AllZip}
use Rattle.adjust_kernel.specs.Residuals.{Choice}
use Rattle.adjust_kernel.specs.declared.units.TheConstants.{UNIT}
use Rattle.directions_apart.specs.Apart.{stated_by}
use Rattle.directions_apart.specs.Rounding.{IsRounded}
use Rattle.station_differences.specs.ByAdjustment.{AreLinesBy}
use Rattle.station_differences.specs.Differences.{AreDifferences, differences_of}
use Rattle.station_differences.specs.Lines.{HasStated, compared_of, least_on, row_on, target_on}
use Rattle.station_differences.specs.StatedTargets.{choice_at, stated_directions, stated_places}
use Rattle.station_differences.specs.declared.line.TargetLine.{TargetLine}
use Rattle.station_differences.proofs.RowLaws.{one_more}

-- how many directions are stated of these targets
abbrev pub count_of : List (Option ℤ) → ℕ
count_of stated = length (stated_directions stated)

-- What is left of differences of which so many were taken.
pub rest_of : (taken : ℕ) (differences : List ℤ)
    → take (length differences - taken) (drop taken differences) ≡ drop taken differences
rest_of taken differences =
    take_all (length differences - taken) (drop taken differences)
    (omega (arith, length-drop taken differences))

-- The lines of the first so many targets, which took so many differences.
pub record AreLinesSoFar (c : Choice) (targets : List (List ℕ)) (stated : List (Option ℤ))
    (differences : List ℤ) (place taken : ℕ) (lines : List TargetLine) : Type 0 where
  pub count : length lines ≡ place
  pub named : map target_on lines ≡ take place targets
  pub stated_on : AllZip HasStated (take place stated) lines
  pub rounded : (t : ℕ) → t < length (map least_on lines)
      → IsRounded c t UNIT (get_or (map least_on lines) t 0)
  pub differ : differences_of (compared_of lines) ≡ take taken differences
  pub left : taken + count_of (drop place stated) ≡ length differences

-- The next of them is stated or not.
count_split : (s : Option ℤ) (stated : List (Option ℤ))
    → count_of (s ∷ stated) ≡ count_of (s ∷ []) + count_of stated
count_split None stated = omega arith
count_split (Some d) stated = omega arith

module _ (c : Choice) (targets : List (List ℕ)) (stated : List (Option ℤ)) (differences : List ℤ)
  where
    pub none_so_far : count_of stated ≡ length differences
        → AreLinesSoFar c targets stated differences 0 0 []
    none_so_far count = record {
      count = refl;
      named = refl;
      stated_on = search;
      rounded = λ t h. absurd (omega (arith, h));
      differ = refl;
      left = omega (arith, count);
    }

    module _ (place taken : ℕ) (lines : List TargetLine)
        (far : AreLinesSoFar c targets stated differences place taken lines) where
      -- What is left for the next.
      pub next_left : (s : Option ℤ) → place < length stated → s ≡ get_or stated place None
          → taken + (count_of (s ∷ []) + count_of (drop (place + 1) stated))
          ≡ length differences
      next_left s inside is =
          let more : count_of (drop place stated)
          ≡ count_of (s ∷ []) + count_of (drop (place + 1) stated) =
          ap count_of (drop_more stated place None inside)
          ∙ ap (λ o. count_of (o ∷ drop (place + 1) stated)) (sym is)
          ∙ count_split s (drop (place + 1) stated) in
          let left = far.left in
          omega (arith, more, left)

      pub one_so_far : (line : TargetLine) (target : List ℕ) (s : Option ℤ) → place < length targets
          → place < length stated → target ≡ get_or targets place target
          → s ≡ get_or stated place None → target_on line ≡ target → HasStated s line
          → IsRounded c place UNIT (least_on line)
          → differences_of (compared_of (line ∷ []))
          ≡ take (count_of (s ∷ [])) (drop taken differences)
          → AreLinesSoFar c targets stated differences (place + 1) (taken + count_of (s ∷ []))
          (lines ++ (line ∷ []))
      one_so_far line target s inside also is its named has least differ =
          let count = far.count in
          let lows : length (map least_on lines) ≡ place = length-map lines least_on ∙ count in
          record {
            count = length_push lines line ∙ ap (λ (n : ℕ). n + 1) count;
            named = map-append target_on lines (line ∷ [])
                ∙ (λ i. far.named i ++ (named i ∷ []))
                ∙ ap (λ t. take place targets ++ (t ∷ [])) is
                ∙ sym (take_more targets place target inside);
            stated_on = rw (take_more stated place None also) (all_zipped_more HasStated
                (take place stated) lines (get_or stated place None) line far.stated_on
                (subst (λ o. HasStated o line) its has));
            rounded = subst (λ (xs : List ℕ). (t : ℕ) → t < length xs
                → IsRounded c t UNIT (get_or xs t 0)) (sym (map-append least_on lines (line ∷ [])))
                (one_more (λ (t d : ℕ). IsRounded c t UNIT d) (map least_on lines) (least_on line)
                0 far.rounded
                (subst (λ (n : ℕ). IsRounded c n UNIT (least_on line)) (sym lows) least));
            differ = ap differences_of (filter_map-append row_on lines (line ∷ []))
                ∙ map-append (λ row. row.difference) (compared_of lines) (compared_of (line ∷ []))
                ∙ (λ i. far.differ i ++ differ i)
                ∙ sym (take-add taken (count_of (s ∷ [])) differences);
            left = omega (arith, next_left s also its);
          }

      -- The lines of all.
      pub all_so_far : place ≡ length targets → length stated ≡ length targets
          → AreDifferences (length (stated_places stated)) (choice_at (stated_places stated) c)
          (stated_by (stated_directions stated)) differences
          → AreLinesBy c targets stated lines
      all_so_far all each are =
          let none : count_of (drop place stated) ≡ 0 = none_left place stated
          (omega (arith, all, each)) in
          let left = far.left in
          let count = far.count in
          record {
            named = far.named ∙ take_all place targets (omega (arith, all));
            stated_on = subst (λ (xs : List (Option ℤ)). AllZip HasStated xs lines)
                (take_all place stated (omega (arith, all, each))) far.stated_on;
            count = length-map lines least_on ∙ count ∙ all;
            rounded = far.rounded;
            differ = subst (λ (ds : List ℤ). AreDifferences (length (stated_places stated))
                (choice_at (stated_places stated) c) (stated_by (stated_directions stated)) ds)
                (sym (far.differ ∙ take_all taken differences (omega (arith, left, none)))) are;
          }
        where
          none_left : (n : ℕ) (xs : List (Option ℤ)) → length xs ≤ n → count_of (drop n xs) ≡ 0
          none_left zero [] h = refl
          none_left zero (x ∷ xs) h = absurd (omega (arith, h))
          none_left (suc n) [] h = refl
          none_left (suc n) (x ∷ xs) h = none_left n xs (omega (arith, h))
