use Rattle.std.proofs.Common.{◌≡◌, ◌∙◌, ℕ, ◌+◌, ◌≤◌, ◌<◌, List, All, None, length, get_or}
use Rattle.std.proofs.Common.{◌++◌, [], ◌∷◌, refl, take, drop, ℤ, pos, arith, ap, sym, subst}
use Rattle.std.proofs.lemmas.List.{length-map}
use Rattle.std.specs.Option.{unwrap_or}
use Rattle.adjust_kernel.specs.declared.units.TheConstants.{UNIT}
use Rattle.directions_apart.specs.Apart.{stated_by}
use Rattle.directions_apart.specs.Rounding.{IsRounded}
use Rattle.exact_adjustment.specs.Adjustments.{choice_by}
use Rattle.station_differences.specs.Differences.{AreDifferences}
use Rattle.station_differences.specs.Lines.{least_on}
use Rattle.station_differences.specs.StatedTargets.{choice_at, stated_directions, stated_places}
use Rattle.station_differences.proofs.DifferenceLaws.{same_stated}
use Rattle.station_differences.proofs.LinesSoFar.{AreLinesSoFar, all_so_far, count_of, none_so_far}
use Rattle.station_differences.proofs.LinesSoFar.{one_so_far, rest_of}
use Rattle.station_differences.proofs.StatedLaws.{all_inside, at_each_place, at_place, places_count}
use Rattle.station_differences.proofs.StatedLaws.{some_stated}
use Rattle.station_differences.proofs.lines.lines_by.Goals as goal

pub differences_at-requires-clause-some : goal.differences_at-requires-clause-some
differences_at-requires-clause-some c =
    let stated = c.args.stated.now in
    let is : c.deref-2.result.now ≡ stated_places stated =
    c.deref-2.ensures.value ∙ c.in_ok-places.ensures in
    let some = c.denominator.ensures.valid.some in
    subst (λ (xs : List ℕ). 1 ≤ length xs) (sym is)
    (some_stated stated (omega (arith, some, c.requires.each_target, c.requires.each_stated))
    c.requires.enough)

pub differences_at-requires-clause-inside : goal.differences_at-requires-clause-inside
differences_at-requires-clause-inside c =
    let stated = c.args.stated.now in
    let is : c.deref-2.result.now ≡ stated_places stated =
    c.deref-2.ensures.value ∙ c.in_ok-places.ensures in
    let count : length c.deref.result.now ≡ length stated =
    ap length (c.deref.ensures.value ∙ c.in_ok-directions.ensures)
    ∙ length-map stated (λ direction. unwrap_or direction (pos 0)) in
    subst (λ (n : ℕ). All (λ place. place < n) c.deref-2.result.now) (sym count)
    (subst (λ (xs : List ℕ). All (λ place. place < length stated) xs) (sym is) (all_inside stated))

pub loop-place-init : goal.loop-place-init
loop-place-init c =
    let stated = c.args.stated.now in
    let differences = c.in_ok-differences.differences.items in
    let is : c.deref-2.result.now ≡ stated_places stated =
    c.deref-2.ensures.value ∙ c.in_ok-places.ensures in
    let are = c.in_ok-differences.ensures in
    let count : count_of stated ≡ length differences =
    sym (are.count ∙ ap length is ∙ places_count 0 stated) in
    subst (λ lines. AreLinesSoFar (choice_by c.args.adjustment.now) c.args.targets.now stated
    differences 0 0 lines) (sym c.in_ok-lines.ensures.items)
    (none_so_far (choice_by c.args.adjustment.now) c.args.targets.now stated differences count)

pub loop-place-preserved : goal.loop-place-preserved
loop-place-preserved c =
    let choice = choice_by c.args.adjustment.now in
    let targets = c.args.targets.now in
    let stated = c.args.stated.now in
    let differences = c.in_ok-differences.differences.items in
    let l = c.loop-place in
    let s = get_or stated l.place None in
    let line = c.line_of.result in
    let inside : l.place < length targets = c.loop-place-test.true in
    let also : l.place < length stated = omega (arith, inside, c.requires.each_stated) in
    let least : IsRounded choice l.place UNIT (least_on line) =
    subst (λ (n : ℕ). IsRounded choice l.place UNIT n) (sym c.line_of.ensures.least)
    c.rounded-least.ensures in
    let left = c.line_of.ensures.difference
    ∙ ap (λ (ds : List ℤ). take (count_of (s ∷ [])) ds)
    (rest_of l.taken c.deref-in-loop-place.result.now
    ∙ ap (λ (ds : List ℤ). drop l.taken ds) c.deref-in-loop-place.ensures.value) in
    subst (λ lines. AreLinesSoFar choice targets stated differences (l.place + 1)
    (l.taken + c.stated_count-taken.result) lines) (sym c.in_ok-push.ensures.items)
    (subst (λ (n : ℕ). AreLinesSoFar choice targets stated differences (l.place + 1) (l.taken + n)
    (l.lines.items ++ (line ∷ []))) (sym c.stated_count-taken.ensures)
    (one_so_far choice targets stated differences l.place l.taken l.lines.items l.invariant line
    c.index-targets-place.result s inside also c.index-targets-place.is refl
    c.line_of.ensures.named c.line_of.ensures.stated least left))

pub returns : goal.returns
returns c =
    let choice = choice_by c.args.adjustment.now in
    let stated = c.args.stated.now in
    let places = stated_places stated in
    let differences = c.in_ok-differences.differences.items in
    let l = c.loop-place in
    let all : l.place ≡ length c.args.targets.now =
    omega (arith, c.loop-place-test.false, l.auto.place-end) in
    let is : c.deref-2.result.now ≡ places =
    c.deref-2.ensures.value ∙ c.in_ok-places.ensures in
    let also : c.deref.result.now ≡ at_each_place stated =
    c.deref.ensures.value ∙ c.in_ok-directions.ensures in
    let are = subst (λ (ds : List ℤ). AreDifferences (length places) (choice_at places choice)
    (λ i. stated_by ds (get_or places i 0)) differences) also
    (subst (λ (xs : List ℕ). AreDifferences (length xs) (choice_at xs choice)
    (λ i. stated_by c.deref.result.now (get_or xs i 0)) differences) is
    c.in_ok-differences.ensures) in
    all_so_far choice c.args.targets.now stated differences l.place l.taken l.lines.items
    l.invariant all c.requires.each_stated
    (same_stated (length places) (choice_at places choice)
    (λ i. stated_by (at_each_place stated) (get_or places i 0))
    (stated_by (stated_directions stated)) differences c.denominator.ensures.valid.positive
    (λ i h. at_place stated i h) are)
