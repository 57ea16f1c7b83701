use Rattle.std.proofs.Common.{◌≡◌, ◌∙◌, ◌*◌, FitsSigned, ap, sym, false, length, rules, true}
use Rattle.std.specs.Prelude.{◌&&◌, nat_le, nat_lt}
use Rattle.std.specs.Int.{w32}
use Rattle.std.proofs.lemmas.Int.{to_z-of_z}
use Rattle.station_differences.specs.Medians.{below, not_above}
use Rattle.station_differences.proofs.Medians.{are_fewer, are_half, fewer, half}
use Rattle.station_differences.proofs.median.is_median.Goals as goal

pub returns-then-below-rows : goal.returns-then-below-rows
returns-then-below-rows c =
    let rows = c.args.rows.now in
    let b = below rows c.args.difference in
    let k = not_above rows c.args.difference in
    let fits : FitsSigned w32 c.args.difference = search (rules, c.ranges.difference.sfits) in
    let is = to_z-of_z w32 c.args.difference fits in
    let few : nat_lt (2 * b) (length rows) ≡ true =
    ap (λ x. nat_lt (2 * x) (length rows))
    (sym (c.below-below.ensures.value ∙ ap (below rows) is))
    ∙ are_fewer _ _ c.below-below.ensures.bound c.if-below-rows.true in
    half _ _ c.not_above-not_above.ensures.bound
    ∙ ap (λ x. nat_le (length rows) (2 * x))
    (c.not_above-not_above.ensures.value ∙ ap (not_above rows) is)
    ∙ sym (ap (λ t. t && nat_le (length rows) (2 * k)) few)

pub returns-else-below-rows : goal.returns-else-below-rows
returns-else-below-rows c =
    let rows = c.args.rows.now in
    let b = below rows c.args.difference in
    let k = not_above rows c.args.difference in
    let fits : FitsSigned w32 c.args.difference = search (rules, c.ranges.difference.sfits) in
    let is = to_z-of_z w32 c.args.difference fits in
    let few : nat_lt (2 * b) (length rows) ≡ false =
    ap (λ x. nat_lt (2 * x) (length rows))
    (sym (c.below-below.ensures.value ∙ ap (below rows) is))
    ∙ are_half _ _ c.below-below.ensures.bound c.if-below-rows.false in
    fewer _ _ c.below-below.ensures.bound
    ∙ are_half _ _ c.below-below.ensures.bound c.if-below-rows.false ∙ sym (ap (λ t. t && nat_le (length rows) (2 * k)) few)
