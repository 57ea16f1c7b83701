use Rattle.std.proofs.Common.{◌≡◌, ◌<◌, ◌∙◌, ◌*◌, length, pos, refl, sym, ap, arith, get_or, rules}
use Rattle.std.proofs.Common.{◌≤◌, below_more, false, true, FitsSigned}
use Rattle.std.proofs.lemmas.Int.{to_z-of_z}
use mir.Syntax.{w8}
use Rattle.adjust_kernel.specs.Residuals.{residual}
use Rattle.adjust_kernel.specs.Within.{IsWithin}
use Rattle.adjust_kernel.proofs.GreatestLaws.{within_size}
use Rattle.exact_adjustment.specs.Adjustments.{choice_by}
use Rattle.exact_adjustment.specs.Exact.{size_at}
use Rattle.exact_adjustment.proofs.ObservedLaws.{of_all, size_at_place}
use Rattle.exact_adjustment.proofs.residuals.greatest_above.Goals as goal
use Rattle.exact_adjustment.proofs.residuals.greatest_above.Goals.{then-is_below, else-is_below}

pub loop-place-preserved : goal.loop-place-preserved
loop-place-preserved c =
    let station = c.args.station.now in
    let a = c.args.adjustment.now in
    let l = c.loop-place in
    let inside : l.place < length station.obs =
    omega (arith, ap length c.obs-obs.ensures.value, c.loop-place-test.true) in
    let fits : FitsSigned w8 (get_or a.turns l.place (pos 0)) = search rules in
    let here : c.residual_size-size.result ≡ size_at station a l.place =
    simp (to_z-of_z, c.obs-obs.ensures.value, c.turns-turns.ensures.value)
    at c.residual_size-size.ensures
    ∙ sym (size_at_place station a l.place c.requires.each inside) in
    elim c.if-is_below.branch [
      | then-is_below w ↦
          let more = c.is_below.ensures.0 w.if-is_below.true in
          rw (w.greatest-is, w.at-is) (record {
            most = below_more (λ n. size_at station a n ≤ c.residual_size-size.result) l.place
                (λ n h. omega (arith, l.invariant.most n h)) (omega arith);
            first = λ n h. omega (arith, l.invariant.most n h);
            is = λ p. (omega arith, here);
          })
      | else-is_below w ↦
          let no_more : l.greatest < c.residual_size-size.result → ⊥ =
          λ more. let e = c.is_below.ensures.1 more in let f = w.if-is_below.false in cc in
          rw (w.greatest-is, w.at-is) (record {
            most = below_more (λ n. size_at station a n ≤ l.greatest) l.place l.invariant.most
                (omega arith);
            first = l.invariant.first;
            is = λ p. let b = l.invariant.is p in (omega arith, b.1);
          })
    ]

pub returns-then-is_below-2-clause-some : goal.returns-then-is_below-2-clause-some
returns-then-is_below-2-clause-some c =
    let count = ap length c.obs-obs.ensures.value in
    let more = c.if-is_below-2.ensures.0 refl in
    let most = rw (c.denominator.ensures.value, c.from.ensures, c.half_units.ensures.value)
    at c.times-most.ensures in
    let is = c.loop-place.invariant.is (omega (arith, more)) in
    grind (arith, count, more, most, is)

pub returns-clause-none : goal.returns-clause-none
returns-clause-none c =
    let station = c.args.station.now in
    let a = c.args.adjustment.now in
    let count = ap length c.obs-obs.ensures.value in
    let most = rw (c.denominator.ensures.value, c.from.ensures, c.half_units.ensures.value)
    at c.times-most.ensures in
    let no_more : c.times-most.result < c.loop-place.greatest → ⊥ =
    λ more. let e : false ≡ true = c.if-is_below-2.ensures.1 more in cc in
    of_all station a.turns c.requires.each
    (λ r. IsWithin (pos (c.args.limit * a.denominator)) (residual (choice_by a) r))
    (λ n h. within_size (c.args.limit * a.denominator) _ (λ above.
    let size = c.loop-place.invariant.most n (omega (arith, h, count, c.loop-place-test.false)) in
    omega (arith, above, size, most, no_more, size_at_place station a n c.requires.each h)))
