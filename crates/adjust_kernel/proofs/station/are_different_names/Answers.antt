use Rattle.std.proofs.Common.{◌∙◌, ℕ, List, get_or, arith, refl}
use Rattle.std.proofs.Common.{below_more, subst}
use Rattle.std.proofs.lemmas.Bool.{iff_false}
use Rattle.std.proofs.lemmas.List.{get_or-take, get_or_default, length-take-le}
use Rattle.adjust_kernel.specs.Names.{IsName}
use Rattle.adjust_kernel.proofs.EachTwo.{another}
use Rattle.adjust_kernel.proofs.station.are_different_names.Goals as goal

pub loop-place-preserved : goal.loop-place-preserved
loop-place-preserved c =
    let names = c.args.names.now in
    let place = c.loop-place.place in
    let name = c.index-names-place.result in
    let again = c.index-names-place-in-loop-place.result in
    let inside = c.loop-place-test.true in (
      below_more (λ (k : ℕ). (d : List ℕ) → IsName (get_or names k d)) place
          c.loop-place.invariant.0
          (λ d. subst IsName (c.index-names-place.is ∙ get_or_default names place name d inside)
          c.recall.ensures),
      another names place again inside c.index-names-place-in-loop-place.is
          (λ i below same. iff_false c.is_among.ensures c.if-is_among.false (
            i,
            again,
            omega (arith, below, length-take-le place names (omega arith)),
            get_or-take place names i again below ∙ same,
            refl,
          ))
          c.loop-place.invariant.1,
    )

pub returns-clause-valid : goal.returns-clause-valid
returns-clause-valid c = λ k d inside. c.loop-place.invariant.0 k (omega arith) d
