use Rattle.std.proofs.Common.{◌≡◌, ◌∷◌, true, false, rules, sym, subst, ◌∙◌}
use Rattle.set_marks.specs.declared.faces.Faces.{Faces}
use Rattle.set_marks.specs.Searching.{KeepsFaces}
use Rattle.set_marks.proofs.Asking.{alone_here, alone_later, pairs_kept}
use Rattle.set_marks.proofs.set.alone_kept.Goals as goal

pub returns-then-not-has : goal.returns-then-not-has
returns-then-not-has c =
    let split : c.sights.left.now ≡ c.in-Some.sight.now ∷ c.in-Some.rest.now = search rules in
    let none : c.has.result ≡ false = search rules in
    alone_here c.args.set.now c.sights.left.now c.in-Some.rest.now c.in-Some.sight.now split
    c.sights.invariant.found
    (sym (pairs_kept c.args.set.now c.sights.faces c.sights.invariant.kept c.in-Some.sight.now)
    ∙ sym c.has.ensures.value ∙ none)

pub sights-preserved : goal.sights-preserved
sights-preserved c =
    let split : c.sights.left.now ≡ c.in-Some.sight.now ∷ c.in-Some.rest.now = search rules in
    let some : c.has.result ≡ true = search rules in
    record {
      found = alone_later c.args.set.now c.sights.left.now c.in-Some.rest.now c.in-Some.sight.now
          split c.sights.invariant.found
          (sym (pairs_kept c.args.set.now c.sights.faces c.sights.invariant.kept
          c.in-Some.sight.now) ∙ sym c.has.ensures.value ∙ some);
      kept = subst (λ (f : Faces). KeepsFaces c.args.set.now f) (sym c.has.ensures.unchanged)
          c.sights.invariant.kept;
    }
