use Rattle.std.proofs.Common.{[], ◌∷◌, length, sym, ap, ◌∙◌, arith}
use Rattle.std.proofs.lemmas.List.{length-append}
use Rattle.set_marks.specs.Searching.{knows}
use Rattle.set_marks.specs.declared.known.Known.{Known}
use Rattle.set_marks.proofs.Asking.{end_here, end_before}
use Rattle.set_marks.proofs.division.end_of.Goals as goal

pub returns-then-has-clause-value : goal.returns-then-has-clause-value
returns-then-has-clause-value c sets told =
    let name = c.in-Some.sight.now.target in
    end_here sets c.sights.left.now c.in-Some.before.now c.in-Some.sight.now
    c.in-Some.ensures.cases.0 (sym (told name)
    ∙ ap (λ (k : Known). knows k name) (sym c.sights.invariant.kept) ∙ sym c.has.ensures.value
    ∙ c.if-has.true)
    ∙ c.sights.invariant.found sets told

pub sights-preserved : goal.sights-preserved
sights-preserved c = record {
  kept = c.has.ensures.unchanged ∙ c.sights.invariant.kept;
  found = λ sets told. let name = c.in-Some.sight.now.target in
      end_before sets c.sights.left.now c.in-Some.before.now c.in-Some.sight.now
      c.in-Some.ensures.cases.0 (sym (told name)
      ∙ ap (λ (k : Known). knows k name) (sym c.sights.invariant.kept) ∙ sym c.has.ensures.value
      ∙ c.if-has.false)
      ∙ c.sights.invariant.found sets told;
  few =
      let split = ap length c.in-Some.ensures.cases.0 in
      let long = length-append c.in-Some.before.now (c.in-Some.sight.now ∷ []) in
      let few = c.sights.invariant.few in omega (arith, split, long, few);
}
