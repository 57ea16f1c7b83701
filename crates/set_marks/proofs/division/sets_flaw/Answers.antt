use Rattle.std.proofs.Common.{◌≡◌, ◌∷◌, ◌<◌, ◌∙◌, List, ℕ, Some, None, rules, sym, ap, arith}
use Rattle.adjust_kernel.specs.declared.bounds.TheConstants.{MOST_SETS}
use Rattle.std.specs.Prelude.{slice_get}
use Rattle.set_marks.specs.declared.fault.MarkKind.TheVariants as kinds
use Rattle.set_marks.specs.declared.sight.Sight.{Sight}
use Rattle.set_marks.specs.Divisions.{sets_flaw, set_flaw, cut_end, part, next_of, flaw_at}
use Rattle.set_marks.proofs.Few.{many_flaw, next_flaw, own_flaw}
use Rattle.set_marks.proofs.division.sets_flaw.Goals as goal

pub sets-preserved : goal.sets-preserved
sets-preserved c =
    let split : c.sets.left.now ≡ c.in-Some-split_first.from.now ∷ c.in-Some-split_first.rest.now = search rules in
    let few : c.sets.count < MOST_SETS = search rules in
    let clean : set_flaw c.first_cut-first.result.now (part c.in-Some-split_first.from.now
    (next_of (cut_end c.args.starts.now c.args.sights.now) c.in-Some-split_first.rest.now) c.args.sights.now)
    ≡ None = search rules in
    record {
      found = next_flaw c.first_cut-first.result.now c.sets.count
          (cut_end c.args.starts.now c.args.sights.now) c.in-Some-split_first.from.now c.in-Some-split_first.rest.now
          c.args.sights.now _ few clean
          (ap (λ (l : List ℕ). sets_flaw c.first_cut-first.result.now c.sets.count
          (cut_end c.args.starts.now c.args.sights.now) l c.args.sights.now) (sym split)
          ∙ c.sets.invariant.found);
      few = omega (arith, few);
    }

pub returns-in-Some : goal.returns-in-Some
returns-in-Some c =
    let first = c.first_cut-first.result.now in
    let told : Some c.in-Some.flaw ≡ set_flaw first first = search rules in
    own_flaw c.args.starts.now c.args.sights.now c.in-Some.flaw
    (sym c.is_empty.ensures ∙ c.if-is_empty.false)
    (told ∙ ap (λ (f : List Sight). set_flaw f f) c.first_cut-first.ensures.cut)

pub returns-then-count-ge-MOST_SETS : goal.returns-then-count-ge-MOST_SETS
returns-then-count-ge-MOST_SETS c =
    let split : c.sets.left.now ≡ c.in-Some-split_first.from.now ∷ c.in-Some-split_first.rest.now = search rules in
    let is : c.flaw_at.result ≡ flaw_at kinds.TooManySets
    (slice_get c.args.sights.now c.in-Some-split_first.from.now) = search rules in
    many_flaw c.first_cut-first.result.now c.sets.count
    (cut_end c.args.starts.now c.args.sights.now) c.in-Some-split_first.from.now c.in-Some-split_first.rest.now
    c.args.sights.now _ c.flaw_at.result c.if-count-ge-MOST_SETS.true is
    (ap (λ (l : List ℕ). sets_flaw c.first_cut-first.result.now c.sets.count
    (cut_end c.args.starts.now c.args.sights.now) l c.args.sights.now) (sym split)
    ∙ c.sets.invariant.found)
    ∙ ap (λ f. sets_flaw f 0 (cut_end c.args.starts.now c.args.sights.now) c.args.starts.now
    c.args.sights.now) c.first_cut-first.ensures.cut
