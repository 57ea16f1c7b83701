use Rattle.std.proofs.Common.{◌≡◌, ◌<◌, ◌+◌, ℕ, Bool, true, false, length, arith, refl, subst}
use Rattle.std.specs.Prelude.{◌↔◌, IsTrue}
use Rattle.std.specs.Bool.{OnTrue, OnFalse}
use Rattle.adjust_kernel.specs.Marks.{mark}
use Rattle.adjust_kernel.proofs.MarkLaws.{AreSeen, none_seen, seen_more, each_observed}
use Rattle.adjust_kernel.proofs.MarkLaws.{some_unobserved, on_true, on_false}
use Rattle.adjust_kernel.proofs.obs.has_each.Goals as goal

decided : {P : Type 0} (b : Bool) → OnTrue b P → OnFalse b (P → ⊥) → IsTrue b ↔ P
decided true p f = (λ h. p, λ h. refl)
decided false p f = (λ h. absurd cc, λ h. absurd (f h))

pub loop-each-init : goal.loop-each-init
loop-each-init c = none_seen c.args.sets c.args.targets c.args.obs.now

pub loop-each-preserved : goal.loop-each-preserved
loop-each-preserved c =
    seen_more c.args.sets c.args.targets c.args.obs.now c.requires.obs c.loop-each.seen
    c.loop-each.each-index _ c.loop-each-test.true
    (omega (arith, c.requires.sets, c.requires.targets)) c.loop-each.invariant

pub returns : goal.returns
returns c =
    let sets = c.args.sets in
    let targets = c.args.targets in
    let obs = c.args.obs.now in
    let end : c.loop-each.each-index ≡ length obs =
    omega (arith, c.loop-each-test.false, c.loop-each.auto.each-index-end) in
    let seen = subst (λ (n : ℕ). AreSeen sets targets obs c.loop-each.seen n) end
    c.loop-each.invariant in
    decided c.are_marked.result
    (on_true c.are_marked.result (λ (all : (n : ℕ) → n < sets + targets
    → mark c.loop-each.seen n ≡ true). each_observed sets targets obs c.requires.obs
    c.loop-each.seen seen all) c.are_marked.ensures.all)
    (on_false c.are_marked.result (λ (u : (n : ℕ) × (n < sets + targets)
    × (mark c.loop-each.seen n ≡ false)).
    some_unobserved sets targets obs c.requires.obs c.loop-each.seen seen u.0 u.1 u.2)
    c.are_marked.ensures.some_not)
