use Rattle.std.proofs.Common.{arith, Bool, All, subst}
use Rattle.std.specs.Bool.{OnFalse}
use Rattle.adjust_kernel.specs.Marks.{AreAlike}
use Rattle.adjust_kernel.proofs.MarkLaws.{spread_start, marked_is_whole, marks_divide, on_true}
use Rattle.adjust_kernel.proofs.MarkLaws.{on_false}
use Rattle.adjust_kernel.proofs.connection.is_connected.Goals as goal

pub sweeps-init : goal.sweeps-init
sweeps-init c = spread_start c.args.sets c.args.targets c.args.obs.now
    (omega (arith, c.requires.sets))

pub returns-clause-connected : goal.returns-clause-connected
returns-clause-connected c =
    on_true c.are_marked-2.result (marked_is_whole c.args.sets c.args.targets c.args.obs.now
    c.sweep.new.marks (c.sweep.ensures.spread c.sweeps.invariant)) c.are_marked-2.ensures.all

pub returns-clause-divided : goal.returns-clause-divided
returns-clause-divided c =
    let alike = subst (λ (b : Bool). OnFalse b
    (All (AreAlike c.sweep.new.marks c.args.sets) c.args.obs.now)) c.sweeps-test.false
    c.sweep.ensures.alike in
    on_false c.are_marked-2.result
    (λ u. marks_divide c.args.sets c.args.targets c.args.obs.now c.sweep.new.marks
    c.requires.targets.0 (c.sweep.ensures.spread c.sweeps.invariant) alike u.0 u.1 u.2)
    c.are_marked-2.ensures.some_not

pub returns-then-are_marked-clause-connected : goal.returns-then-are_marked-clause-connected
returns-then-are_marked-clause-connected c =
    marked_is_whole c.args.sets c.args.targets c.args.obs.now c.sweep.new.marks
    (c.sweeps-test.ensures.spread c.sweeps.invariant) c.if-are_marked.ensures.all
