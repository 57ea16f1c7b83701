use Rattle.std.proofs.Common.{length, ◌≤◌, All, arith, sym, take}
use Rattle.std.proofs.lemmas.List.{take_all}
use Rattle.std.proofs.lemmas.List.Elements.{All-same}
use Rattle.adjust_kernel.specs.Marks.{AreAlike}
use Rattle.adjust_kernel.proofs.MarkLaws.{none_swept, swept_more, on_false}
use Rattle.adjust_kernel.proofs.connection.sweep.Goals as goal

pub loop-each-init : goal.loop-each-init
loop-each-init c = none_swept c.args.sets c.args.targets c.args.obs.now c.args.marks.now

pub loop-each-preserved : goal.loop-each-preserved
loop-each-preserved c =
    swept_more c.args.sets c.args.targets c.args.obs.now c.requires.obs c.args.marks.now
    c.loop-each.marks _ c.loop-each.any c.carry-carried.result c.loop-each.each-index _
    c.loop-each-test.true
    c.carry-carried.ensures.carried c.carry-carried.ensures.alike c.loop-each.invariant

pub returns-clause-alike : goal.returns-clause-alike
returns-clause-alike c =
    let past : length c.args.obs.now ≤ c.loop-each.each-index = omega arith in
    on_false c.loop-each.any (λ (alike : All (AreAlike c.loop-each.marks c.args.sets)
    (take c.loop-each.each-index c.args.obs.now)).
    All-same (AreAlike c.loop-each.marks c.args.sets) c.args.obs.now
    (take c.loop-each.each-index c.args.obs.now)
    (sym (take_all c.loop-each.each-index c.args.obs.now past)) alike)
    c.loop-each.invariant.alike
