use Rattle.std.proofs.Common.{arith}
use Rattle.set_marks.specs.Searching.{KeepsFaces}
use Rattle.set_marks.proofs.Asking.{front_kept}
use Rattle.set_marks.proofs.set.flaw_of_many.Goals as goal

pub alone_kept-requires : goal.alone_kept-requires
alone_kept-requires c =
    let kept : KeepsFaces c.front.result.now c.again_kept.new.faces =
    rw c.in_default.is at c.in_ok-sight.ensures.kept in
    front_kept 201 c.args.set.now c.front.result.now c.again_kept.new.faces kept c.front.ensures
    (let few = c.if-set-gt-MOST_READINGS.false in omega (arith, few))
