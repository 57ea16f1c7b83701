use Rattle.std.proofs.Common.{ℕ, take, arith, length-take, length-drop}
use Rattle.byte_ends.proofs.Coming.{through_so}
use Rattle.gsi_file.proofs.ReadsAfter.{reads_as, reads_after}
use Rattle.gsi_file.proofs.buffer.read_after.Goals as goal

pub returns-clause-through : goal.returns-clause-through
returns-clause-through g c =
    let s = c.args.buffer.now in
    let held = c.args.held in
    through_so _ _ _ (reads_as g.R.Source.told g.R.Source.failed g.R.Source.gave c.args.from.now
    c.read.new.self c.read.new.buf c.read.result c.read.ensures.reads c.read.ensures.over
    c.read.ensures.adds)
    (λ first last reads. reads_after first last (take held s) c.read.new.buf _ held
    c.read.result (omega (arith, length-take held s, c.requires))
    (omega (arith, c.read.auto.buf, c.requires, length-take {A = ℕ}, length-drop {A = ℕ}))
    c.read.ensures.bound reads)
