use Rattle.std.proofs.Common.{◌≤◌, ◌+◌, length, drop, ◌∙◌, ap, arith}
use Rattle.gsi_file.proofs.ReadsAfter.{slice_range_after, range_length}
use Rattle.gsi_file.proofs.buffer.Buffer.drop_front.Goals as goal

pub returns : goal.returns
returns c =
    let w = c.self.inside in
    let le : w.start + c.args.n ≤ w.end = omega (
      arith,
      range_length w.room.value w.start w.end,
      ap length c.self.view_is,
      c.requires,
      c.self.invariant,
    ) in
    slice_range_after w.room.value w.start w.end c.args.n le ∙ ap (drop c.args.n) c.self.view_is
