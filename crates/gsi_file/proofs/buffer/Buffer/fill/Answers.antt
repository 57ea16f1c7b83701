use Rattle.std.proofs.Common.{◌∙◌, ap, length, length-append, slice_range, arith}
use Rattle.byte_ends.proofs.Coming.{at_last, through_so}
use Rattle.gsi_file.proofs.ReadsAfter.{grows_after}
use Rattle.gsi_file.proofs.buffer.Buffer.fill.Goals as goal

pub returns-clause-through : goal.returns-clause-through
returns-clause-through g c =
    let w = c.self.inside in
    let span = c.make_room.ensures.span in
    let hand = c.make_room.ensures.same ∙ ap (λ xs. slice_range xs w.start w.end)
    c.deref_mut.ensures.value ∙ c.self.view_is in
    through_so _ _ _ c.in_ok-n.ensures.through
    (λ first last reads. grows_after first last c.make_room.new.room
    c.read_after.new.buffer c.args.self.now c.make_room.result.0 c.make_room.result.1
    c.in_ok-n.n span.0 (omega (arith, span.1)) hand reads)

pub returns-clause-more : goal.returns-clause-more
returns-clause-more g c =
    let grown = (at_last _ _ (returns-clause-through g c)).1.2 in
    omega (arith, grown.count, ap length grown.now, length-append c.args.self.now grown.given)
