use Rattle.std.proofs.Common.{◌∙◌, ap, arith, Bool}
use Rattle.byte_ends.specs.Sink.{flushed_after}
use Rattle.std.proofs.lemmas.List.{take_rest, length-drop}
use Rattle.byte_ends.proofs.Writing.{appends_then, flushed_then, take_piece}
use Rattle.byte_ends.proofs.sink.Sink.write_all.Goals as goal

pub writing-preserved : goal.writing-preserved
writing-preserved g c =
    let so_far = c.writing.invariant in
    let k = c.writing.written in
    let bs = c.args.bytes.now in
    record {
      bound = omega (arith, c.in_ok-written.ensures.takes.0, take_rest bs k, length-drop k bs);
      held = appends_then _ _ _ _ _ _ so_far.held c.in_ok-written.ensures.holds
          (take_piece k c.in_ok-written.field-0 bs);
      failed = c.in_ok-written.ensures.failed ∙ so_far.failed;
      flushed = c.in_ok-written.ensures.flushed
          ∙ ap (λ (before : Bool). flushed_after before c.in_ok-written.field-0) so_far.flushed
          ∙ flushed_then _ k c.in_ok-written.field-0;
    }
