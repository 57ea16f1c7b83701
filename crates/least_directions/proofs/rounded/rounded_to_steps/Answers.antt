use Rattle.std.proofs.Common.{◌+◌, ap, ◌∙◌}
use Rattle.std.proofs.lemmas.List.{length_push}
use Rattle.exact_adjustment.specs.Adjustments.{choice_by}
use Rattle.directions_apart.specs.Rounding.{IsRounded}
use Rattle.least_directions.proofs.Pushed.{one_more}
use Rattle.least_directions.proofs.rounded.rounded_to_steps.Goals as goal

pub loop-target-preserved : goal.loop-target-preserved
loop-target-preserved c =
    let made = c.loop-target.directions.items in
    rw c.in_ok-push.ensures.items (record {
      count = length_push made c.rounded.result ∙ ap (λ n. n + 1) c.loop-target.invariant.count;
      each = one_more (λ t d. IsRounded (choice_by c.args.adjustment.now) t c.args.step d) made
          c.rounded.result c.loop-target.invariant.each
          (rw c.loop-target.invariant.count c.rounded.ensures);
    })
