use Rattle.std.proofs.Common.{ℕ, ◌+◌, ◌<◌, List, length, get_or, ap, sym, subst, ◌∙◌}
use Rattle.std.proofs.lemmas.List.{length_push}
use Rattle.exact_adjustment.specs.Adjustments.{choice_by}
use Rattle.directions_apart.specs.Rounding.{IsRounded}
use Rattle.least_directions.proofs.Pushed.{one_more}
use Rattle.station_report.proofs.computing.directions_by.Goals as goal

pub loop-target-preserved : goal.loop-target-preserved
loop-target-preserved c =
    let choice = choice_by c.args.adjustment.now in
    let made = c.loop-target.directions.items in
    let items = c.in_ok-push.ensures.items in
    let last : IsRounded choice (length made) 1_000 c.rounded.result =
    subst (λ n. IsRounded choice n 1_000 c.rounded.result)
    (sym c.loop-target.invariant.count) c.rounded.ensures in
    record {
      count = ap length items ∙ length_push made c.rounded.result
          ∙ ap (λ n. n + 1) c.loop-target.invariant.count;
      each = subst (λ (ds : List ℕ). (t : ℕ) → t < length ds
          → IsRounded choice t 1_000 (get_or ds t 0)) (sym items)
          (one_more (λ t d. IsRounded choice t 1_000 d) made c.rounded.result
          c.loop-target.invariant.each last);
    }
