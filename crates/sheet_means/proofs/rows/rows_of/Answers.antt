use Rattle.std.proofs.Common.{◌≡◌, ◌+◌, ◌<◌, List, length, get_or, sym, subst, rules}
use Rattle.adjust_kernel.specs.declared.obs.Obs.{Obs}
use Rattle.adjust_kernel.specs.declared.row.Row.{Row}
use Rattle.adjust_kernel.specs.Matching.{key_of_row, key_of_obs}
use Rattle.adjust_kernel.specs.Pairs.{turned_by}
use Rattle.sheet_means.specs.Turning.{IsTurned}
use Rattle.sheet_means.proofs.CompleteLaws.{any_obs}
use Rattle.sheet_means.proofs.RowLaws.{AreRowsTo, rows_more}
use Rattle.sheet_means.proofs.rows.rows_of.Goals as goal

pub loop-obs-preserved : goal.loop-obs-preserved
loop-obs-preserved c = record {
  so_far =
      let station = c.args.station.now in
      let n = c.loop-obs.obs-index in
      let row = c.row_of.result in
      let obs = c.obs-obs-items.ensures.value in
      subst (λ (items : List Row). AreRowsTo station items (n + 1)) (sym {A =
      List Row} c.push_reserved.ensures.items)
      (rows_more station c.loop-obs.rows.items n c.loop-obs.invariant.so_far any_obs row
      (subst (λ (l : List Obs). n < length l) obs c.loop-obs-test.true)
      (subst (λ (l : List Obs). key_of_row row ≡ key_of_obs station.sets station.targets
      (get_or l n any_obs)) obs c.row_of.ensures.key)
      (subst (λ (l : List Obs). IsTurned station.obs
      (turned_by (get_or l n any_obs) row.turn)) obs c.row_of.ensures.turned)
      c.row_of.ensures.row);
  each = search rules;
  room = search rules;
}
