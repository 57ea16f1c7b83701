use Rattle.std.proofs.Common.{◌≡◌, ◌+◌, take, pos}
use Rattle.adjust_kernel.specs.Pairs.{choice_stated_by, turned_by_rows}
use Rattle.adjust_kernel.specs.Tallies.{all_added}
use Rattle.adjust_kernel.proofs.GreatestLaws.{greatest_size}
use Rattle.adjust_kernel.proofs.sums.add_residuals.Given as goal

abbrev pub invariant-loop-row : goal.invariant-loop-row
invariant-loop-row g l = record {
  stands : g.T.Tally.StandsFor l.tally (all_added (choice_stated_by l.sheet)
      (take l.row (turned_by_rows l.obs l.sheet.rows)));
  room : g.T.Tally.room l.tally + l.row ≡ 4_000;
  greatest : l.greatest ≡ pos (greatest_size (choice_stated_by l.sheet)
      (take l.row (turned_by_rows l.obs l.sheet.rows)));
}
