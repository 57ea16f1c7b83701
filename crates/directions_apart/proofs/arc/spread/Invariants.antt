use Rattle.std.proofs.Common.{length}
use Rattle.directions_apart.specs.Apart.{circle_of, difference, stated_by}
use Rattle.directions_apart.proofs.SpreadLaws.{IsNarrowest}
use Rattle.exact_adjustment.specs.Adjustments.{choice_by}
use Rattle.directions_apart.proofs.arc.spread.Given as goal

abbrev pub invariant-loop-start : goal.invariant-loop-start
invariant-loop-start l =
    IsNarrowest (circle_of (choice_by l.adjustment)) (difference (choice_by l.adjustment)
    (stated_by l.stated)) (length l.stated) l.start l.narrowest
