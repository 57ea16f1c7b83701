use Rattle.directions_apart.specs.Apart.{circle_of, difference, stated_by}
use Rattle.directions_apart.specs.Arcs.{IsExtent}
use Rattle.exact_adjustment.specs.Adjustments.{choice_by}
use Rattle.directions_apart.proofs.arc.extent_from.Given as goal

abbrev pub invariant-loop-target : goal.invariant-loop-target
invariant-loop-target l =
    IsExtent (circle_of (choice_by l.adjustment)) (difference (choice_by l.adjustment)
    (stated_by l.stated)) l.target l.start l.widest
