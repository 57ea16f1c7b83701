use Rattle.adjust_kernel.specs.Residuals.{choice_of}
use Rattle.exact_adjustment.proofs.CarrySteps.{IsCarriedTo}
use Rattle.exact_adjustment.proofs.nearest.are_carried.Given as goal

abbrev pub invariant-loop-step : goal.invariant-loop-step
invariant-loop-step l =
    IsCarriedTo l.station l.turns (choice_of 1 l.directions l.orientations) l.marks l.step
