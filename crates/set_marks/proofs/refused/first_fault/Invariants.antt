use Rattle.std.proofs.Common.{◌≡◌, length}
use Rattle.set_marks.specs.Marking.{first_fault}
use Rattle.set_marks.proofs.refused.first_fault.Given as goal

abbrev pub invariant-stations : goal.invariant-stations
invariant-stations l = first_fault l.left ≡ first_fault l.stations

abbrev pub decreases-stations : goal.decreases-stations
decreases-stations l = length l.left
