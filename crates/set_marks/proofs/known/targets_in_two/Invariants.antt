use Rattle.std.proofs.Common.{◌≡◌, [], length}
use Rattle.set_marks.specs.Divisions.{names_with, seconds_of}
use Rattle.set_marks.proofs.known.targets_in_two.Given as goal

abbrev pub invariant-sights : goal.invariant-sights
invariant-sights l = names_with l.names (seconds_of l.left) ≡ names_with [] (seconds_of l.sights)

abbrev pub decreases-sights : goal.decreases-sights
decreases-sights l = length l.left
