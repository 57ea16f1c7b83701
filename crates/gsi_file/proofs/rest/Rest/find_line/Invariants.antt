use Rattle.std.proofs.Common.{length}
use Rattle.gsi_file.specs.Passing.{SameLeft}
use Rattle.gsi_file.proofs.rest.Rest.find_line.Given as goal

abbrev pub invariant-parts : goal.invariant-parts
invariant-parts l = SameLeft l.fn.self l.self

abbrev pub decreases-parts : goal.decreases-parts
decreases-parts l = length l.self.bytes.now
