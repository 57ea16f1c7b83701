use Rattle.std.proofs.Common.{◌+◌, ◌-◌, ◌≤◌}
use Rattle.gsi_file.specs.declared.bounds.TheConstants.{LONGEST_LINE}
use Rattle.gsi_file.proofs.part_end.words_end.Given as goal

abbrev pub invariant-words : goal.invariant-words
invariant-words l = l.end ≤ LONGEST_LINE + 16

abbrev pub decreases-words : goal.decreases-words
decreases-words l = LONGEST_LINE + 16 - l.end
