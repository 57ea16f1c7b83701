use Rattle.std.proofs.Common.{◌+◌, ◌≤◌, length}
use Rattle.gsi_word.proofs.line.count_words.Given as goal
use Rattle.gsi_word.proofs.RunLaws.{Runs}

abbrev pub invariant-words : goal.invariant-words
invariant-words l = record {
  run : Runs l.width l.count l.bytes l.rest;
  short : l.count + length l.rest ≤ length l.bytes;
}

abbrev pub decreases-words : goal.decreases-words
decreases-words l = length l.rest
