use Rattle.std.proofs.Common.{◌≡◌, ◌-◌, ◌/◌, ◌≤◌, length}
use Rattle.gsi_word.specs.PlainLines.{are_more, more_words}
use Rattle.gsi_word.proofs.plain.goes_on.Given as goal

abbrev pub invariant-words : goal.invariant-words
invariant-words l = record {
  high : l.at ≤ length l.line;
  same : are_more (more_words l.line) 47 l.line
      ≡ are_more ((length l.line - l.at) / 16) l.at l.line;
}

abbrev pub decreases-words : goal.decreases-words
decreases-words l = length l.line - l.at
