use Rattle.std.proofs.Common.{◌≡◌, ◌-◌, ◌≤◌, take}
use Rattle.gsi_word.specs.FoundWords.{found}
use Rattle.gsi_word.specs.BlockViews.{block_of}
use Rattle.gsi_word.proofs.block.Block.search_two.Given as goal

abbrev pub invariant-loop-word : goal.invariant-loop-word
invariant-loop-word l = record {
  first : l.of_first ≡ found l.first (take l.i (block_of l.self).words);
  second : l.of_second ≡ found l.second (take l.i (block_of l.self).words);
  inside : l.i ≤ l.self.count;
}

abbrev pub decreases-loop-word : goal.decreases-loop-word
decreases-loop-word l = l.self.count - l.i
