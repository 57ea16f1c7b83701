use Rattle.std.proofs.Common.{◌≡◌}
use Rattle.std.specs.List.{list_any}
use Rattle.gsi_word.specs.BlockViews.{block_of, words_left}
use Rattle.set_marks.specs.Stations.{begins_line, is_two_lines}
use Rattle.set_marks.proofs.reading.has_later_beginning.Given as goal

abbrev pub invariant-loop-word : goal.invariant-loop-word
invariant-loop-word l =
    list_any begins_line (words_left l.word-iterator) ≡ is_two_lines (block_of l.fn.block)
