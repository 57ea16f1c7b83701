use Rattle.std.proofs.Common.{◌≡◌, ◌+◌, ◌-◌, ◌*◌, length}
use Rattle.byte_ends.specs.Source.{Through, reader_change}
use Rattle.gsi_file.proofs.Finding.{Searching, SameAnswers}
use Rattle.gsi_file.proofs.search.find_line.Given as goal

abbrev pub invariant-search : goal.invariant-search
invariant-search g l = record {
  searching : Searching l.fn.room l.left l.searched l.buffer;
  through : Through
      (reader_change g.R.Source.told g.R.Source.failed g.R.Source.gave l.fn.reader l.reader)
      (λ before after. SameAnswers before l.fn.room l.fn.buffer after l.left l.buffer);
  unfailed : g.R.Source.failed l.reader ≡ g.R.Source.failed l.fn.reader;
}

abbrev pub decreases-search : goal.decreases-search
decreases-search g l = 2 * (l.left - l.searched) + (1 - (length l.buffer - l.searched))
