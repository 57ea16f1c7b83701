use Rattle.std.proofs.Common.{◌≡◌, ◌++◌, drop}
use Rattle.instrument_words.specs.Below.{put_on_pages}
use Rattle.instrument_words.specs.declared.below.TheConstants.{LINES_ABOVE}
use Rattle.instrument_words.proofs.below.push_pages.Given as goal

abbrev pub invariant-loop-byte : goal.invariant-loop-byte
invariant-loop-byte l =
    l.whole.items ++ put_on_pages l.above l.lines (drop l.byte-index l.text)
    ≡ l.fn.whole.items ++ put_on_pages LINES_ABOVE l.lines l.text
