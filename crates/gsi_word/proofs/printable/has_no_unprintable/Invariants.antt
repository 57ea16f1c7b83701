use Rattle.std.proofs.Common.{◌≡◌, take, not}
use Rattle.std.specs.List.{list_all}
use Rattle.gsi_word.specs.Layout.{is_printable}
use Rattle.gsi_word.proofs.printable.has_no_unprintable.Given as goal

abbrev pub invariant-loop-byte : goal.invariant-loop-byte
invariant-loop-byte l = not l.unprintable ≡ list_all is_printable (take l.byte-index l.bytes)
