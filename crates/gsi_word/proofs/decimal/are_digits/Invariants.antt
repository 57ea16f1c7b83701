use Rattle.std.proofs.Common.{◌≡◌, take, not}
use Rattle.std.specs.Char.{is_ascii_digit}
use Rattle.std.specs.List.{list_all}
use Rattle.gsi_word.proofs.decimal.are_digits.Given as goal

abbrev pub invariant-loop-byte : goal.invariant-loop-byte
invariant-loop-byte l = not l.other ≡ list_all is_ascii_digit (take l.byte-index l.bytes)
