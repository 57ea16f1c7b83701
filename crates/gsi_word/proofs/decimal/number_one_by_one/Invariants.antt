use Rattle.std.proofs.Common.{◌≡◌, ◌^◌, ◌<◌, take, true}
use Rattle.std.specs.Char.{is_ascii_digit}
use Rattle.std.specs.List.{list_all}
use Rattle.gsi_word.specs.Angles.{decimal_value}
use Rattle.gsi_word.proofs.decimal.number_one_by_one.Given as goal

abbrev pub invariant-loop-byte : goal.invariant-loop-byte
invariant-loop-byte l = record {
  digits : list_all is_ascii_digit (take l.byte-index l.bytes) ≡ true;
  value : l.number ≡ decimal_value (take l.byte-index l.bytes);
  small : l.number < 10 ^ l.byte-index;
}
