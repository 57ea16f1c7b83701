use Rattle.std.proofs.Common.{◌≡◌, ◌≤◌, ◌*◌, length, take, flat_map}
use Rattle.byte_digests.specs.DigestLines.{escaped}
use Rattle.byte_digests.proofs.put_line.escaped_length.Given as goal

abbrev pub invariant-name : goal.invariant-name
invariant-name l = record {
  value : l.length ≡ length (flat_map escaped (take l.byte-index l.fn.name));
  bound : l.length ≤ 2 * l.byte-index;
}
