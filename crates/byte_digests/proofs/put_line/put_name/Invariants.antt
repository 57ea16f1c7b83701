use Rattle.std.proofs.Common.{take, flat_map}
use Rattle.byte_digests.specs.DigestLines.{escaped}
use Rattle.byte_digests.specs.PutAt.{IsPut}
use Rattle.byte_digests.proofs.put_line.put_name.Given as goal

abbrev pub invariant-name : goal.invariant-name
invariant-name l =
    IsPut (flat_map escaped (take l.byte-index l.fn.name)) l.fn.at l.fn.out l.out l.end
