use Rattle.std.proofs.Common.{◌≡◌, drop, flat_map}
use Rattle.byte_digests.specs.DigestLines.{escaped}
use Rattle.byte_digests.proofs.Written.{Partly}
use Rattle.byte_digests.proofs.digest_line.write_name.Given as goal

abbrev pub invariant-name : goal.invariant-name
invariant-name g l = record {
  text : Partly (flat_map escaped l.fn.name) (flat_map escaped (drop l.byte-index l.fn.name))
      (g.W.Sink.holds l.fn.writer) (g.W.Sink.holds l.writer);
  failed : g.W.Sink.failed l.writer ≡ g.W.Sink.failed l.fn.writer;
}
