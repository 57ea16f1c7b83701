use Rattle.std.proofs.Common.{◌≡◌, ◌-◌, ◌≤◌, length, take}
use Rattle.std.specs.Io.KnownBytes.{Appends}
use Rattle.byte_ends.specs.Sink.{flushed_after}
use Rattle.byte_ends.proofs.sink.Sink.write_all.Given as goal

abbrev pub invariant-writing : goal.invariant-writing
invariant-writing g l = record {
  bound : l.written ≤ length l.bytes;
  held : Appends (g.Self.Sink.holds l.fn.self) (g.Self.Sink.holds l.self) (take l.written l.bytes);
  failed : g.Self.Sink.failed l.self ≡ g.Self.Sink.failed l.fn.self;
  flushed : g.Self.Sink.flushed l.self ≡ flushed_after
      (g.Self.Sink.flushed l.fn.self) l.written;
}

abbrev pub decreases-writing : goal.decreases-writing
decreases-writing g l = length l.bytes - l.written
