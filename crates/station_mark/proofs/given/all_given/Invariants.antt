use Rattle.std.proofs.Common.{◌≡◌, ◌+◌, ◌-◌, vec_len}
use Rattle.byte_ends.specs.Source.{HasGiven, reader_change}
use Rattle.station_mark.proofs.given.all_given.Given as goal

abbrev pub invariant-reading : goal.invariant-reading
invariant-reading g l = record {
  given : HasGiven (reader_change g.S.Source.told g.S.Source.failed g.S.Source.gave l.fn.source
      l.source) l.bytes.items;
  unfailed : g.S.Source.failed l.source ≡ g.S.Source.failed l.fn.source;
}

abbrev pub decreases-reading : goal.decreases-reading
decreases-reading g l = l.fn.most + 1 - vec_len l.bytes
