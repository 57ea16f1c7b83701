use Rattle.std.proofs.Common.{◌≡◌, drop, flat_map}
use Rattle.station_check.specs.ListTexts.{surveyed_text, list_text}
use Rattle.station_check.proofs.Partway.{Partway}
use Rattle.station_check.proofs.list.print_stations.Given as goal

abbrev pub invariant-stations : goal.invariant-stations
invariant-stations g l = record {
  text : Partway (list_text l.stations) (flat_map surveyed_text (drop l.place l.stations))
      (g.W.Sink.holds l.fn.writer) l.fn.page (g.W.Sink.holds l.writer) l.page;
  failed : g.W.Sink.failed l.writer ≡ g.W.Sink.failed l.fn.writer;
}
