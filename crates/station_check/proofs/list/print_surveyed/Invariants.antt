use Rattle.std.proofs.Common.{◌≡◌, drop, flat_map, zip}
use Rattle.adjust_kernel.specs.Matching.{observed}
use Rattle.station_check.specs.ListTexts.{observation_line, surveyed_text}
use Rattle.station_check.proofs.Partway.{Partway}
use Rattle.station_check.proofs.list.print_surveyed.Given as goal

abbrev pub invariant-observations : goal.invariant-observations
invariant-observations g l = record {
  text : Partway (surveyed_text l.surveyed)
      (flat_map (λ o. observation_line o.0 o.1)
      (drop l.place (zip (observed l.surveyed.station) l.surveyed.faces)))
      (g.W.Sink.holds l.fn.writer) l.fn.page (g.W.Sink.holds l.writer) l.page;
  failed : g.W.Sink.failed l.writer ≡ g.W.Sink.failed l.fn.writer;
}
