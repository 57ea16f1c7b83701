use Rattle.std.proofs.Common.{sym, ap, ◌∙◌}
use Rattle.station_book.specs.Stations.{station_named}
use Rattle.station_book.proofs.names.StationNames.{found_named, none_named}
use Rattle.station_book.proofs.stations.Stations.get.Goals as goal

pub returns-in-Some : goal.returns-in-Some
returns-in-Some c = c.get.ensures.value
    ∙ found_named c.in-Some.name c.self.inside.surveyed.entries c.self.invariant
    ∙ (λ i. station_named (c.in-Some.ensures.some i) (c.self.view_is i))

pub returns-in-None : goal.returns-in-None
returns-in-None c =
    sym (none_named c.args.name.now c.self.inside.surveyed.entries c.self.invariant
    c.in-None.ensures.none) ∙ ap (station_named c.args.name.now) c.self.view_is
