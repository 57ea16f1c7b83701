use Rattle.std.proofs.Common.{◌∙◌}
use Rattle.station_book.proofs.lists.NameMaps.{inserted}
use Rattle.station_book.proofs.states.TargetMaps.{of_ok}
use Rattle.station_book.proofs.stations_so_far.push_station.Goals as goal

pub returns : goal.returns
returns c =
    of_ok _ c.insert.result c.unwrap.result c.unwrap.ensures c.insert.ensures.entries
    ∙ inserted c.args.stations.now.entries c.args.name c.args.station c.requires.new
