use Rattle.std.proofs.Common.{rules, ◌≡◌, None}
use Rattle.station_book.specs.State.{ending}
use Rattle.station_book.proofs.states.BookInvariant.{rest_all}
use Rattle.station_book.proofs.book.Book.finish_stations.Goals as goal

pub finish-requires : goal.finish-requires
finish-requires c =
    let e : ending c.self.inside.stage c.self.inside.stations ≡ None = search rules in
    rest_all c.self.inside.stage c.self.inside.stations c.self.invariant e
