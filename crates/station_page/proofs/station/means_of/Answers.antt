use Rattle.std.proofs.Common.{◌≡◌, Some, ap, rules}
use Rattle.byte_ends.proofs.Coming.{came_as_told}
use Rattle.station_check.specs.Came.{source_of}
use Rattle.station_page.proofs.station.means_of.Goals as goal

pub returns-in_default-clause-writes : goal.returns-in_default-clause-writes
returns-in_default-clause-writes c =
    let told = came_as_told _ _ c.write_means.ensures.1.means.came (source_of c.args.gsi.now)
    (ap Some c.source_of.ensures) in
    let here = rw c.new-text.ensures.empty at told in
    let same : c.in_default-1.answer ≡ c.write_means.result = search rules in rw same here
