use Rattle.std.proofs.Common.{rules}
use Rattle.std.proofs.lemmas.List.Sorted.{IsPartitionPoint-from_clause}
use Rattle.station_report.specs.Fronts.{stands_before}
use Rattle.station_report.proofs.FrontLaws.{parted}
use Rattle.station_report.proofs.place_of.front_of.Goals as goal

pub returns-clause-front : goal.returns-clause-front
returns-clause-front c =
    let obs = c.args.station.now.obs in
    let set = c.args.set in
    let target = c.args.target in
    let clause = rw c.obs.ensures.value at c.partition_point.ensures.partitioned in
    let front = IsPartitionPoint-from_clause (stands_before set target) obs
    c.partition_point.result clause (parted obs set target c.obs.ensures.valid.obs.ordered)
    (λ a r f' k. search rules) in
    record { inside = search rules; before = front.0; from = front.1 }
