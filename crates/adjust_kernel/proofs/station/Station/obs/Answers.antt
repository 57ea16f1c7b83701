use Rattle.std.proofs.Common.{length, ◌≤◌, subst}
use Rattle.adjust_kernel.specs.declared.bounds.TheConstants.{MOST_ROWS}
use Rattle.adjust_kernel.specs.Stations.{StationValue}
use Rattle.adjust_kernel.proofs.ObsLaws.{few_obs}
use Rattle.adjust_kernel.proofs.station.Station.obs.Goals as goal

pub returns-clause-few : goal.returns-clause-few
returns-clause-few c =
    let s = c.self.inside in
    let i = c.self.invariant in
    subst (λ (s : StationValue). length s.obs ≤ MOST_ROWS) c.self.view_is
    (few_obs (length s.sets.items) (length s.targets.items) s.obs.items i.obs i.sets.few
    i.targets.few)
