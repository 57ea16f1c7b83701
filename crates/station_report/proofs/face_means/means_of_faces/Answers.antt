use Rattle.std.proofs.Common.{length}
use Rattle.station_report.proofs.TogetherLaws.{within_most}
use Rattle.station_report.proofs.face_means.means_of_faces.Goals as goal

pub over-requires-4-clause-bound : goal.over-requires-4-clause-bound
over-requires-4-clause-bound c =
    let few = rw c.station.ensures at c.obs.ensures.few in
    within_most (length c.args.surveyed.now.station.obs) c.faces_together.result.1.sum few
    c.faces_together.ensures.two_i.bound
