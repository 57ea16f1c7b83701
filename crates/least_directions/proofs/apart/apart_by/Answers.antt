use Rattle.directions_apart.specs.Apart.{stated_by}
use Rattle.least_directions.proofs.LeastLaws.{are_apart}
use Rattle.least_directions.proofs.apart.apart_by.Goals as goal

pub returns : goal.returns
returns c =
    are_apart c.args.station.now c.obs.ensures.valid c.args.adjustment.now c.requires.tied
    c.requires.exact c.requires.limited (stated_by c.args.stated.now) c.args.off c.apart_of.result
    (rw c.requires.each at c.apart_of.ensures.apart)
