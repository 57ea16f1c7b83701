use Rattle.std.proofs.Common.{◌∙◌, ap, refl, sym}
use Rattle.std.specs.Option.{option_map_or}
use Rattle.station_report.specs.Readings.{value_at}
use Rattle.station_report.proofs.FrontLaws.{first_of_set}
use Rattle.station_report.proofs.readings.first_value.Goals as goal

pub observation_at-requires : goal.observation_at-requires
observation_at-requires c =
    (first_of_set c.args.station.now.obs c.observation_at-set.result.set 0
    c.front_of.ensures.valid.obs.ordered c.args.place c.front_of.result c.requires refl
    c.observation_at-set.ensures.set c.front_of.ensures.front).0

pub returns-clause-value : goal.returns-clause-value
returns-clause-value c =
    let first = first_of_set c.args.station.now.obs c.observation_at-set.result.set 0
    c.front_of.ensures.valid.obs.ordered c.args.place c.front_of.result c.requires refl
    c.observation_at-set.ensures.set c.front_of.ensures.front in
    c.observation_at.ensures.value
    ∙ sym (ap (λ place. option_map_or (value_at c.args.station.now) place 0) first.1)
