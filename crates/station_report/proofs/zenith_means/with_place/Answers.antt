use Rattle.std.proofs.Common.{◌≡◌, ◌∙◌, rules, sym}
use Rattle.station_report.specs.Columns.{each_place}
use Rattle.station_report.specs.Readings.{target_at, zenith_mean}
use Rattle.station_report.specs.Zeniths.{zenith_mean_at, zenith_of}
use Rattle.station_report.proofs.PlaceLaws.{kept}
use Rattle.station_report.proofs.ZenithLaws.{sums_more}
use Rattle.station_report.proofs.zenith_means.with_place.Goals as goal

pub returns-then-observation_at-target-clause-sums :
    goal.returns-then-observation_at-target-clause-sums
returns-then-observation_at-target-clause-sums c =
    let its = c.args.surveyed.now in
    let place = c.args.place in
    let same : target_at its.station place ≡ c.args.target =
    rw c.station.ensures at (sym c.observation_at.ensures.target ∙ c.if-observation_at-target.true)
    in
    let zenith = kept c.faces_at-faces.ensures.zenith (search rules) in
    let two_i = kept c.faces_at-faces.ensures.two_i (search rules) in
    let is : c.zenith_mean.result ≡ zenith_mean_at its place =
    c.zenith_mean.ensures.value ∙ (λ i. zenith_mean (zenith i) (two_i i)) in
    sums_more its c.args.target place c.zenith_mean.result c.with.result same is
    (c.with.ensures.sums (each_place place (zenith_of its c.args.target)) c.requires.sums)
