use Rattle.std.proofs.Common.{◌≡◌, ◌≢◌, ◌∙◌, sym}
use Rattle.std.proofs.lemmas.List.{append-nil}
use Rattle.std.proofs.lemmas.Bool.{eq-eqb, ne_eqb}
use Rattle.station_report.specs.Readings.{set_at}
use Rattle.station_report.proofs.by_set.OfSetLines.add.Goals as goal

pub returns-then-observation_at-self : goal.returns-then-observation_at-self
returns-then-observation_at-self g c =
    let its = c.args.self.now in
    let same : set_at its.station.now c.args.place ≡ its.set =
    sym c.observation_at.ensures.set ∙ c.if-observation_at-self.true in
    rw (eq-eqb (set_at its.station.now c.args.place) its.set same) c.add.ensures

pub returns : goal.returns
returns g c =
    let its = c.args.self.now in
    let other : set_at its.station.now c.args.place ≢ its.set =
    λ e. c.if-observation_at-self.false (c.observation_at.ensures.set ∙ e) in
    rw (ne_eqb (set_at its.station.now c.args.place) its.set other) (sym (append-nil _))
