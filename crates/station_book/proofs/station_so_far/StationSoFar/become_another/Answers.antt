use Rattle.std.proofs.Common.{rules, ◌≡◌, length, ap, sym, subst, ◌∙◌}
use Rattle.adjust_kernel.specs.Stations.{IsStation, station_of}
use Rattle.station_book.specs.StationState.{MayEnd, closed}
use Rattle.station_book.proofs.states.StationInvariant.{state_of_parts, is_station, closed_paired}
use Rattle.station_book.proofs.station_so_far.StationSoFar.become_another.Goals as goal

pub from_valid-station-requires : goal.from_valid-station-requires
from_valid-station-requires c =
    let e = state_of_parts c.self.inside.targets c.self.inside.sets.items c.self.inside.obs.items
    c.self.inside.faces.items in
    let may : MayEnd e = subst MayEnd (sym c.self.view_is) c.requires.may_end in
    let names : c.in_ok-targets.targets.items ≡ e.targets = search rules in
    let sets : c.replace-sets.result.items ≡ e.sets = search rules in
    let obs : c.replace-obs.result.items ≡ (closed e).obs = search rules in
    subst IsStation (λ i. station_of c.args.name (sym names i) (sym sets i) (sym obs i))
    (is_station c.args.name e c.recall.ensures c.self.invariant may)

pub invariant_of-result : goal.invariant_of-result
invariant_of-result c =
    let e = state_of_parts c.self.inside.targets c.self.inside.sets.items c.self.inside.obs.items
    c.self.inside.faces.items in
    let faces : c.replace-faces.result.items ≡ (closed e).faces = search rules in
    let obs : c.from_valid-station.result.obs ≡ (closed e).obs = search rules in
    ap length faces ∙ closed_paired e c.self.invariant ∙ sym (ap length obs)
