use Rattle.std.proofs.Common.{◌≡◌, ◌<◌, ◌≤◌, ℕ, Some, length, slice_get, rules}
use Rattle.std.proofs.Common.{refl, ap, sym, subst, ◌∙◌}
use borrow.Author.Count.{falls}
use Rattle.adjust_kernel.specs.Matching.{key_of_obs}
use Rattle.adjust_kernel.specs.Stations.{StationValue}
use Rattle.station_check.specs.ListTexts.{observation_line, surveyed_text}
use Rattle.station_check.proofs.ListLaws.{next_pair, no_pair_left}
use Rattle.station_check.proofs.Partway.{in_any_case, partway_none, partway_more, partway_some}
use Rattle.station_check.proofs.Partway.{partway_all}
use Rattle.station_check.proofs.list.print_surveyed.Goals as goal

pub add_station-requires : goal.add_station-requires
add_station-requires g c = c.in_ok-make_room.ensures.room

pub observations-init : goal.observations-init
observations-init g c = record {
  text = partway_more _ _ _ _ _ _ _ _ _ c.make_room.new.self _
      (partway_none (surveyed_text c.args.surveyed.now) _ _) c.in_ok-make_room.ensures.ok
      (rw c.station-station.ensures at c.add_station.ensures) refl;
  failed = c.in_ok-make_room.ensures.failed;
}

pub observation_at-observation-requires : goal.observation_at-observation-requires
observation_at-observation-requires g c =
    rw c.obs-place-end.ensures.value at c.observations-test.true

pub differences_at-differences-requires : goal.differences_at-differences-requires
differences_at-differences-requires g c =
    let inside = rw c.obs-place-end.ensures.value at c.observations-test.true in
    let as_many : length c.station-station.result.now.obs ≡ length c.faces-faces.result.now =
    ap (λ (t : StationValue). length t.obs) c.station-station.ensures
    ∙ sym c.faces-faces.ensures.one_each ∙ ap length (sym c.faces-faces.ensures.value) in
    subst (λ (n : ℕ). c.observations.place < n) as_many inside

pub add_observation-requires-clause-room : goal.add_observation-requires-clause-room
add_observation-requires-clause-room g c = c.in_ok-make_room-2.ensures.room

pub add_observation-requires-clause-set_in : goal.add_observation-requires-clause-set_in
add_observation-requires-clause-set_in g c = c.observation_at-observation.ensures.set_in

pub add_observation-requires-clause-target_in : goal.add_observation-requires-clause-target_in
add_observation-requires-clause-target_in g c = c.observation_at-observation.ensures.target_in

pub observations-smaller : goal.observations-smaller
observations-smaller g c = falls _ _ c.observations-test.true

pub returns-clause-failed : goal.returns-clause-failed
returns-clause-failed g c = c.observations.invariant.failed

pub returns-in_err-make_room-clause-cut_short : goal.returns-in_err-make_room-clause-cut_short
returns-in_err-make_room-clause-cut_short g c =
    in_any_case c.from_residual.result
    (partway_some _ _ _ _ _ _ _
    (partway_none (surveyed_text c.args.surveyed.now) _ _) c.in_err-make_room.ensures.cut_short)

pub returns-in_err-make_room-2-clause-cut_short : goal.returns-in_err-make_room-2-clause-cut_short
returns-in_err-make_room-2-clause-cut_short g c =
    in_any_case c.from_residual-in_err-make_room-2.result
    (partway_some _ _ _ _ _ _ _ c.observations.invariant.text
    c.in_err-make_room-2.ensures.cut_short)

pub observations-preserved : goal.observations-preserved
observations-preserved g c =
    let s = c.args.surveyed.now in
    let place = c.observations.place in
    let station_is = c.station-station.ensures in
    let o : slice_get s.station.obs place ≡ Some c.observation_at-observation.result =
    ap (λ (t : StationValue). slice_get t.obs place) (sym station_is)
    ∙ c.observation_at-observation.ensures.here in
    let f : slice_get s.faces place ≡ Some c.differences_at-differences.result =
    ap (λ (xs : _). slice_get xs place) (sym c.faces-faces.ensures.value)
    ∙ c.differences_at-differences.ensures in
    record {
      text = partway_more _ _ _ _ _ _ _ _ _ c.make_room-in-observations.new.self _
          c.observations.invariant.text c.in_ok-make_room-2.ensures.ok
          (rw station_is at c.add_observation.ensures)
          (next_pair (key_of_obs s.station.sets s.station.targets)
          (λ o. observation_line o.0 o.1) s.station.obs s.faces place
          c.observation_at-observation.result c.differences_at-differences.result o f);
      failed = c.in_ok-make_room-2.ensures.failed ∙ c.observations.invariant.failed;
    }

pub returns-clause-ok : goal.returns-clause-ok
returns-clause-ok g c =
    let s = c.args.surveyed.now in
    let past : length s.station.obs ≤ c.observations.place = search rules in
    partway_all _ _ _ _ _ _ c.observations.invariant.text
    (no_pair_left (key_of_obs s.station.sets s.station.targets)
    (λ o. observation_line o.0 o.1) s.station.obs s.faces c.observations.place past)
