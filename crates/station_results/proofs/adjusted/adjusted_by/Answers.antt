use Rattle.std.proofs.Common.{◌≡◌, ◌∙◌, ◌+◌, ◌<◌, ◌++◌, ◌∷◌, [], List, length, map, take}
use Rattle.std.proofs.Common.{ap, arith, get_or, sym, subst}
use Rattle.std.proofs.lemmas.List.{map-append, take_all, take_more}
use Rattle.std.proofs.lemmas.Slice.Zip.{all_zipped_more}
use Rattle.std.specs.List.{AllZip}
use Rattle.adjust_kernel.specs.Matching.{key_of_obs}
use Rattle.exact_adjustment.proofs.SideLaws.{length-turned}
use Rattle.exact_adjustment.specs.Adjustments.{choice_by}
use Rattle.exact_adjustment.specs.Exact.{observed_by}
use Rattle.station_results.specs.Adjusting.{IsRowOf}
use Rattle.station_results.specs.Residuals.{key_of}
use Rattle.station_results.specs.declared.adjusted.AdjustedObs.{AdjustedObs}
use Rattle.station_results.proofs.ReadLaws.{any_obs, any_turned, limited_there, there}
use Rattle.station_results.proofs.ReadLaws.{turn_kept, turned_there}
use Rattle.station_results.proofs.adjusted.adjusted_by.Goals as goal

pub adjusted_obs-requires-clause-limited : goal.adjusted_obs-requires-clause-limited
adjusted_obs-requires-clause-limited c =
    limited_there c.args.station.now c.args.adjustment.now c.requires.exact c.loop-place.place
    (omega (arith, ap length c.obs-obs.ensures.value, c.loop-place-test.true)) 2_000
    c.requires.limited _ _ c.obs-obs.ensures.value c.turns-turns.ensures.value

pub loop-place-preserved : goal.loop-place-preserved
loop-place-preserved c =
    let station = c.args.station.now in
    let a = c.args.adjustment.now in
    let l = c.loop-place in
    let exact = c.requires.exact in
    let count = ap length c.obs-obs.ensures.value in
    let inside : l.place < length station.obs = omega (arith, count, c.loop-place-test.true) in
    let made = l.rows.items in
    let row = c.adjusted_obs.result in
    let one = get_or station.obs l.place any_obs in
    let items = c.in_ok-push.ensures.items in
    let key : key_of row ≡ key_of_obs station.sets station.targets one =
    rw c.obs-obs.ensures.value at c.adjusted_obs.ensures.key in
    let its = rw (
      c.obs-obs.ensures.value,
      c.turns-turns.ensures.value,
      turn_kept station a exact l.place inside,
    ) at c.adjusted_obs.ensures.row in
    let here : IsRowOf (choice_by a) (get_or (observed_by station a) l.place any_turned) row =
    subst (λ r. IsRowOf (choice_by a) r row)
    (sym (turned_there station a exact l.place inside)) its in
    let more : map (key_of_obs station.sets station.targets) (take (l.place + 1) station.obs)
    ≡ map (key_of_obs station.sets station.targets) (take l.place station.obs)
    ++ (key_of_obs station.sets station.targets (get_or station.obs l.place any_obs) ∷ []) =
    ap (map (key_of_obs station.sets station.targets)) (take_more station.obs l.place any_obs inside)
    ∙ map-append (key_of_obs station.sets station.targets) (take l.place station.obs)
    (one ∷ []) in
    record {
      keys = ap (map key_of) items ∙ map-append key_of made (row ∷ [])
          ∙ (λ i. l.invariant.keys i ++ (key i ∷ [])) ∙ sym more;
      each = subst (λ (rows : List AdjustedObs). AllZip (IsRowOf (choice_by a))
          (take (l.place + 1) (observed_by station a)) rows) (sym items)
          (rw (take_more (observed_by station a) l.place any_turned
          (there station a exact l.place inside)) (all_zipped_more (IsRowOf (choice_by a))
          (take l.place (observed_by station a)) made _ row l.invariant.each here));
    }

pub returns-clause-each : goal.returns-clause-each
returns-clause-each c =
    let station = c.args.station.now in
    let a = c.args.adjustment.now in
    let l = c.loop-place in
    let count = ap length c.obs-obs.ensures.value in
    let whole = take_all l.place (observed_by station a)
    (omega (
      arith,
      count,
      length-turned station.obs a.turns c.requires.exact.each,
      c.loop-place-test.false,
    )) in
    subst (λ os. AllZip (IsRowOf (choice_by a)) os l.rows.items) whole l.invariant.each
