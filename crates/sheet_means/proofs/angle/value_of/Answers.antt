use Rattle.std.proofs.Common.{◌≡◌, pos, length, ◌+◌, ◌*◌, get_or, FitsSigned, w64, arith, ap, sym}
use Rattle.std.proofs.Common.{◌∙◌}
use Rattle.std.proofs.lemmas.Int.{to_z-of_z}
use Rattle.sheet_means.proofs.CompleteLaws.{any_obs}
use Rattle.sheet_means.proofs.ValueLaws.{place_inside, value_of-at}
use Rattle.sheet_means.proofs.angle.value_of.Goals as goal

pub bounds-obs-place : goal.bounds-obs-place
bounds-obs-place c =
    let inside = place_inside c.args.station.now c.obs.ensures.valid c.requires.complete c.args.set
    c.args.target c.requires.set c.requires.target in
    let targets = ap length c.targets.ensures.value in
    let obs = ap length c.obs.ensures.value in
    let products : c.args.set * length c.targets.result.now
    ≡ c.args.set * length c.args.station.now.targets = ap (λ n. c.args.set * n) targets in
    omega arith

pub returns-clause-value : goal.returns-clause-value
returns-clause-value c =
    let value = value_of-at c.args.station.now c.obs.ensures.valid c.requires.complete c.args.set
    c.args.target c.requires.set c.requires.target in
    let fits : FitsSigned w64 c.from.result = record { sfits = c.from.type_inv } in
    to_z-of_z w64 c.from.result fits
    ∙ c.from.ensures
    ∙ (λ i. pos (get_or (c.obs.ensures.value i) (c.args.set * length (c.targets.ensures.value i)
    + c.args.target) any_obs).value)
    ∙ sym value
