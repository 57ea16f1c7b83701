use Rattle.std.proofs.Common.{◌≡◌, Some, None, length, refl, rules, slice_get}
use Rattle.std.proofs.lemmas.Option.{slice_get_past, slice_get_read}
use Rattle.station_compare.proofs.named_in_station.add_observed.Goals as goal

pub returns-in-Some-clause-items : goal.returns-in-Some-clause-items
returns-in-Some-clause-items c =
    let obs = c.args.station.now.obs in
    let place = c.args.place in
    let lookup = rw c.obs.ensures.value at c.in-Some.ensures.lookup in
    let here : slice_get obs place ≡ Some c.in-Some.observed.now =
    slice_get_read obs (length obs) place c.in-Some.observed.now refl lookup.3.0 lookup.1 in
    rw here (search rules)

pub returns-in_default-clause-items : goal.returns-in_default-clause-items
returns-in_default-clause-items c =
    let lookup = rw c.obs.ensures.value at c.in_default.ensures.lookup in
    let none : slice_get c.args.station.now.obs c.args.place ≡ None =
    slice_get_past c.args.station.now.obs c.args.place lookup.3 in
    rw none (search rules)
