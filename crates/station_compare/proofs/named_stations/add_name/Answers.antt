use Rattle.std.proofs.Common.{◌≡◌, Some, None, ap, append_assoc, append-nil, option_copied, slice_get}
use Rattle.std.proofs.Common.{sym, ◌∙◌}
use Rattle.station_compare.specs.NameLists.{separator}
use Rattle.station_compare.proofs.named_stations.add_name.Goals as goal

pub returns-in-Some-clause-items : goal.returns-in-Some-clause-items
returns-in-Some-clause-items c =
    let name = c.in-Some.surveyed.now.station.name in
    let here : slice_get c.args.stations.now c.args.place ≡ Some c.in-Some.surveyed.now =
    sym c.at.ensures ∙ ap option_copied c.in-Some.is in
    rw (
      here,
      c.add-in-Some.ensures.items,
      c.add.ensures.items,
      c.separator.ensures.text,
      c.bytes.ensures.value,
      c.name.ensures.value,
      c.station.ensures,
    ) (append_assoc c.args.line.now.items (separator c.args.place) name)

pub returns-in_default-clause-items : goal.returns-in_default-clause-items
returns-in_default-clause-items c =
    let none : slice_get c.args.stations.now c.args.place ≡ None =
    sym c.at.ensures ∙ ap option_copied c.in_default.is in
    rw none (sym (append-nil c.args.line.now.items))
