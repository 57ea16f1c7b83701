use Rattle.std.proofs.Common.{slice_set, ap, ◌∙◌, arith}
use Rattle.indexmap.specs.Layout.{length-set_value_at}
use Rattle.station_book.specs.Targets.{TargetsValue}
use Rattle.station_book.proofs.states.TargetMaps.{same_keys, set_value}
use Rattle.station_book.proofs.targets.Targets.set.Goals as goal

pub invariant_of-self : goal.invariant_of-self
invariant_of-self c =
    let long = length-set_value_at c.self.inside.slots.entries c.args.place c.args.slot in
    let room = c.self.invariant in omega (arith, room, long)

pub returns-clause-names : goal.returns-clause-names
returns-clause-names c = same_keys c.self.inside.slots.entries c.args.place c.args.slot
    ∙ ap (λ (t : TargetsValue). t.names) c.self.view_is

pub returns-clause-slots : goal.returns-clause-slots
returns-clause-slots c = set_value c.self.inside.slots.entries c.args.place c.args.slot
    ∙ ap (λ (t : TargetsValue). slice_set t.slots c.args.place c.args.slot) c.self.view_is
