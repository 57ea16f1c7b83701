use Rattle.std.proofs.Common.{◌≡◌, ◌∷◌, rules}
use Rattle.set_marks.specs.Zeniths.{with_reading}
use Rattle.set_marks.proofs.RangePlaces.{with_next, next_unique}
use Rattle.set_marks.proofs.zeniths.ranges_of_few.Goals as goal

pub sights-preserved : goal.sights-preserved
sights-preserved c =
    let sight = c.in-Some.sight.now in
    let split : c.sights.left.now ≡ sight ∷ c.in-Some.rest.now = search rules in
    let added : c.add_at.new.ranges.items ≡ with_reading c.sights.ranges.items sight
    = search rules in
    record {
      found = with_next _ _ _ sight _ _ split added c.sights.invariant.found;
      unique = next_unique _ _ sight added c.sights.invariant.unique;
    }
