use Rattle.std.proofs.Common.{◌≡◌, ◌∷◌, List, rules, sym, ap, ◌∙◌}
use Rattle.station_book.specs.Places.{with_new}
use Rattle.set_marks.specs.declared.zeniths.ZenithRange.{ZenithRange}
use Rattle.set_marks.specs.Ranging.{targets_in}
use Rattle.set_marks.specs.Zeniths.{with_reading}
use Rattle.set_marks.proofs.RangePlaces.{with_next, next_unique, targets_with}
use Rattle.set_marks.proofs.zeniths.ranges_of_many.Goals as goal

pub sights-preserved : goal.sights-preserved
sights-preserved c =
    let ranges = c.sights.ranges.items in
    let sight = c.in-Some.sight.now in
    let split : c.sights.left.now ≡ sight ∷ c.in-Some.rest.now = search rules in
    let added : c.add_at.new.ranges.items ≡ with_reading ranges sight = search rules in
    let named : c.place_by.new.names ≡ with_new (targets_in ranges) sight.target
    = search rules in
    record {
      found = with_next _ _ _ sight _ _ split added c.sights.invariant.found;
      unique = next_unique _ _ sight added c.sights.invariant.unique;
      names = named ∙ sym (targets_with ranges sight)
          ∙ ap (λ (l : List ZenithRange). targets_in l) (sym added);
    }
