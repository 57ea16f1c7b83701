use Rattle.std.proofs.Common.{◌≡◌, ℕ, IfNone, IfSome, List, None, Option, Some, rules}
use Rattle.refusal_places.specs.NamedPlaces.{named_in}
use Rattle.refusal_places.specs.Places.{IsPlace}
use Rattle.refusal_places.specs.declared.place.Place.{Place}
use Rattle.station_page.specs.Placed.{IsPlaceIn}
use Rattle.station_page.proofs.place.text_of.Goals as goal

-- What is found of a line.
found : (line gsi other : List ℕ) (place : Option Place) → IfSome place (IsPlace line gsi other)
    → IfNone place (named_in line ≡ None) → IsPlaceIn line gsi other place
found line gsi other (Some place) is none = is
found line gsi other None is none = none

pub returns : goal.returns
returns c = record {
  place = c.place_in.result;
  is_place = found c.args.line.now c.args.gsi.now c.args.other.now c.place_in.result
      c.place_in.ensures.place c.place_in.ensures.none;
  text_is = search rules;
}
