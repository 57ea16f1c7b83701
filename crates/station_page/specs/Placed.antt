-- Where a refusal stands, as it is handed out.
use Rattle.std.specs.Prelude.{◌≡◌, ℕ, List, Option, Some, None}
use Rattle.refusal_places.specs.NamedPlaces.{named_in}
use Rattle.refusal_places.specs.PlaceTexts.{place_text}
use Rattle.refusal_places.specs.Places.{IsPlace}
use Rattle.refusal_places.specs.declared.place.Place.{Place}

-- The line names this, and so it stands in these files; or it names nothing.
abbrev pub IsPlaceIn : List ℕ → List ℕ → List ℕ → Option Place → Type 0
IsPlaceIn line gsi other (Some place) = IsPlace line gsi other place
IsPlaceIn line gsi other None = named_in line ≡ None

-- The text is the row of that.
pub record IsPlaceText (line gsi other text : List ℕ) : Type 0 where
  pub place : Option Place
  pub is_place : IsPlaceIn line gsi other place
  pub text_is : text ≡ place_text place
