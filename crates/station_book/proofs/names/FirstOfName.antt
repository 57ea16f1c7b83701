-- A station that has a set is the first of its name that has one.
use Rattle.std.proofs.Common.{◌≡◌, Bool, false, ◌&&◌, ◌||◌, not, [], ◌∷◌, length, refl, sym, ap}
use Rattle.std.proofs.Common.{◌∙◌, inl, inr}
use Rattle.std.specs.List.{list_any}
use Rattle.std.proofs.lemmas.Bool.{cases_Bool, false≢true, eq-eqb, and_right}
use Rattle.gsi_word.specs.Blocks.{GsiBlock}
use Rattle.station_book.specs.Blocks.{opens_station, opens_set}
use Rattle.station_book.specs.Places.{History, Place, places, before, is_same, is_set, station}
use Rattle.station_book.specs.Places.{is_empty}
use Rattle.station_book.specs.Faults.{open_sets, had_sets, same_name, IsWithoutFault, name_at}
use Rattle.station_book.specs.Limits.{FaceLimits}
use Rattle.station_book.proofs.places.Steps.{sets-station, sets-other, same_station}
use Rattle.station_book.proofs.readings.CleanBlocks.{clean_set}

had_step : (b : GsiBlock) (past : History) → opens_station b ≡ false → had_sets past ≡ false
    → had_sets (b ∷ past) ≡ false
had_step b past n h =
    let test : Place → Place → Bool = λ o p. not (is_same (station (before p)) o) && same_name
    (name_at (station (before p))) (name_at o) in
    ap (λ o. list_any (λ p. is_set p && test o p) (places (b ∷ past))) (same_station b past n)
    ∙ ap (λ v. (opens_set b &&
    (not v && same_name (name_at (station past)) (name_at (station past)))) || had_sets past)
    (eq-eqb (length (station past)) (length (station past)) refl)
    ∙ ap (λ v. v || had_sets past) (and_right (opens_set b) false refl) ∙ h

-- Once a station has a set, its name had none before.
pub no_had_sets : (limits : FaceLimits) (past : History) → IsWithoutFault limits past
    → is_empty (open_sets past) ≡ false → had_sets past ≡ false
no_had_sets limits [] w e = absurd (false≢true (sym e))
no_had_sets limits (b ∷ past) w e = elim (cases_Bool (opens_station b)) [
  | inl n ↦ absurd (false≢true (sym e ∙ ap is_empty (sets-station b past n)))
  | inr n ↦ had_step b past n (elim (cases_Bool (opens_set b)) [
    | inl k ↦ (clean_set limits past b k w.0).first_time
    | inr k ↦ no_had_sets limits past w.1 (sym (ap is_empty (sets-other b past n k)) ∙ e)
  ])
]
