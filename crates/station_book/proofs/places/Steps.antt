-- What a block does to the open set, its readings, the station, its sets and targets.
use Rattle.std.proofs.Common.{◌≡◌, ℕ, true, false, cond, ◌||◌, not, List, [], ◌∷◌, map, refl, ap}
use Rattle.std.proofs.lemmas.Bool.{and_parts, or_parts}
use Rattle.gsi_word.specs.Blocks.{GsiBlock}
use Rattle.station_book.specs.Blocks.{role_of, is_station, is_set_code, is_close, is_measurement}
use Rattle.station_book.specs.Blocks.{opens_station, opens_set, is_opening, has_direction, target}
use Rattle.station_book.specs.Blocks.{lacks}
use Rattle.station_book.specs.declared.role.Role.{Role}
use Rattle.station_book.specs.declared.role.Role.TheVariants as roles
use Rattle.station_book.specs.Places.{History, last, passes_at, is_open, is_set, is_reading}
use Rattle.station_book.specs.Places.{station, targets_of, distinct, with_new, target_at}
use Rattle.station_book.specs.Faults.{open_readings, open_sets}
use Rattle.station_book.proofs.places.Owners.{belonging-fresh, belonging-more, belonging-same}

-- After a block of code 10, 20 or 30 a set is open exactly where the code is 20.
pub is_open-opening : (b : GsiBlock) (past : History) → is_opening b ≡ true
    → is_open (b ∷ past) ≡ opens_set b
is_open-opening b past e = ap (λ v. passes_at opens_set (cond v (b ∷ past) (last is_opening past)))
    e

-- After any other block a set is open exactly where one was.
pub is_open-other : (b : GsiBlock) (past : History) → is_opening b ≡ false
    → is_open (b ∷ past) ≡ is_open past
is_open-other b past e = ap (λ v. passes_at opens_set (cond v (b ∷ past) (last is_opening past))) e

-- After a block of code 10, 20 or 30 no reading is of an open set.
pub readings-opening : (b : GsiBlock) (past : History) → is_opening b ≡ true
    → open_readings (b ∷ past) ≡ []
readings-opening b past e = belonging-fresh is_opening is_reading b past e

-- A reading is one more of the open set.
pub readings-more : (b : GsiBlock) (past : History) → is_opening b ≡ false
    → is_reading (b ∷ past) ≡ true → open_readings (b ∷ past) ≡ (b ∷ past) ∷ open_readings past
readings-more b past e r = belonging-more is_opening is_reading b past e r

-- A block that opens nothing and is no reading leaves the readings of the open set.
pub readings-other : (b : GsiBlock) (past : History) → is_opening b ≡ false
    → is_reading (b ∷ past) ≡ false → open_readings (b ∷ past) ≡ open_readings past
readings-other b past e r = belonging-same is_opening is_reading b past e r

-- a block without code 10 leaves the station
pub same_station : (b : GsiBlock) (past : History) → opens_station b ≡ false
    → station (b ∷ past) ≡ station past
same_station b past e = ap (λ v. cond v (b ∷ past) (last opens_station past)) e

-- After a block of code 10 the station has no set.
pub sets-station : (b : GsiBlock) (past : History) → opens_station b ≡ true
    → open_sets (b ∷ past) ≡ []
sets-station b past e = belonging-fresh opens_station is_set b past e

-- A block of code 20 is one more set of the station.
pub sets-more : (b : GsiBlock) (past : History) → opens_station b ≡ false → opens_set b ≡ true
    → open_sets (b ∷ past) ≡ (b ∷ past) ∷ open_sets past
sets-more b past e s = belonging-more opens_station is_set b past e s

-- Any other block leaves the sets of the station.
pub sets-other : (b : GsiBlock) (past : History) → opens_station b ≡ false → opens_set b ≡ false
    → open_sets (b ∷ past) ≡ open_sets past
sets-other b past e s = belonging-same opens_station is_set b past e s

-- the targets of the station that is open
abbrev pub open_targets : History → List (List ℕ)
open_targets past = targets_of (station past) past

-- A reading adds its target to those of the station, where it is new.
pub targets-more : (b : GsiBlock) (past : History) → opens_station b ≡ false
    → is_reading (b ∷ past) ≡ true
    → open_targets (b ∷ past) ≡ with_new (open_targets past) (target b)
targets-more b past e r = ap (λ rs. distinct (map (λ r. target_at r) rs))
    (belonging-more opens_station is_reading b past e r)

-- A block that opens no station and is no reading leaves the targets of the station.
pub targets-other : (b : GsiBlock) (past : History) → opens_station b ≡ false
    → is_reading (b ∷ past) ≡ false → open_targets (b ∷ past) ≡ open_targets past
targets-other b past e r = ap (λ rs. distinct (map (λ r. target_at r) rs))
    (belonging-same opens_station is_reading b past e r)

-- a measurement opens and closes nothing
pub direction_opens_nothing : (b : GsiBlock) → has_direction b ≡ true → is_opening b ≡ false
direction_opens_nothing b e = by (role_of b)
    (and_parts (is_measurement (role_of b)) (not (lacks 21 b)) e).0 where
      by : (r : Role) → is_measurement r ≡ true
          → (is_station r || (is_set_code r || is_close r)) ≡ false
      by roles.Measurement t = refl
      by r t = cc

-- A block without code 10, 20 and 30 opens no station.
pub opens_no_station : (b : GsiBlock) → is_opening b ≡ false → opens_station b ≡ false
opens_no_station b e = (or_parts (opens_station b) _ e).0

-- A block without code 10, 20 and 30 opens no set.
pub opens_no_set : (b : GsiBlock) → is_opening b ≡ false → opens_set b ≡ false
opens_no_set b e = (or_parts (opens_set b) _ (or_parts (opens_station b) _ e).1).0

-- A block that opens a set has the role of a set.
pub set_role : (b : GsiBlock) → opens_set b ≡ true → role_of b ≡ roles.Set
set_role b e = by (role_of b) e where
  by : (r : Role) → is_set_code r ≡ true → r ≡ roles.Set
  by roles.Set t = refl
  by r t = cc

-- A block with a direction is a measurement.
pub measurement_role : (b : GsiBlock) → has_direction b ≡ true → role_of b ≡ roles.Measurement
measurement_role b e = by (role_of b)
    (and_parts (is_measurement (role_of b)) (not (lacks 21 b)) e).0 where
      by : (r : Role) → is_measurement r ≡ true → r ≡ roles.Measurement
      by roles.Measurement t = refl
      by r t = cc

-- A block that opens a set opens no station.
pub no_station_at_set : (b : GsiBlock) → opens_set b ≡ true → opens_station b ≡ false
no_station_at_set b e = ap is_station (set_role b e)

-- A block that opens a station opens no set.
pub no_set_at_station : (b : GsiBlock) → opens_station b ≡ true → opens_set b ≡ false
no_set_at_station b e = by (role_of b) e where
  by : (r : Role) → is_station r ≡ true → is_set_code r ≡ false
  by roles.Set t = cc
  by r t = refl
