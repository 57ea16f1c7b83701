-- The stated targets among all: how many, and where.
use Rattle.std.proofs.Common.{◌≡◌, ◌∙◌, ℕ, zero, suc, ◌+◌, ◌*◌, ◌≤◌, ◌<◌, List, [], ◌∷◌, length}
use Rattle.std.proofs.Common.{map, All, Option, Some, None, get_or, ℤ, pos, true, arith, ap, refl}
use Rattle.std.proofs.Common.{subst, sym}
use Rattle.std.proofs.lemmas.List.{get_or-map, get_or_default}
use Rattle.std.proofs.lemmas.List.Recursion.{is_count_by}
use Rattle.std.proofs.Math.IntN.{◌*ℤ◌, ◌-ℤ◌}
use Rattle.std.specs.List.{count_by, enumerate_from, filter_map, list_all}
use Rattle.std.specs.Option.{is_some, option_map, unwrap_or}
use Rattle.std.specs.Prelude.{cond}
use Rattle.adjust_kernel.proofs.Ring.{num, ◌⊖◌, ◌⊗◌, same_value}
use Rattle.adjust_kernel.specs.Residuals.{Choice}
use Rattle.directions_apart.proofs.ApartLaws.{AreTurned}
use Rattle.directions_apart.specs.Apart.{stated_by}
use Rattle.station_differences.specs.StatedTargets.{IsEnough, choice_at, stated_directions}
use Rattle.station_differences.specs.StatedTargets.{stated_places}

-- The places of the stated ones among targets that stand at this place and after it.
abbrev pub places_from : ℕ → List (Option ℤ) → List ℕ
places_from n stated = filter_map (λ t. option_map (λ _. t.0) t.1) (enumerate_from n stated)

-- a direction at each place: 0 where none is stated
abbrev pub at_each_place : List (Option ℤ) → List ℤ
at_each_place stated = map (λ direction. unwrap_or direction (pos 0)) stated

-- There are as many places as stated directions,
pub places_count : (n : ℕ) (stated : List (Option ℤ))
    → length (places_from n stated) ≡ length (stated_directions stated)
places_count n [] = refl
places_count n (None ∷ stated) = places_count (n + 1) stated
places_count n (Some d ∷ stated) = ap (λ (k : ℕ). suc k) (places_count (n + 1) stated)

-- and as many as targets that are stated.
pub directions_count : (stated : List (Option ℤ))
    → length (stated_directions stated) ≡ count_by is_some stated
directions_count = is_count_by (λ stated. length (stated_directions stated)) is_some refl one_more
  where
    one_more : (d : Option ℤ) (stated : List (Option ℤ))
        → length (stated_directions (d ∷ stated))
        ≡ cond (is_some d) (1 + length (stated_directions stated))
        (length (stated_directions stated))
    one_more None stated = refl
    one_more (Some d) stated = omega arith

-- Where enough of some targets are stated, some are.
pub some_stated : (stated : List (Option ℤ)) → 1 ≤ length stated → IsEnough stated
    → 1 ≤ length (stated_places stated)
some_stated [] some enough = absurd (omega (arith, some))
some_stated (Some d ∷ stated) some enough = omega arith
some_stated (None ∷ stated) some enough =
    let places = places_count 0 (None ∷ stated) in
    let count = directions_count (None ∷ stated) in
    let two : 2 ≤ count_by is_some (None ∷ stated) = grind (arith, enough) in
    omega (arith, places, count, two)

-- Where the direction of a stated target stands.
pub record IsPlaceOf (n : ℕ) (stated : List (Option ℤ)) (i : ℕ) : Type 0 where
  pub place : ℕ
  pub inside : place < length stated
  pub is : get_or (places_from n stated) i 0 ≡ n + place
  pub here : get_or stated place None ≡ Some (get_or (stated_directions stated) i (pos 0))

-- A place among targets that stand after one more.
further : (n : ℕ) (o : Option ℤ) (stated : List (Option ℤ)) (i j : ℕ)
    → get_or (places_from n (o ∷ stated)) j 0 ≡ get_or (places_from (n + 1) stated) i 0
    → get_or (stated_directions (o ∷ stated)) j (pos 0) ≡ get_or (stated_directions stated) i (pos 0)
    → IsPlaceOf (n + 1) stated i → IsPlaceOf n (o ∷ stated) j
further n o stated i j same direction p =
    let inside = p.inside in
    let is = p.is in
    record {
      place = suc p.place;
      inside = omega (arith, inside);
      is = omega (arith, same, is);
      here = p.here ∙ ap Some (sym direction);
    }

pub place_of : (n : ℕ) (stated : List (Option ℤ)) (i : ℕ) → i < length (places_from n stated)
    → IsPlaceOf n stated i
place_of n [] i h = absurd (omega (arith, h))
place_of n (None ∷ stated) i h =
    further n None stated i i refl refl (place_of (n + 1) stated i h)
place_of n (Some d ∷ stated) zero h = record {
  place = 0;
  inside = omega arith;
  is = omega arith;
  here = refl;
}
place_of n (Some d ∷ stated) (suc i) h =
    further n (Some d) stated i (suc i) refl refl (place_of (n + 1) stated i (omega (arith, h)))

-- Each is a place of a target.
pub all_inside : (stated : List (Option ℤ))
    → All (λ place. place < length stated) (stated_places stated)
all_inside stated = λ i other h.
    (let p = place_of 0 stated i h in
    let inside = p.inside in
    let is = p.is in
    subst (λ (place : ℕ). place < length stated) (get_or_default (stated_places stated) i 0 other h)
    (omega (arith, inside, is)))

-- What stands there is what is stated of it.
pub at_place : (stated : List (Option ℤ)) (i : ℕ) → i < length (stated_places stated)
    → stated_by (at_each_place stated) (get_or (stated_places stated) i 0)
    ≡ stated_by (stated_directions stated) i
at_place stated i h =
    let p = place_of 0 stated i h in
    let is = p.is in
    let place : get_or (stated_places stated) i 0 ≡ p.place = omega (arith, is) in
    ap (λ (k : ℕ). get_or (at_each_place stated) k (pos 0)) place
    ∙ get_or-map (λ direction. unwrap_or direction (pos 0)) stated p.place None (pos 0) p.inside
    ∙ ap (λ direction. unwrap_or direction (pos 0)) p.here

-- Where all are stated, enough are,
all_some : (directions : List ℤ) → list_all is_some (map Some directions) ≡ true
all_some [] = refl
all_some (d ∷ directions) = all_some directions

pub all_enough : (directions : List ℤ) → IsEnough (map Some directions)
all_enough directions = let all = all_some directions in cc

-- and the stated ones are all.
pub all_directions : (directions : List ℤ) → stated_directions (map Some directions) ≡ directions
all_directions [] = refl
all_directions (d ∷ directions) = λ i. d ∷ all_directions directions i

pub all_places : (n : ℕ) (directions : List ℤ)
    → length (places_from n (map Some directions)) ≡ length directions
all_places n [] = refl
all_places n (d ∷ directions) = ap (λ (k : ℕ). suc k) (all_places (n + 1) directions)

its_place : (n : ℕ) (directions : List ℤ) (i : ℕ) → i < length directions
    → get_or (places_from n (map Some directions)) i 0 ≡ n + i
its_place n [] i h = absurd (omega (arith, h))
its_place n (d ∷ directions) zero h = omega arith
its_place n (d ∷ directions) (suc i) h =
    let is = its_place (n + 1) directions i (omega (arith, h)) in omega (arith, is)

-- The same choice is the same but for turns and a rotation: none.
none_turned : (d e : ℕ) (x : ℤ)
    → pos d *ℤ x -ℤ pos d *ℤ (x -ℤ pos e *ℤ pos 0) ≡ pos 0
none_turned d e x =
    same_value (num (pos d) ⊗ num x ⊖ num (pos d) ⊗ (num x ⊖ num (pos e) ⊗ num (pos 0)))
    (num (pos 0)) (omega arith)

module _ (directions : List ℤ) (c : Choice) where
  abbrev places : List ℕ
  places = stated_places (map Some directions)

  -- So a choice at their places is the choice.
  pub as_all : AreTurned (length directions) (choice_at places c) c
  as_all = record {
    turns = λ t. pos 0;
    rotation = pos 0;
    directions = λ t h. ap (λ (k : ℕ). pos c.denominator *ℤ c.direction k
        -ℤ pos c.denominator *ℤ (c.direction t -ℤ pos (c.denominator * 80_000_000) *ℤ pos 0))
        (its_place 0 directions t h ∙ omega arith)
        ∙ none_turned c.denominator (c.denominator * 80_000_000) (c.direction t);
  }

-- Two choices that are the same but for turns and a rotation are so at places of targets.
pub turned_at : (places : List ℕ) (targets : ℕ) (c other : Choice)
    → All (λ place. place < targets) places → AreTurned targets c other
    → AreTurned (length places) (choice_at places c) (choice_at places other)
turned_at places targets c other inside s = record {
  turns = λ i. s.turns (get_or places i 0);
  rotation = s.rotation;
  directions = λ i h. s.directions (get_or places i 0) (inside i 0 h);
}
