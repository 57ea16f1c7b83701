-- The field book of a history is what the definitions by places find there.
use Rattle.std.proofs.Common.{◌≡◌, ℕ, Bool, true, false, cond, ◌&&◌, ◌||◌, not, List, [], ◌∷◌, map}
use Rattle.std.proofs.Common.{Option, Some, None, is_some, length, refl, sym, ap, subst, ◌∙◌, ◌<◌}
use Rattle.std.proofs.Common.{arith}
use Rattle.std.specs.Prelude.{if◌then◌else◌}
use Rattle.std.specs.List.{list_any}
use Rattle.std.specs.Option.{option_map}
use Rattle.std.proofs.lemmas.Bool.{eq-eqb, ne_eqb}
use Rattle.gsi_word.specs.declared.index.TheConstants.{HORIZONTAL_DIRECTION}
use Rattle.gsi_word.specs.Blocks.{GsiBlock}
use Rattle.station_book.specs.declared.role.Role.{Role}
use Rattle.station_book.specs.declared.role.Role.TheVariants as role
use Rattle.station_book.specs.Blocks.{role_of, is_station, is_set_code, is_close, is_measurement}
use Rattle.station_book.specs.Blocks.{lacks, is_opening, opens_station, opens_set, named}
use Rattle.station_book.specs.Places.{History, Place, places, before, is_empty, is_open, is_reading}
use Rattle.station_book.specs.Places.{is_set, is_same, station, opening}
use Rattle.station_book.specs.Faults.{name_at, same_name, had_sets}
use Rattle.station_book.proofs.places.Steps.{readings-opening, readings-more, readings-other}
use Rattle.station_book.proofs.places.Steps.{is_open-opening, is_open-other, same_station}
use Rattle.station_book.proofs.places.Steps.{opens_no_station, opens_no_set, sets-station}
use Rattle.station_book.proofs.places.Steps.{sets-more, sets-other}
use Rattle.station_book.proofs.places.Owners.{length-last}
use Rattle.book_tree.specs.Tree.{SetOf, StationOf, Tree, grown_by, tree_of, with_station, read_in}
use Rattle.book_tree.specs.Tree.{sets_in, stations_in, name_in, is_used}
use Rattle.book_tree.specs.Reflects.{Reflects, block_at, opened, was_used}

-- what is named at a place is named in its block
pub name_there : (p : Place) → name_at p ≡ name_in (block_at p)
name_there [] = refl
name_there (b ∷ past) = refl

-- Equal lists of places have equal blocks.
moved : {ps qs : List Place} → qs ≡ ps → map block_at ps ≡ map block_at qs
moved e = ap (λ (ps : List Place). map block_at ps) (sym e)

one_moved : (b : GsiBlock) {ps qs : List Place} (xs : List (Option GsiBlock)) → xs ≡ map block_at ps
    → (past : History) → qs ≡ (b ∷ past) ∷ ps → Some b ∷ xs ≡ map block_at qs
one_moved b xs h past e = ap (λ (ys : List (Option GsiBlock)). Some b ∷ ys) h ∙ moved e

-- whether a set is of an earlier station than this, which has its name
abbrev had_by : Place → History → Bool
had_by q past = list_any (λ s. is_set s && (not (is_same (station (before s)) q)
    && same_name (name_at (station (before s))) (name_at q))) (places past)

-- All sets so far are of earlier stations than one that comes now.
all_earlier : (past : History) (q : Place) → length past < length q
    → had_by q past ≡ was_used (name_at q) past
all_earlier [] q lt = refl
all_earlier (b ∷ past) q lt =
    rw (ne_eqb (length (station past)) (length q)
    (λ f. let l = length-last opens_station past in absurd (omega (arith, l, f, lt))))
    (ap (λ (v : Bool). (is_set (b ∷ past) && same_name (name_at (station past)) (name_at q)) || v)
    (all_earlier past q (omega (arith, lt))))

-- After a block of code 10, 20 or 30 the set that is open is the one that it opens.
opened-opening : (b : GsiBlock) (past : History) → is_opening b ≡ true
    → opened (b ∷ past) ≡ (if opens_set b then Some b else None)
opened-opening b past o = λ i. cond (is_open-opening b past o i)
    (block_at (cond (o i) (b ∷ past) (opening past))) None

-- After any other block it is the one that was open.
opened-other : (b : GsiBlock) (past : History) → is_opening b ≡ false
    → opened (b ∷ past) ≡ opened past
opened-other b past o = λ i. cond (is_open-other b past o i)
    (block_at (cond (o i) (b ∷ past) (opening past))) None

-- With one more set, this name is used that was used before, and the station's.
one_more : (name : Option (List ℕ)) (code : Option GsiBlock) (s : SetOf) (sets : List SetOf)
    (older : List StationOf) → is_used name (with_station code (s ∷ sets) older)
    ≡ (same_name (name_in code) name || is_used name (with_station code sets older))
one_more name None s sets older = refl
one_more name (Some b) s sets older =
    by (not (is_empty sets)) (same_name (named b) name) (is_used name older)
  where
    by : (x y z : Bool) → (y || z) ≡ (y || ((x && y) || z))
    by x true z = refl
    by true false z = refl
    by false false z = refl

-- the field book with this open set, or without one
abbrev with_this : Tree → Option SetOf → Tree
with_this t u = record t { current = u }

module _ (b : GsiBlock) (past : History) (t : Tree) (h : Reflects t past) where
  -- A set of the station that is open is of no earlier station.
  of_no_earlier : opens_station b ≡ false → had_sets past ≡ had_sets (b ∷ past)
  of_no_earlier e = alone ∙ ap (λ (q : Place). had_by q (b ∷ past)) (sym (same_station b past e))
    where
      never : (x : Bool) → false ≡ (x && false)
      never true = refl
      never false = refl

      alone : had_sets past ≡ had_by (station past) (b ∷ past)
      alone = rw (eq-eqb (length (station past)) (length (station past)) refl)
          (ap (λ (v : Bool). v || had_sets past) (never (opens_set b)))

  not_set : (name : Option (List ℕ)) → opens_set b ≡ false
      → was_used name past ≡ was_used name (b ∷ past)
  not_set name e = rw e refl

  -- A block that changes nothing.
  idle : is_opening b ≡ false → is_reading (b ∷ past) ≡ false → Reflects t (b ∷ past)
  idle o r =
      let s = opens_no_station b o in
      record {
        code = h.code ∙ ap (λ (q : Place). block_at q) (sym (same_station b past s));
        is_open_too = h.is_open_too ∙ sym (is_open-other b past o);
        current = h.current ∙ sym (opened-other b past o);
        sets = h.sets ∙ moved (sets-other b past s (opens_no_set b o));
        readings = h.readings ∙ moved (readings-other b past o r);
        used = λ name. h.used name ∙ not_set name (opens_no_set b o);
        had = h.had ∙ of_no_earlier s;
      }

  -- A station that opens has no set, and no earlier one of its name where this name is not used.
  first_of_name : opens_station b ≡ true → opens_set b ≡ false
      → is_used (named b) (stations_in t) ≡ had_sets (b ∷ past)
  first_of_name s n = h.used (named b) ∙ sym (all_earlier past (b ∷ past) (omega arith))
      ∙ sym (ap (λ (v : Bool). (v && (not (is_same (station past) (b ∷ past))
      && same_name (name_at (station past)) (named b))) || had_by (b ∷ past) past) n)
      ∙ ap (λ (v : Bool). had_by (cond v (b ∷ past) (station past)) (b ∷ past)) (sym s)

  -- A block of code 10, 20 or 30.
  at_opening : (r : Role) → role_of b ≡ r
      → (is_station r || (is_set_code r || is_close r)) ≡ true → is_opening b ≡ true
  at_opening r e o = ap (λ r. is_station r || (is_set_code r || is_close r)) e ∙ o

  step : (r : Role) → role_of b ≡ r → Reflects (grown_by r b t) (b ∷ past)
  step role.Station e =
      let o = at_opening role.Station e refl in
      let n = ap is_set_code e in
      record {
        code = ap (λ v. block_at (cond (is_station v) (b ∷ past) (station past))) (sym e);
        is_open_too = sym (is_open-opening b past o ∙ n);
        current = sym (opened-opening b past o ∙ ap (λ v. cond v (Some b) None) n);
        sets = moved (sets-station b past (ap is_station e));
        readings = moved (readings-opening b past o);
        used = λ name. h.used name ∙ not_set name n;
        had = first_of_name (ap is_station e) n;
      }
  step role.Set e =
      let o = at_opening role.Set e refl in
      let n = ap is_set_code e in
      let s = ap is_station e in
      record {
        code = h.code ∙ ap (λ (q : Place). block_at q) (sym (same_station b past s));
        is_open_too = sym (is_open-opening b past o ∙ n);
        current = sym (opened-opening b past o ∙ ap (λ v. cond v (Some b) None) n);
        sets = one_moved b _ h.sets past (sets-more b past s n);
        readings = moved (readings-opening b past o);
        used = λ name. one_more name t.code (record { code = b; readings = [] }) (sets_in t) t.older
            ∙ (λ i. same_name (name_in (h.code i)) name || h.used name i)
            ∙ ap (λ (m : Option (List ℕ)). same_name m name || was_used name past)
            (sym (name_there (station past)))
            ∙ ap (λ v. (v && same_name (name_at (station past)) name) || was_used name past)
            (sym n);
        had = h.had ∙ of_no_earlier s;
      }
  step role.Close e =
      let o = at_opening role.Close e refl in
      let n = ap is_set_code e in
      let s = ap is_station e in
      record {
        code = h.code ∙ ap (λ (q : Place). block_at q) (sym (same_station b past s));
        is_open_too = sym (is_open-opening b past o ∙ n);
        current = sym (opened-opening b past o ∙ ap (λ v. cond v (Some b) None) n);
        sets = h.sets ∙ moved (sets-other b past s n);
        readings = moved (readings-opening b past o);
        used = λ name. h.used name ∙ not_set name n;
        had = h.had ∙ of_no_earlier s;
      }
  step role.Measurement e = by (not (lacks HORIZONTAL_DIRECTION b)) refl t.current refl where
    o : is_opening b ≡ false
    o = ap (λ r. is_station r || (is_set_code r || is_close r)) e

    reads : (x y : Bool) → not (lacks HORIZONTAL_DIRECTION b) ≡ x → is_some t.current ≡ y
        → is_reading (b ∷ past) ≡ (x && y)
    reads x y p q = (λ i. (is_measurement (e i) && p i) && sym h.is_open_too i)
        ∙ ap (λ (z : Bool). x && z) q

    alike : (name : Option (List ℕ)) (s : SetOf) → is_used name (stations_in (with_this t (Some s)))
        ≡ is_used name (stations_in (with_this t (Some (read_in b s))))
    alike name s = one_more name t.code s t.ended t.older
        ∙ sym (one_more name t.code (read_in b s) t.ended t.older)

    by : (x : Bool) → not (lacks HORIZONTAL_DIRECTION b) ≡ x → (u : Option SetOf) → t.current ≡ u
        → Reflects (if x then with_this t (option_map (read_in b) u) else t) (b ∷ past)
    by true p (Some s) q =
        let old : Reflects (with_this t (Some s)) past =
        subst (λ (v : Option SetOf). Reflects (with_this t v) past) q h in
        record {
          code = h.code
              ∙ ap (λ (v : Place). block_at v) (sym (same_station b past (ap is_station e)));
          is_open_too = old.is_open_too ∙ sym (is_open-other b past o);
          current = old.current ∙ sym (opened-other b past o);
          sets = old.sets ∙ moved (sets-other b past (ap is_station e) (ap is_set_code e));
          readings = one_moved b _ old.readings past (readings-more b past o
              (reads true true p (ap (λ (v : Option SetOf). is_some v) q)));
          used = λ name. sym (alike name s) ∙ old.used name ∙ not_set name (ap is_set_code e);
          had = h.had ∙ of_no_earlier (ap is_station e);
        }
    by true p None q = subst (λ (v : Option SetOf). Reflects (with_this t v) (b ∷ past)) q
        (idle o (reads true false p (ap (λ (v : Option SetOf). is_some v) q)))
    by false p u q = idle o (reads false (is_some t.current) p refl)
  step role.Other e = idle (ap (λ r. is_station r || (is_set_code r || is_close r)) e)
      (ap (λ r. (is_measurement r && not (lacks HORIZONTAL_DIRECTION b)) && is_open past) e)

pub reflects : (past : History) → Reflects (tree_of past) past
reflects [] = record {
  code = refl;
  is_open_too = refl;
  current = refl;
  sets = refl;
  readings = refl;
  used = λ name. refl;
  had = refl;
}
reflects (b ∷ past) = step b past (tree_of past) (reflects past) (role_of b) refl
