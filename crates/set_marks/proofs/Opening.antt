-- With which reading a set may open.
use Rattle.std.proofs.Common.{◌≡◌, ℕ, zero, suc, ◌+◌, ◌-◌, ◌<◌, Bool, true, false, not, List, []}
use Rattle.std.proofs.Common.{◌∷◌, length, take, Option, Some, None, refl, sym, ap, subst, ◌∙◌}
use Rattle.std.proofs.Common.{arith, inl, inr}
use Rattle.std.specs.Prelude.{nat_lt, nat_le, ◌&&◌, is_none, slice_get}
use Rattle.std.proofs.lemmas.Bool.{cases_Bool, cases_lt, and_parts, ltb-true}
use Rattle.std.proofs.lemmas.List.{length-take, nil_from_length, take_all, take-take}
use Rattle.std.proofs.lemmas.Slice.Eq.{bytes_eq-Decides}
use Rattle.station_book.specs.Faults.{first_of}
use Rattle.station_book.proofs.readings.CleanBlocks.{all_none}
use Rattle.adjust_kernel.specs.declared.bounds.TheConstants.{MOST_SETS}
use Rattle.set_marks.specs.declared.bounds.TheConstants.{MOST_READINGS}
use Rattle.set_marks.specs.declared.fault.MarkKind.TheVariants as kinds
use Rattle.set_marks.specs.declared.flaw.Flaw.{Flaw}
use Rattle.set_marks.specs.declared.outside.Ending.{Ending}
use Rattle.set_marks.specs.declared.outside.Ending.TheVariants.{Nothing, CheckSights, CheckPair}
use Rattle.set_marks.specs.declared.sight.Sight.{Sight}
use Rattle.set_marks.specs.Divisions.{is_of, is_same_face, flaw_when, flaw_found}
use Rattle.set_marks.specs.Divisions.{starts_of, first_cut, cut_end, sets_flaw, set_flaw, part}
use Rattle.set_marks.specs.Divisions.{next_of, readings_flaw, order_flaw}
use Rattle.set_marks.specs.Divisions.{are_in_face, begins_with_pair}
use Rattle.set_marks.specs.Outside.{is_ended, before_ending, in_ending, surplus, may_precede}
use Rattle.set_marks.specs.Searching.{starts_from, turns_next, opens, may_open}
use Rattle.set_marks.specs.SetsInWords.{readings_in, ReadsEachOnce}
use Rattle.set_marks.specs.Ways.{cut_flaw, detail_between}
use Rattle.set_marks.proofs.BeginsAndEnds.{first_start}
use Rattle.set_marks.proofs.EachTargetOnce.{clean_readings, none_is, set_once}

-- What isn't read in its own face again, but in the other, is read next in that.
other_next : (r : Sight) (rs : List Sight) → readings_in r.target r.second rs ≡ []
    → 0 < length (readings_in r.target (not r.second) rs) → turns_next r rs ≡ true
other_next r [] own other = absurd (omega (arith, other))
other_next r (s ∷ rs) own other = elim (cases_Bool (is_of r.target s)) [
  | inr h ↦ rw h (other_next r rs (rw h at own) (rw h at other))
  | inl h ↦ elim (cases_Bool (is_same_face r.second s.second)) [
    | inr apart ↦ rw (h, apart) refl
    | inl same ↦
        let f : s ∷ readings_in r.target r.second rs ≡ [] = rw (h, same) at own in cc
  ]
]

same_face : (b : Bool) → is_same_face b b ≡ true
same_face true = refl
same_face false = refl

other_face : (b : Bool) → is_same_face (not b) b ≡ false
other_face true = refl
other_face false = refl

-- So is the first reading of a set.
first_turns : (r : Sight) (rs : List Sight) → ReadsEachOnce (r ∷ rs) → turns_next r rs ≡ true
first_turns r rs each =
    let here : is_of r.target r ≡ true = (bytes_eq-Decides r.target r.target).1 refl in
    let one : length (readings_in r.target r.second (r ∷ rs)) ≡ 1 =
    each.once r r.second (0, omega arith, refl) in
    let two : length (readings_in r.target (not r.second) (r ∷ rs)) ≡ 1 =
    each.once r (not r.second) (0, omega arith, refl) in
    let own : suc (length (readings_in r.target r.second rs)) ≡ 1 =
    rw (here, same_face r.second) at one in
    let other : length (readings_in r.target (not r.second) rs) ≡ 1 =
    rw (here, other_face r.second) at two in
    other_next r rs (nil_from_length (readings_in r.target r.second rs) (omega (arith, own)))
    (omega (arith, other))

set_turns : (set : List Sight) → ReadsEachOnce set → opens set ≡ true
set_turns [] each = let many = each.many in absurd (omega (arith, many))
set_turns (r ∷ rs) each = first_turns r rs each

set_opens : (first set : List Sight) → set_flaw first set ≡ None → may_open set ≡ true
set_opens first set e =
    let own = clean_readings set (all_none (readings_flaw set ∷ order_flaw first set ∷ []) e).0 in
    ap opens (take_all MOST_READINGS set own.few) ∙ set_turns set (set_once first set e)

-- What the first of some readings may open, the first of more may.
turns_in_more : (r : Sight) (n : ℕ) (rs : List Sight) → turns_next r (take n rs) ≡ true
    → turns_next r rs ≡ true
turns_in_more r zero rs e = cc
turns_in_more r (suc n) [] e = cc
turns_in_more r (suc n) (s ∷ rs) e = elim (cases_Bool (is_of r.target s)) [
  | inl h ↦ rw h (rw h at e)
  | inr h ↦ rw h (turns_in_more r n rs (rw h at e))
]

opens_in_more : (n : ℕ) (rs : List Sight) → opens (take n rs) ≡ true → opens rs ≡ true
opens_in_more zero rs e = cc
opens_in_more (suc n) [] e = cc
opens_in_more (suc n) (r ∷ rs) e = turns_in_more r n rs e

may_open_more : (n : ℕ) (rs : List Sight) → may_open (take n rs) ≡ true → may_open rs ≡ true
may_open_more n rs e = elim (cases_lt n MOST_READINGS) [
  | inr ge ↦ ap opens (sym (take-take MOST_READINGS n rs ge)) ∙ e
  | inl lt ↦
      let long = length-take n rs in
      let few : take MOST_READINGS (take n rs) ≡ take n rs =
      take_all MOST_READINGS (take n rs) (omega (arith, long, lt)) in
      let same : take n (take MOST_READINGS rs) ≡ take n rs =
      take-take n MOST_READINGS rs (omega (arith, lt)) in
      opens_in_more n (take MOST_READINGS rs) (ap opens (same ∙ sym few) ∙ e)
]

-- So sets open with their first reading.
sets_open : (rs : List Sight) → 0 < length rs
    → sets_flaw (first_cut (starts_of rs) rs) 0 (cut_end (starts_of rs) rs) (starts_of rs) rs ≡ None
    → may_open rs ≡ true
sets_open [] some e = absurd (omega (arith, some))
sets_open (r ∷ rs) some e =
    let all = r ∷ rs in
    let first = first_cut (starts_of all) all in
    let end = cut_end (starts_of all) all in
    let later = starts_from r.target false 1 rs in
    let set = part 0 (next_of end later) all in
    let none = all_none (
    flaw_when (nat_le MOST_SETS 0) kinds.TooManySets (slice_get all 0)
    ∷ set_flaw first set
    ∷ sets_flaw first 1 end later all
    ∷ [])
    (subst (λ (ps : List ℕ). sets_flaw first 0 end ps all ≡ None) (first_start r rs) e) in
    may_open_more (next_of end later - 0) all (set_opens first set none.1.0)

open_before : (ending : Ending) (rs : List Sight) → may_open (before_ending ending rs) ≡ true
    → may_open rs ≡ true
open_before Nothing rs e = e
open_before CheckSights rs e = may_open_more (length rs - surplus rs) rs e
open_before CheckPair rs e = may_open_more (length rs - 2) rs e

-- Before an ending stands a reading.
some_before : (ending : Ending) (rs : List Sight) → 0 < length rs → is_ended ending rs ≡ true
    → 0 < length (before_ending ending rs)
some_before Nothing rs some e = some
some_before CheckSights rs some e =
    let more = and_parts (nat_lt 0 (surplus rs) && nat_lt (surplus rs) (length rs))
    (are_in_face false (in_ending CheckSights rs)) e in
    let lt = ltb-true (surplus rs) (length rs)
    (and_parts (nat_lt 0 (surplus rs)) (nat_lt (surplus rs) (length rs)) more.0).1 in
    let long = length-take (length rs - surplus rs) rs in omega (arith, lt, long)
some_before CheckPair rs some e =
    let lt = ltb-true 2 (length rs) (and_parts (nat_lt 2 (length rs))
    (begins_with_pair (in_ending CheckPair rs)) e).0 in
    let long = length-take (length rs - 2) rs in omega (arith, lt, long)

some_cut : (all leading : List Sight) (place : ℕ) (starts : List ℕ) (sets : List Sight)
    (o : Option Flaw) → sets_flaw (first_cut starts sets) 0 (cut_end starts sets) starts sets ≡ o
    → is_none o ≡ false → is_none (cut_flaw all leading place starts sets) ≡ false
some_cut all leading place starts sets None e some = cc
some_cut all leading place starts sets (Some f) e some =
    ap (λ (o : Option Flaw). is_none (first_of (o
    ∷ flaw_found kinds.FaceMissing (detail_between all place (place + cut_end starts sets))
    ∷ flaw_when (not (may_precede starts sets leading place)) kinds.OneSet (slice_get sets 0)
    ∷ []))) e

none_cut : (all leading : List Sight) (place : ℕ) (sets : List Sight) → 0 < length sets
    → may_open sets ≡ false
    → is_none (cut_flaw all leading place (starts_of sets) sets) ≡ false
none_cut all leading place sets some shut =
    let starts = starts_of sets in
    let flaw = sets_flaw (first_cut starts sets) 0 (cut_end starts sets) starts sets in
    elim (cases_Bool (is_none flaw)) [
      | inr h ↦ some_cut all leading place starts sets flaw refl h
      | inl h ↦ let f : false ≡ true = sym shut ∙ sets_open sets some (none_is flaw h) in cc
    ]

-- Where no set may open, what stands before an ending is none.
pub not_opened : (ending : Ending) (all leading : List Sight) (place : ℕ) (rs : List Sight)
    → 0 < length rs → is_ended ending rs ≡ true → may_open rs ≡ false
    → is_none (cut_flaw all leading place (starts_of (before_ending ending rs))
    (before_ending ending rs)) ≡ false
not_opened ending all leading place rs some ended shut =
    elim (cases_Bool (may_open (before_ending ending rs))) [
      | inl h ↦ let f : false ≡ true = sym shut ∙ open_before ending rs h in cc
      | inr h ↦ none_cut all leading place (before_ending ending rs)
          (some_before ending rs some ended) h
    ]
