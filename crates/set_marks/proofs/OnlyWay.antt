-- Of the endings of a station with sets one gives them.
use Rattle.std.proofs.Common.{◌≡◌, ℕ, ◌<◌, ◌≤◌, true, false, List, [], ◌∷◌, length, take, drop}
use Rattle.std.proofs.Common.{Option, Some, None, refl, sym, ap, subst, ◌∙◌, inl, inr, ◌⊎◌, arith}
use Rattle.std.specs.Prelude.{nat_lt}
use Rattle.std.proofs.lemmas.Bool.{cases_Bool, cases_lt, false≢true, ltb-true, and_parts}
use Rattle.std.proofs.lemmas.List.{length-drop, length-take-le}
use Rattle.set_marks.specs.declared.division.Divided.TheVariants.{Sets}
use Rattle.set_marks.specs.declared.outside.Ending.{Ending}
use Rattle.set_marks.specs.declared.outside.Ending.TheVariants.{Nothing, CheckSights, CheckPair}
use Rattle.set_marks.specs.declared.sight.Sight.{Sight}
use Rattle.set_marks.specs.declared.span.Span.{Span}
use Rattle.job_statements.specs.declared.stated.Numbers.{Numbers}
use Rattle.set_marks.specs.Divisions.{seconds_of, rest_of, place_of, begins_in_two}
use Rattle.set_marks.specs.Ways.{Way, is_division, leading_of, most_leading, is_given_up, kept}
use Rattle.set_marks.specs.Ways.{with_way, gives, ways_of, after_leading, span_by, divided}
use Rattle.set_marks.specs.BeforeAndAfter.{leading_in}
use Rattle.set_marks.specs.Fewest.{IsFewest, IsOnlyWay}
use Rattle.set_marks.proofs.BeginsAndEnds.{known_two}
use Rattle.set_marks.proofs.Fewest.{fewest}
use Rattle.set_marks.proofs.Spans.{found_in, are_right, known_before, kept_is}
use Rattle.set_marks.proofs.Tries.{least_at, no_rest, within}

-- What is known where this way is the only one: its ending gives these leading readings, and no
-- other ending gives any.
record IsOne (rs : List Sight) (way : Way) : Type 0 where
  pub given : gives way.ending rs ≡ Some way.leading
  pub others : (other : Ending) (n : ℕ) → gives other rs ≡ Some n → other ≡ way.ending

-- the way with this ending after so many leading readings
abbrev way_with : Ending → ℕ → Way
way_with ending leading = record { ending = ending; leading = leading }

-- the ways where the three endings give these numbers
abbrev of_three : Option ℕ → Option ℕ → Option ℕ → List Way
of_three a b c = with_way Nothing a (with_way CheckSights b (with_way CheckPair c []))

by_three : (rs : List Sight) (way : Way) (a b c : Option ℕ) → gives Nothing rs ≡ a
    → gives CheckSights rs ≡ b → gives CheckPair rs ≡ c → of_three a b c ≡ way ∷ [] → IsOne rs way
by_three rs way None None None x y z e = cc
by_three rs way (Some n) None None x y z e =
    let same : way_with Nothing n ≡ way = cc in
    subst (λ (w : Way). IsOne rs w) same (record { given = x; others = others }) where
      others : (other : Ending) (n : ℕ) → gives other rs ≡ Some n → other ≡ Nothing
      others Nothing n e = refl
      others CheckSights n e = let f : None ≡ Some n = sym y ∙ e in cc
      others CheckPair n e = let f : None ≡ Some n = sym z ∙ e in cc
by_three rs way None (Some n) None x y z e =
    let same : way_with CheckSights n ≡ way = cc in
    subst (λ (w : Way). IsOne rs w) same (record { given = y; others = others }) where
      others : (other : Ending) (n : ℕ) → gives other rs ≡ Some n → other ≡ CheckSights
      others Nothing n e = let f : None ≡ Some n = sym x ∙ e in cc
      others CheckSights n e = refl
      others CheckPair n e = let f : None ≡ Some n = sym z ∙ e in cc
by_three rs way None None (Some n) x y z e =
    let same : way_with CheckPair n ≡ way = cc in
    subst (λ (w : Way). IsOne rs w) same (record { given = z; others = others }) where
      others : (other : Ending) (n : ℕ) → gives other rs ≡ Some n → other ≡ CheckPair
      others Nothing n e = let f : None ≡ Some n = sym x ∙ e in cc
      others CheckSights n e = let f : None ≡ Some n = sym y ∙ e in cc
      others CheckPair n e = refl
by_three rs way (Some n) (Some m) c x y z e = cc
by_three rs way (Some n) None (Some m) x y z e = cc
by_three rs way None (Some n) (Some m) x y z e = cc

is_one : (rs : List Sight) (way : Way) → ways_of rs ≡ way ∷ [] → IsOne rs way
is_one rs way e = by_three rs way (gives Nothing rs) (gives CheckSights rs) (gives CheckPair rs)
    refl refl refl e

-- What is not given up is kept.
is_kept : (rest : List Sight) (n : ℕ) → is_given_up rest n ≡ false → kept rest (Some n) ≡ Some n
is_kept rest n h = rw h refl

not_given_up : (rest : List Sight) (o : Option ℕ) (n : ℕ) → kept rest o ≡ Some n
    → is_given_up rest n ≡ false
not_given_up rest None n e = cc
not_given_up rest (Some m) n e = elim (cases_Bool (is_given_up rest m)) [
  | inl h ↦ let f : None ≡ Some n = rw h at e in cc
  | inr h ↦
      let f : Some m ≡ Some n = rw h at e in
      let same : m ≡ n = cc in ap (λ (k : ℕ). is_given_up rest k) (sym same) ∙ h
]

-- The fewest are found.
found_fewest : (ending : Ending) (rs : List Sight) (n : ℕ) → IsFewest ending rs n
    → leading_of ending rs ≡ Some n
found_fewest ending rs n is = elim (cases_lt n (length (rest_of rs))) [
  | inl lt ↦ least_at (is_division ending rs) (most_leading rs) n (within rs n lt is.few) is.fewer
      is.divides
  | inr le ↦ absurd (false≢true (sym (no_rest ending rs n le) ∙ is.divides))
]

-- The readings before the sets that are no details are those that lead.
pub these_lead : (rs : List Sight) (way : Way)
    → leading_in (span_by rs way) rs ≡ take way.leading (rest_of rs)
these_lead rs way =
    sym (known_two rs (take (place_of (seconds_of rs) way.leading rs) rs))
    ∙ known_before (seconds_of rs) way.leading rs

-- So many lead.
pub so_many_lead : (rs : List Sight) (way : Way) → 1 ≤ length (after_leading rs way)
    → length (leading_in (span_by rs way) rs) ≡ way.leading
so_many_lead rs way some =
    ap length (these_lead rs way)
    ∙ length-take-le way.leading (rest_of rs)
    (let long = length-drop way.leading (rest_of rs) in omega (arith, some, long))

-- What is known of the way in which the sets of a station are found.
pub record IsTaken (rs : List Sight) (way : Way) : Type 0 where
  pub few : IsFewest way.ending rs way.leading
  pub stays : is_given_up (rest_of rs) way.leading ≡ false

pub is_taken : (rs : List Sight) (way : Way) → ways_of rs ≡ way ∷ [] → IsTaken rs way
is_taken rs way only =
    let given = (is_one rs way only).given in
    record {
      few = fewest way.ending rs way.leading
          (kept_is (rest_of rs) (leading_of way.ending rs) way.leading given);
      stays = not_given_up (rest_of rs) (leading_of way.ending rs) way.leading given;
    }

only_after : (rs : List Sight) (way : Way) (n : ℕ) → ways_of rs ≡ way ∷ [] → n ≡ way.leading
    → length (leading_in (span_by rs way) rs) ≡ n → IsOnlyWay rs (span_by rs way)
only_after rs way n only same long = record {
  ending = way.ending;
  fewest = subst (λ (k : ℕ). IsFewest way.ending rs k) (sym same ∙ sym long)
      (is_taken rs way only).few;
  stands = ap (λ (k : ℕ). span_by rs (record { ending = way.ending; leading = k }))
      (sym same ∙ sym long);
  others = λ other m is. by other m (found_fewest other rs m is)
      (cases_Bool (is_given_up (rest_of rs) m));
} where
  by : (other : Ending) (m : ℕ) → leading_of other rs ≡ Some m
      → (is_given_up (rest_of rs) m ≡ true) ⊎ (is_given_up (rest_of rs) m ≡ false)
      → (other ≡ way.ending) ⊎ ((0 < m) × (begins_in_two (drop m (rest_of rs)) ≡ true))
  by other m is (inl up) =
      let both = and_parts (nat_lt 0 m) (begins_in_two (drop m (rest_of rs))) up in
      inr (ltb-true 0 m both.0, both.1)
  by other m is (inr kept_so) =
      inl ((is_one rs way only).others other m
      (ap (λ (o : Option ℕ). kept (rest_of rs) o) is ∙ is_kept (rest_of rs) m kept_so))

-- The sets of a station stand with one ending, and after the fewest leading readings.
pub only_way : (stated : Numbers) (rs : List Sight) (span : Span) → divided stated rs ≡ Sets span
    → IsOnlyWay rs span
only_way stated rs span e =
    let found = found_in stated rs span e in
    subst (λ (s : Span). IsOnlyWay rs s) found.stand
    (only_after rs found.way found.way.leading found.only refl
    (so_many_lead rs found.way (are_right rs found.way found.right).some))
