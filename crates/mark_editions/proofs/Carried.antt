-- Sets stay sets among other readings, if these are the same up to where the last set ends, and
-- after it none is of a target that a set before the last has.
use Rattle.std.proofs.Common.{◌≡◌, ℕ, zero, suc, ◌+◌, ◌<◌, ◌≤◌, true, false, List}
use Rattle.std.proofs.Common.{[], ◌∷◌, ◌++◌, length, take, drop, None, refl, sym, ap}
use Rattle.std.proofs.Common.{subst, ◌∙◌, inl, inr, arith, All, append_assoc}
use Rattle.std.specs.Prelude.{slice_get, if◌then◌else◌}
use Rattle.std.specs.List.{list_any}
use Rattle.std.proofs.Math.Seq.{take-append_seam}
use Rattle.std.proofs.lemmas.Bool.{cases_Bool, false≢true, and_parts, or_left, or_right}
use Rattle.std.proofs.lemmas.List.{take-append-drop, length-append, take-take}
use Rattle.std.proofs.lemmas.List.{drop_at}
use Rattle.std.proofs.lemmas.List.Elements.{All-head, All-tail, filter_passes}
use Rattle.std.proofs.lemmas.Slice.Eq.{bytes_eq-Decides}
use Rattle.set_marks.specs.declared.sight.Sight.{Sight}
use Rattle.set_marks.specs.Divisions.{is_of, first_target, starts_of, last_place, is_some_known}
use Rattle.set_marks.specs.Divisions.{end_of, cut_end, sets_flaw, first_part, parts_at}
use Rattle.set_marks.specs.Divisions.{count_of, is_even, is_some_of, begins_set, places_from}
use Rattle.set_marks.proofs.AmongDetails.{is_known}
use Rattle.set_marks.proofs.BeginsAndEnds.{last_known, opening_read}
use Rattle.set_marks.proofs.BeginsAndEnds.{several_above}
use Rattle.set_marks.proofs.RowsOfSets.{joined, right_among}
use Rattle.set_marks.proofs.SameSets.{all_so, has_sets, starts_within}
use Rattle.set_marks.proofs.Spans.{several_by}
use Rattle.mark_editions.proofs.Rows.{end_in, flaw_in}

-- the readings of the sets before the last
abbrev pub before_last : List Sight → List Sight
before_last rs = take (last_place (starts_of rs)) rs

none_there : (name : List ℕ) (k : ℕ) (rs : List Sight) → is_some_of name (slice_get rs k) ≡ true
    → All (λ r. is_of name r ≡ false) rs → ⊥
none_there name zero [] here none = false≢true here
none_there name (suc k) [] here none = false≢true here
none_there name zero (r ∷ rs) here none =
    false≢true (sym (All-head (λ (s : Sight). is_of name s ≡ false) r rs none) ∙ here)
none_there name (suc k) (r ∷ rs) here none = none_there name k rs here
    (All-tail (λ (s : Sight). is_of name s ≡ false) r rs none)

-- A reading of a target stands before those that are of others.
not_beyond : (name : List ℕ) (end k : ℕ) (rs : List Sight)
    → is_some_of name (slice_get rs k) ≡ true → All (λ r. is_of name r ≡ false) (drop end rs)
    → k < end
not_beyond name zero k rs here none = absurd (none_there name k rs here none)
not_beyond name (suc end) zero rs here none = omega arith
not_beyond name (suc end) (suc k) [] here none = absurd (false≢true here)
not_beyond name (suc end) (suc k) (r ∷ rs) here none =
    let lt = not_beyond name end k rs here none in omega (arith, lt)

at_last : (P : ℕ → Type 0) (ps : List ℕ) → 1 ≤ length ps → All P ps → P (last_place ps)
at_last P [] some all = absurd (omega (arith, some))
at_last P (p ∷ []) some all = All-head P p [] all
at_last P (p ∷ q ∷ ps) some all = at_last P (q ∷ ps) (omega arith) (All-tail P p (q ∷ ps) all)

-- At the last of the places where sets begin one does.
pub last_begins : (rs : List Sight) → 1 ≤ length (starts_of rs)
    → begins_set rs (last_place (starts_of rs)) ≡ true
last_begins rs some = at_last (λ k. begins_set rs k ≡ true) (starts_of rs) some
    (filter_passes (begins_set rs) (places_from 0 rs))

-- It stands before readings that are not of the opening target.
last_before : (rs : List Sight) (end : ℕ) → 1 ≤ end
    → All (λ r. is_of (first_target rs) r ≡ false) (drop end rs)
    → last_place (starts_of rs) < end
last_before rs end some none = by (starts_of rs) refl where
  by : (ps : List ℕ) → starts_of rs ≡ ps → last_place (starts_of rs) < end
  by [] e = subst (λ (ps : List ℕ). last_place ps < end) (sym e) (omega (arith, some))
  by (p ∷ ps) e =
      let begins = last_begins rs (subst (λ (qs : List ℕ). 1 ≤ length qs) (sym e) (omega arith)) in
      let place = last_place (starts_of rs) in
      let parts = and_parts (is_some_of (first_target rs) (slice_get rs place))
      (is_even (count_of (first_target rs) (take place rs))) begins in
      not_beyond (first_target rs) end place rs parts.0 none

first_one : (n : ℕ) (rs : List Sight) → 1 ≤ length (take n rs)
    → first_target (take n rs) ≡ first_target rs
first_one zero rs some = absurd (omega (arith, some))
first_one (suc n) [] some = refl
first_one (suc n) (r ∷ rs) some = refl

-- A reading of the opening target is of one that a set before the last has.
pub opens_none : (rs : List Sight) (s : Sight) → 2 ≤ length (starts_of rs)
    → is_known (before_last rs) s ≡ false → is_of (first_target rs) s ≡ false
opens_none [] s many e = absurd (omega (arith, many))
opens_none (r ∷ rs) s many e = elim (cases_Bool (is_of r.target s)) [
  | inl h ↦
      let place = last_place (starts_of (r ∷ rs)) in
      let known : is_known (before_last (r ∷ rs)) s ≡ true =
      subst (λ (name : List ℕ). list_any (is_of name) (take place (r ∷ rs)) ≡ true)
      (sym ((bytes_eq-Decides s.target r.target).0 h))
      (opening_read r rs place (several_above r rs many)) in
      absurd (false≢true (sym e ∙ known))
  | inr h ↦ h
]

none_after : (others rs : List Sight) → All (λ r. is_known others r ≡ false) rs
    → is_some_known others rs ≡ false
none_after others [] none = refl
none_after others (r ∷ rs) none =
    rw (All-head (λ (s : Sight). is_known others s ≡ false) r rs none)
    (none_after others rs (All-tail (λ (s : Sight). is_known others s ≡ false) r rs none))

ends_nowhere : (others rs : List Sight) → All (λ r. is_known others r ≡ false) rs
    → end_of others rs ≡ 0
ends_nowhere others [] none = refl
ends_nowhere others (r ∷ rs) none =
    ap (λ b. if b then suc (end_of others rs) else 0) (none_after others (r ∷ rs) none)

some_known : (others front : List Sight) (last : Sight) (after : List Sight)
    → is_known others last ≡ true → is_some_known others (front ++ last ∷ after) ≡ true
some_known others [] last after known =
    or_left (is_known others last) (is_some_known others after) known
some_known others (r ∷ front) last after known =
    or_right (is_known others r) (is_some_known others (front ++ last ∷ after))
    (some_known others front last after known)

-- The last reading of a target that the others have, where none after it is.
ends_there : (others front : List Sight) (last : Sight) (after : List Sight)
    → is_known others last ≡ true → All (λ r. is_known others r ≡ false) after
    → end_of others (front ++ last ∷ after) ≡ length front + 1
ends_there others [] last after known none =
    ap (λ b. if b then suc (end_of others after) else 0) (some_known others [] last after known)
    ∙ ap (λ (k : ℕ). suc k) (ends_nowhere others after none) ∙ omega arith
ends_there others (r ∷ front) last after known none =
    ap (λ b. if b then suc (end_of others (front ++ last ∷ after)) else 0)
    (some_known others (r ∷ front) last after known)
    ∙ ap (λ (k : ℕ). suc k) (ends_there others front last after known none) ∙ omega arith

opens_known : (rs : List Sight) → 2 ≤ length (starts_of rs)
    → is_some_known (before_last rs) rs ≡ true
opens_known [] many = absurd (omega (arith, many))
opens_known (r ∷ rs) many =
    let known = before_last (r ∷ rs) in
    or_left (is_known known r) (is_some_known known rs)
    (opening_read r rs (last_place (starts_of (r ∷ rs))) (several_above r rs many))

-- The readings up to where the last of several sets ends, and those after it.
pub record EndsAt (rs : List Sight) : Type 0 where
  pub front : List Sight
  pub last : Sight
  pub sets : take (end_in rs) rs ≡ front ++ last ∷ []
  pub long : length (front ++ last ∷ []) ≡ end_in rs
  pub known : is_known (before_last rs) last ≡ true
  pub strange : All (λ r. is_known (before_last rs) r ≡ false) (drop (end_in rs) rs)

pub ends_at : (rs : List Sight) → 2 ≤ length (starts_of rs) → EndsAt rs
ends_at rs many =
    let end = end_in rs in
    let before = before_last rs in
    let found = last_known before rs (opens_known rs many) in
    let sets = found.front ++ found.last ∷ [] in
    let split : rs ≡ sets ++ found.after =
    found.readings ∙ sym (append_assoc found.front (found.last ∷ []) found.after) in
    let long : length sets ≡ end = length-append found.front (found.last ∷ [])
    ∙ sym (several_by rs (starts_of rs) many ∙ found.here ∙ omega arith) in
    let is_after : drop end rs ≡ found.after = ap (λ (l : List Sight). drop end l) split
    ∙ drop_at sets found.after end long in
    record {
      front = found.front;
      last = found.last;
      sets = ap (λ (l : List Sight). take end l) split
          ∙ ap (λ (k : ℕ). take k (sets ++ found.after)) (sym long)
          ∙ take-append_seam sets found.after;
      long = long;
      known = found.known;
      strange = subst (λ (l : List Sight). All (λ r. is_known before r ≡ false) l) (sym is_after)
          found.strange;
    }

abbrev first_in : List (List Sight) → List Sight
first_in [] = []
first_in (set ∷ sets) = set

first_is : (end : ℕ) (starts : List ℕ) (rs : List Sight)
    → first_part end starts rs ≡ first_in (parts_at end starts rs)
first_is end [] rs = refl
first_is end (from ∷ starts) rs = refl

-- Nothing is wrong with the same sets among others.
moved_none : (end : ℕ) (starts : List ℕ) (xs ys : List Sight)
    → sets_flaw (first_part end starts xs) 0 end starts xs ≡ None → take end ys ≡ take end xs
    → sets_flaw (first_part end starts ys) 0 end starts ys ≡ None
moved_none end [] xs ys none same = refl
moved_none end (from ∷ later) xs ys none same =
    let first = first_part end (from ∷ later) xs in
    let j = joined first 0 end from later xs none in
    let opens : first_part end (from ∷ later) ys ≡ first =
    ap first_in (j.of_more ys same) in
    ap (λ (l : List Sight). sets_flaw l 0 end (from ∷ later) ys) opens
    ∙ right_among first 0 end from later ys xs none same

-- The sets of some readings are sets of these.
pub record Carried (xs ys : List Sight) : Type 0 where
  pub starts : starts_of ys ≡ starts_of xs
  pub ends : end_in ys ≡ end_in xs
  pub none : flaw_in ys ≡ None

pub carried : (xs ys : List Sight) → flaw_in xs ≡ None → 1 ≤ length xs
    → 2 ≤ length (starts_of xs) → take (end_in xs) ys ≡ take (end_in xs) xs
    → All (λ r. is_known (before_last xs) r ≡ false) (drop (end_in xs) ys) → Carried xs ys
carried xs ys none some many same strange =
    let end = end_in xs in
    let inner = take end xs in
    let after = drop end ys in
    let has = has_sets xs none some in
    let four = has.many in
    let place = last_place (starts_of xs) in
    let before = before_last xs in
    let long : length inner ≡ end = has.long in
    let last : place < end = has.last in
    let other : length (take end ys) ≡ end = ap length same ∙ long in
    let enough : end ≤ length ys = by_length end ys other in
    let opens : first_target ys ≡ first_target xs =
    sym (first_one end ys (omega (arith, other, long, four)))
    ∙ ap first_target same ∙ first_one end xs (omega (arith, four)) in
    let none_opens : All (λ r. is_of (first_target ys) r ≡ false) after =
    all_so (λ r. is_known before r ≡ false) (λ r. is_of (first_target ys) r ≡ false)
    (λ r f. ap (λ (name : List ℕ). is_of name r) opens ∙ opens_none xs r many f) after strange in
    let starts : starts_of ys ≡ starts_of xs =
    sym (starts_within end ys enough
    (last_before ys end (omega (arith, long, four)) none_opens))
    ∙ ap starts_of same ∙ has.starts in
    let at = ends_at xs many in
    let split : ys ≡ at.front ++ at.last ∷ after =
    sym (take-append-drop end ys) ∙ ap (λ (l : List Sight). l ++ after) (same ∙ at.sets)
    ∙ append_assoc at.front (at.last ∷ []) after in
    let begun : take place ys ≡ before =
    sym (take-take place end ys (omega (arith, last)))
    ∙ ap (λ (l : List Sight). take place l) same
    ∙ take-take place end xs (omega (arith, last)) in
    let ends : end_in ys ≡ end =
    ap (λ (ps : List ℕ). cut_end ps ys) starts ∙ several_by ys (starts_of xs) many
    ∙ ap (λ (l : List Sight). end_of l ys) begun
    ∙ ap (λ (l : List Sight). end_of before l) split
    ∙ ends_there before at.front at.last after at.known strange
    ∙ sym (sym at.long ∙ length-append at.front (at.last ∷ []) ∙ omega arith) in
    record {
      starts = starts;
      ends = ends;
      none = (λ i. sets_flaw (first_part (ends i) (starts i) ys) 0 (ends i) (starts i) ys)
          ∙ moved_none end (starts_of xs) xs ys none same;
    }
  where
    by_length : (n : ℕ) (rs : List Sight) → length (take n rs) ≡ n → n ≤ length rs
    by_length zero rs e = omega arith
    by_length (suc n) [] e = omega (arith, e)
    by_length (suc n) (r ∷ rs) e = let le = by_length n rs (omega (arith, e)) in omega (arith, le)
