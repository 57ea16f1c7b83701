-- How the fewest leading readings of an ending are looked for.
use Rattle.std.proofs.Common.{◌≡◌, ℕ, zero, suc, ◌+◌, ◌-◌, ◌<◌, ◌≤◌, Bool, true, false}
use Rattle.std.proofs.Common.{List, [], ◌∷◌, length, take, drop, Option, Some, None, refl, sym}
use Rattle.std.proofs.Common.{ap, ◌∙◌, arith, inl, inr, ◌⊎◌}
use Rattle.std.specs.Prelude.{nat_le, nat_lt, is_none, slice_get}
use Rattle.std.specs.Option.{option_map}
use Rattle.std.proofs.lemmas.Bool.{cases_Bool, cases_lt, le-leb, lt-leb, ltb-true}
use Rattle.std.proofs.lemmas.List.{drop-drop, length-take, length-drop}
use Rattle.gsi_file.specs.FileAnswers.{least}
use Rattle.station_book.specs.Faults.{first_of}
use Rattle.set_marks.specs.declared.bounds.TheConstants.{MOST_READINGS}
use Rattle.set_marks.specs.declared.fault.MarkKind.TheVariants as kinds
use Rattle.set_marks.specs.declared.flaw.Flaw.{Flaw}
use Rattle.set_marks.specs.declared.outside.Ending.{Ending}
use Rattle.set_marks.specs.declared.outside.Ending.TheVariants.{Nothing, CheckSights, CheckPair}
use Rattle.set_marks.specs.declared.sight.Sight.{Sight}
use Rattle.set_marks.specs.Divisions.{flaw_at, flaw_when, seconds_of, rest_of, place_of, starts_of}
use Rattle.set_marks.specs.Divisions.{is_by_targets, are_in_face, first_cut, cut_end}
use Rattle.set_marks.specs.Divisions.{sets_flaw, flaw_found, begins_with_pair}
use Rattle.set_marks.specs.Outside.{is_ended, may_end, before_ending, in_ending, last_of}
use Rattle.set_marks.specs.Searching.{ends_in_one, seems_ended, may_be_plain, may_open}
use Rattle.set_marks.specs.Searching.{may_divide, IsClosed}
use Rattle.set_marks.specs.Ways.{flaw_after, is_division, leading_of, most_leading}
use Rattle.set_marks.specs.Ways.{cut_flaw, is_no_end, detail_between}
use Rattle.set_marks.proofs.Endings.{last_stays, no_checks}
use Rattle.set_marks.proofs.Opening.{not_opened}

-- The least number that passes, where none before it does.
pub least_at : (p : ℕ → Bool) (last n : ℕ) → n ≤ last → ((k : ℕ) → k < n → p k ≡ false)
    → p n ≡ true → least p last ≡ Some n
least_at p zero zero le none here = rw here refl
least_at p zero (suc n) le none here = absurd (omega (arith, le))
least_at p (suc last) zero le none here = rw here refl
least_at p (suc last) (suc n) le none here = rw (none 0 (omega arith))
    (ap (λ o. option_map (λ k. suc k) o)
    (least_at (λ k. p (suc k)) last n (omega (arith, le))
    (λ k lt. none (suc k) (omega (arith, lt))) here))

-- There is none where none passes.
pub least_none : (p : ℕ → Bool) (last : ℕ) → ((k : ℕ) → k ≤ last → p k ≡ false)
    → least p last ≡ None
least_none p zero none = rw (none 0 (omega arith)) refl
least_none p (suc last) none = rw (none 0 (omega arith))
    (ap (λ o. option_map (λ k. suc k) o)
    (least_none (λ k. p (suc k)) last (λ k le. none (suc k) (omega (arith, le)))))

-- No more lead than there are.
pub no_rest : (ending : Ending) (rs : List Sight) (n : ℕ) → length (rest_of rs) ≤ n
    → is_division ending rs n ≡ false
no_rest ending rs n le = rw (le-leb (length (rest_of rs)) n le) refl

-- How many are tried.
many_tried : (rs : List Sight) → most_leading rs ≤ MOST_READINGS
many_tried rs = let long = length-take MOST_READINGS (drop 1 (rest_of rs)) in omega (arith, long)

pub within : (rs : List Sight) (n : ℕ) → n < length (rest_of rs) → n ≤ MOST_READINGS
    → n ≤ most_leading rs
within rs n lt le =
    let long = length-take MOST_READINGS (drop 1 (rest_of rs)) in
    let more = length-drop 1 (rest_of rs) in omega (arith, long, more, lt, le)

-- The first that gives sets is the fewest.
pub found_leading : (ending : Ending) (rs rest : List Sight) (n : ℕ) → rest ≡ rest_of rs
    → n < length rest → n ≤ MOST_READINGS
    → ((k : ℕ) → k < n → is_division ending rs k ≡ false) → true ≡ is_division ending rs n
    → Some n ≡ leading_of ending rs
found_leading ending rs rest n is lt le none here =
    let long = ap length is in
    sym (least_at (is_division ending rs) (most_leading rs) n
    (within rs n (omega (arith, lt, long)) le) none (sym here))

-- If all were tried, there is none.
pub found_none : (ending : Ending) (rs rest : List Sight) (n : ℕ) → rest ≡ rest_of rs
    → (n < length rest → MOST_READINGS < n)
    → ((k : ℕ) → k < n → is_division ending rs k ≡ false)
    → None ≡ leading_of ending rs
found_none ending rs rest n is all none =
    sym (least_none (is_division ending rs) (most_leading rs) (λ k le. at k le (cases_lt k n)))
  where
    at : (k : ℕ) → k ≤ most_leading rs → ((k < n) ⊎ (n ≤ k)) → is_division ending rs k ≡ false
    at k le (inl lt) = none k lt
    at k le (inr ge) = elim (cases_lt k (length (rest_of rs))) [
      | inr more ↦ no_rest ending rs k more
      | inl lt ↦
          let long = ap length is in
          let many = many_tried rs in
          let big = all (omega (arith, lt, ge, long)) in
          absurd (omega (arith, big, ge, le, many))
    ]

some_second : (a : Option Flaw) (f : Flaw) → is_none (first_of (a ∷ Some f ∷ [])) ≡ false
some_second None f = refl
some_second (Some a) f = refl

some_third : (a b : Option Flaw) (f : Flaw) → is_none (first_of (a ∷ b ∷ Some f ∷ [])) ≡ false
some_third None None f = refl
some_third None (Some b) f = refl
some_third (Some a) b f = refl

some_first : (a b : Option Flaw) → is_none a ≡ false → is_none (first_of (a ∷ b ∷ [])) ≡ false
some_first None b e = cc
some_first (Some a) b e = refl

-- More than three readings that are neither all in face I nor pairs may not lead.
not_plain : (all leading : List Sight) (place : ℕ) (starts : List ℕ) (sets : List Sight)
    → nat_le (length leading) 3 ≡ false → are_in_face false leading ≡ false
    → is_by_targets leading ≡ false → is_none (cut_flaw all leading place starts sets) ≡ false
not_plain all leading place starts sets many one by =
    rw (many, one, by) (some_third
    (sets_flaw (first_cut starts sets) 0 (cut_end starts sets) starts sets)
    (flaw_found kinds.FaceMissing (detail_between all place (place + cut_end starts sets)))
    (flaw_at kinds.OneSet (slice_get sets 0)))

-- So they aren't few, and neither all in face I nor pairs.
no_plain : (all leading : List Sight) (place : ℕ) (starts : List ℕ) (sets : List Sight)
    → may_be_plain leading ≡ false → is_none (cut_flaw all leading place starts sets) ≡ false
no_plain all leading place starts sets e = elim (cases_Bool (nat_le (length leading) 3)) [
  | inl m ↦ let f : true ≡ false = rw m at e in cc
  | inr m ↦ elim (cases_Bool (are_in_face false leading)) [
    | inl o ↦ let f : true ≡ false = rw (m, o) at e in cc
    | inr o ↦ elim (cases_Bool (is_by_targets leading)) [
      | inl p ↦ let f : true ≡ false = rw (m, o, p) at e in cc
      | inr p ↦ not_plain all leading place starts sets m o p
    ]
  ]
]

not_ended : (ending : Ending) (all leading : List Sight) (place : ℕ) (rs : List Sight)
    → is_ended ending rs ≡ false → is_none (flaw_after ending all leading place rs) ≡ false
not_ended ending all leading place rs h = rw h refl

not_led : (ending : Ending) (all leading : List Sight) (place : ℕ) (rs : List Sight)
    → may_be_plain leading ≡ false → is_none (flaw_after ending all leading place rs) ≡ false
not_led ending all leading place rs e = elim (cases_Bool (is_ended ending rs)) [
  | inr h ↦ not_ended ending all leading place rs h
  | inl h ↦ rw h (some_first
      (cut_flaw all leading place (starts_of (before_ending ending rs)) (before_ending ending rs))
      (flaw_when (is_no_end all place ending (before_ending ending rs) (in_ending ending rs))
      kinds.OneTarget (slice_get (in_ending ending rs) 0))
      (no_plain all leading place (starts_of (before_ending ending rs)) (before_ending ending rs)
      e))
]

not_open : (ending : Ending) (all leading : List Sight) (place : ℕ) (rs : List Sight)
    → 0 < length rs → may_open rs ≡ false
    → is_none (flaw_after ending all leading place rs) ≡ false
not_open ending all leading place rs some e = elim (cases_Bool (is_ended ending rs)) [
  | inr h ↦ not_ended ending all leading place rs h
  | inl h ↦ rw h (some_first
      (cut_flaw all leading place (starts_of (before_ending ending rs)) (before_ending ending rs))
      (flaw_when (is_no_end all place ending (before_ending ending rs) (in_ending ending rs))
      kinds.OneTarget (slice_get (in_ending ending rs) 0))
      (not_opened ending all leading place rs some h e))
]

not_alike : (ending : Ending) (all leading : List Sight) (place : ℕ) (rs : List Sight)
    → may_end ending (before_ending ending rs) (in_ending ending rs) ≡ false
    → is_none (flaw_after ending all leading place rs) ≡ false
not_alike ending all leading place rs k = elim (cases_Bool (is_ended ending rs)) [
  | inr h ↦ not_ended ending all leading place rs h
  | inl h ↦ rw (h, k) (some_second
      (cut_flaw all leading place (starts_of (before_ending ending rs)) (before_ending ending rs))
      (flaw_at kinds.OneTarget (slice_get (in_ending ending rs) 0)))
]

-- Where there may be no sets, there are none.
closed_after : (ending : Ending) (all leading : List Sight) (place : ℕ) (rs : List Sight)
    → 0 < length rs → may_divide ending leading rs ≡ false
    → is_none (flaw_after ending all leading place rs) ≡ false
closed_after Nothing all leading place rs some e = elim (cases_Bool (may_be_plain leading)) [
  | inr k ↦ not_led Nothing all leading place rs k
  | inl k ↦ not_open Nothing all leading place rs some (rw k at e)
]
closed_after CheckSights all leading place rs some e = elim (cases_Bool (ends_in_one rs)) [
  | inr h ↦ not_ended CheckSights all leading place rs (sym (no_checks rs h))
  | inl h ↦ elim (cases_Bool (may_be_plain leading)) [
    | inr k ↦ not_led CheckSights all leading place rs k
    | inl k ↦ elim (cases_Bool (may_open rs)) [
      | inr o ↦ not_open CheckSights all leading place rs some o
      | inl o ↦ not_ended CheckSights all leading place rs (rw (h, k, o) at e)
    ]
  ]
]
closed_after CheckPair all leading place rs some e = elim (cases_Bool (is_ended CheckPair rs)) [
  | inr h ↦ not_ended CheckPair all leading place rs h
  | inl h ↦ elim (cases_Bool (may_end CheckPair (before_ending CheckPair rs)
      (in_ending CheckPair rs))) [
        | inr k ↦ not_alike CheckPair all leading place rs k
        | inl k ↦ elim (cases_Bool (may_be_plain leading)) [
          | inr p ↦ not_led CheckPair all leading place rs p
          | inl p ↦ not_open CheckPair all leading place rs some (rw (h, k, p) at e)
        ]
      ]
]

-- Whether there are sets is asked of the readings after the leading ones.
divides_after : (ending : Ending) (rs rest : List Sight) (n : ℕ) → rest ≡ rest_of rs
    → n < length rest → is_division ending rs n
    ≡ is_none (flaw_after ending rs (take n rest) (place_of (seconds_of rs) n rs) (drop n rest))
divides_after ending rs rest n is lt =
    let few : nat_le (length (rest_of rs)) n ≡ false =
    lt-leb (length (rest_of rs)) n (let long = ap length is in omega (arith, lt, long)) in
    at few ∙ ap (λ (l : List Sight). is_none (flaw_after ending rs (take n l)
    (place_of (seconds_of rs) n rs) (drop n l))) (sym is)
  where
    at : nat_le (length (rest_of rs)) n ≡ false → is_division ending rs n
        ≡ is_none (flaw_after ending rs (take n (rest_of rs)) (place_of (seconds_of rs) n rs)
        (drop n (rest_of rs)))
    at few = rw few refl

pub closed_at : (ending : Ending) (rs rest : List Sight) (n : ℕ) → rest ≡ rest_of rs
    → n < length rest → may_divide ending (take n rest) (drop n rest) ≡ false
    → false ≡ is_division ending rs n
closed_at ending rs rest n is lt closed =
    let long = length-drop n rest in
    sym (divides_after ending rs rest n is lt
    ∙ closed_after ending rs (take n rest) (place_of (seconds_of rs) n rs) (drop n rest)
    (omega (arith, long, lt)) closed)

pub open_at : (ending : Ending) (rs rest : List Sight) (n : ℕ) (o : Option Flaw) → rest ≡ rest_of rs
    → n < length rest
    → o ≡ flaw_after ending rs (take n rest) (place_of (seconds_of rs) n rs) (drop n rest)
    → is_none o ≡ is_division ending rs n
open_at ending rs rest n o is lt e = ap is_none e ∙ sym (divides_after ending rs rest n is lt)

-- With an ending that is closed there are no sets.
closed_in : (ending : Ending) (rs rest : List Sight) → rest ≡ rest_of rs → IsClosed ending rest
    → leading_of ending rs ≡ None
closed_in ending rs rest is closed =
    least_none (is_division ending rs) (most_leading rs) (λ k le. at k le)
  where
    at : (k : ℕ) → k ≤ most_leading rs → is_division ending rs k ≡ false
    at k le = elim (cases_lt k (length rest)) [
      | inr more ↦ no_rest ending rs k (let long = ap length is in omega (arith, more, long))
      | inl lt ↦ sym (closed_at ending rs rest k is lt
          (closed k lt (let many = many_tried rs in omega (arith, many, le))))
    ]

pub closed_none : (ending : Ending) (rs : List Sight) → rest_of rs ≡ rs → IsClosed ending rs
    → leading_of ending rs ≡ None
closed_none ending rs rest closed = closed_in ending rs rs (sym rest) closed

-- Whatever leads, the last two readings stay.
no_pair : (n : ℕ) (rs : List Sight) → begins_with_pair (last_of 2 rs) ≡ false
    → is_ended CheckPair (drop n rs) ≡ false
no_pair n rs e = elim (cases_Bool (nat_lt 2 (length (drop n rs)))) [
  | inr h ↦ rw h refl
  | inl h ↦
      let more : 2 < length (drop n rs) = ltb-true 2 (length (drop n rs)) h in
      let long : length (drop n rs) ≡ length rs - n = length-drop n rs in
      let place : n + (length (drop n rs) - 2) ≡ length rs - 2 = omega (arith, more, long) in
      let last : last_of 2 (drop n rs) ≡ last_of 2 rs =
      drop-drop (length (drop n rs) - 2) n rs ∙ ap (λ (k : ℕ). drop k rs) place in
      let none : begins_with_pair (last_of 2 (drop n rs)) ≡ false = ap begins_with_pair last ∙ e in
      rw (h, none) refl
]

-- Where the last readings are no such ending, it is closed.
pub closed_by_last : (ending : Ending) (rest : List Sight) → seems_ended ending rest ≡ false
    → IsClosed ending rest
closed_by_last Nothing rest e = λ n lt le. cc
closed_by_last CheckSights rest e = λ n lt le.
    let last : ends_in_one (drop n rest) ≡ false = last_stays n rest lt ∙ e in rw last refl
closed_by_last CheckPair rest e = λ n lt le.
    let none : is_ended CheckPair (drop n rest) ≡ false = no_pair n rest e in rw none refl

-- Then no number of leading readings gives sets.
pub none_by_last : (ending : Ending) (rs rest : List Sight) → rest ≡ rest_of rs
    → seems_ended ending rest ≡ false → None ≡ leading_of ending rs
none_by_last ending rs rest is e =
    sym (closed_in ending rs rest is (closed_by_last ending rest e))

-- One more that doesn't pass.
pub none_more : (p : ℕ → Bool) (n : ℕ) → ((k : ℕ) → k < n → p k ≡ false) → p n ≡ false
    → (k : ℕ) → k < n + 1 → p k ≡ false
none_more p n none here k lt = elim (cases_lt k n) [
  | inl less ↦ none k less
  | inr ge ↦ let same : k ≡ n = omega (arith, lt, ge) in ap p same ∙ here
]
