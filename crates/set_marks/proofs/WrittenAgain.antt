-- Set-up lines that are written again: each station has a count of them, only lines of its own name
-- are counted, and none where it isn't stated that such a line begins nothing.
use Rattle.std.proofs.Common.{◌≡◌, ℕ, ◌+◌, suc, Bool, true, false, ◌&&◌, List, [], ◌∷◌, ◌++◌, length}
use Rattle.std.proofs.Common.{Option, Some, None, refl, sym, ap, subst, ◌∙◌, inl, inr, All}
use Rattle.std.specs.Prelude.{if◌then◌else◌, is_some, is_none}
use Rattle.std.proofs.lemmas.Bool.{cases_Bool, and_parts}
use Rattle.std.proofs.lemmas.List.{append-nil, length-append}
use Rattle.std.proofs.lemmas.List.Elements.{All-nil, All-cons, All-append}
use Rattle.gsi_word.specs.Blocks.{GsiBlock}
use Rattle.station_book.specs.Places.{History}
use Rattle.job_statements.specs.declared.beginnings.Beginnings.{Beginnings}
use Rattle.set_marks.specs.declared.sight.Sight.{Sight}
use Rattle.set_marks.specs.Stations.{SetUp, sights_of, begins_named, is_open_as, unless_open}
use Rattle.set_marks.specs.Stations.{begins_after, set_up_of, open_name, set_ups_of, occupations}
use Rattle.set_marks.specs.Stations.{stated_or, stations_of}
use Rattle.set_marks.specs.WrittenAgain.{is_written_again, last_once_more, none_yet, counts_of}
use Rattle.set_marks.specs.WrittenAgain.{stated_count_or, written_again_of}

-- A line that counts is of the station that is open.
opened : (same has : Bool) (name : List ℕ)
    → is_none (if same && has then None else Some name) ≡ true → (same ≡ true) × (has ≡ true)
opened true true name e = (refl, refl)
opened true false name e = cc
opened false has name e = cc

pub own_name : (beginnings : Beginnings) (current : Option (List ℕ)) (b : GsiBlock)
    → is_written_again beginnings current b ≡ true
    → (name : List ℕ) × (begins_named beginnings b ≡ Some name)
    × (is_open_as name current ≡ true) × (beginnings.same_set_up ≡ true)
own_name beginnings current b e = by (begins_named beginnings b) refl e where
  by : (o : Option (List ℕ)) → begins_named beginnings b ≡ o
      → (is_some o && is_none (unless_open beginnings.same_set_up current o)) ≡ true
      → (name : List ℕ) × (begins_named beginnings b ≡ Some name)
      × (is_open_as name current ≡ true) × (beginnings.same_set_up ≡ true)
  by None is f = cc
  by (Some name) is f =
      let both = opened beginnings.same_set_up (is_open_as name current) name f in
      (name, is, both.1, both.0)

-- Each such line counts.
joined : (same has : Bool) (name : List ℕ) → same ≡ true → has ≡ true
    → is_none (if same && has then None else Some name) ≡ true
joined true true name s o = refl
joined true false name s o = cc
joined false has name s o = cc

pub own_line : (beginnings : Beginnings) (current : Option (List ℕ)) (b : GsiBlock)
    (name : List ℕ) → begins_named beginnings b ≡ Some name → is_open_as name current ≡ true
    → beginnings.same_set_up ≡ true → is_written_again beginnings current b ≡ true
own_line beginnings current b name is has same =
    ap (λ (o : Option (List ℕ)).
    is_some o && is_none (unless_open beginnings.same_set_up current o)) is
    ∙ joined beginnings.same_set_up (is_open_as name current) name same has

-- The same number of counts.
as_many : (counts : List ℕ) → length (last_once_more counts) ≡ length counts
as_many [] = refl
as_many (n ∷ []) = refl
as_many (n ∷ m ∷ later) = ap (λ (k : ℕ). suc k) (as_many (m ∷ later))

-- A station that begins has one.
one_for_each : (from : ℕ) (name : Option (List ℕ))
    → length (none_yet name) ≡ length (set_up_of from name)
one_for_each from None = refl
one_for_each from (Some name) = refl

is_nothing : (o : Option (List ℕ)) → is_none o ≡ true → o ≡ None
is_nothing None e = refl
is_nothing (Some name) e = cc

-- So many counts as stations that blocks begin.
begun_are_counted : (beginnings : Beginnings) (h : History)
    → length (counts_of beginnings h) ≡ length (set_ups_of beginnings h)
begun_are_counted beginnings [] = refl
begun_are_counted beginnings (b ∷ past) =
    let ss = set_ups_of beginnings past in
    let counts = counts_of beginnings past in
    let from = length (sights_of past) in
    let o = begins_after beginnings (open_name ss) b in
    let before = begun_are_counted beginnings past in
    elim (cases_Bool (is_written_again beginnings (open_name ss) b)) [
      | inl again ↦
          let none : o ≡ None = is_nothing o
          (and_parts (is_some (begins_named beginnings b)) (is_none o) again).1 in
          ap (λ (t : Bool). length (if t then last_once_more counts else counts ++ none_yet o)) again
          ∙ as_many counts ∙ before
          ∙ sym (ap (λ (x : Option (List ℕ)). length (ss ++ set_up_of from x)) none
          ∙ ap (λ (ts : List SetUp). length ts) (append-nil ss))
      | inr new ↦
          ap (λ (t : Bool). length (if t then last_once_more counts else counts ++ none_yet o)) new
          ∙ length-append counts (none_yet o)
          ∙ ap (λ (k : ℕ). k + length (none_yet o)) before
          ∙ ap (λ (k : ℕ). length ss + k) (one_for_each from o)
          ∙ sym (length-append ss (set_up_of from o))
    ]

-- So many stations as begin.
all_occupied : (ss : List SetUp) (rs : List Sight) → length (occupations ss rs) ≡ length ss
all_occupied [] rs = refl
all_occupied (s ∷ []) rs = refl
all_occupied (s ∷ t ∷ later) rs = ap (λ (k : ℕ). suc k) (all_occupied (t ∷ later) rs)

pub each_is_counted : (beginnings : Beginnings) (h : History)
    → length (written_again_of beginnings h) ≡ length (stations_of beginnings h)
each_is_counted beginnings h = by beginnings.station where
  by : (station : Option (List ℕ)) → length (stated_count_or station (counts_of beginnings h))
      ≡ length (occupations (stated_or station (set_ups_of beginnings h)) (sights_of h))
  by (Some name) = refl
  by None = begun_are_counted beginnings h
      ∙ sym (all_occupied (set_ups_of beginnings h) (sights_of h))

-- Where nothing is stated, no line counts.
unstated_is_new : (current o : Option (List ℕ))
    → (is_some o && is_none (unless_open false current o)) ≡ false
unstated_is_new current None = refl
unstated_is_new current (Some name) = refl

abbrev IsZero : ℕ → Type 0
IsZero n = n ≡ 0

none_of_one : (name : Option (List ℕ)) → All IsZero (none_yet name)
none_of_one None = All-nil IsZero
none_of_one (Some name) = All-cons IsZero 0 [] refl (All-nil IsZero)

none_counted : (beginnings : Beginnings) (h : History) → beginnings.same_set_up ≡ false
    → All IsZero (counts_of beginnings h)
none_counted beginnings [] unstated = All-nil IsZero
none_counted beginnings (b ∷ past) unstated =
    let current = open_name (set_ups_of beginnings past) in
    let counts = counts_of beginnings past in
    let begins = none_yet (begins_after beginnings current b) in
    let new : is_written_again beginnings current b ≡ false =
    ap (λ (same : Bool). is_some (begins_named beginnings b)
    && is_none (unless_open same current (begins_named beginnings b))) unstated
    ∙ unstated_is_new current (begins_named beginnings b) in
    subst (λ (ns : List ℕ). All IsZero ns)
    (sym (ap (λ (t : Bool). if t then last_once_more counts else counts ++ begins) new))
    (All-append IsZero counts begins (none_counted beginnings past unstated)
    (none_of_one (begins_after beginnings current b)))

pub none_unstated : (beginnings : Beginnings) (h : History) → beginnings.same_set_up ≡ false
    → All (λ n. n ≡ 0) (written_again_of beginnings h)
none_unstated beginnings h unstated = by beginnings.station where
  by : (station : Option (List ℕ))
      → All IsZero (stated_count_or station (counts_of beginnings h))
  by (Some name) = All-cons IsZero 0 [] refl (All-nil IsZero)
  by None = none_counted beginnings h unstated
