-- Where sets begin, and where the last of them ends, in words.
use Rattle.std.proofs.Common.{◌≡◌, ℕ, zero, suc, ◌+◌, ◌≤◌, Bool, true, false, ◌&&◌, ◌||◌, not, List}
use Rattle.std.proofs.Common.{[], ◌∷◌, ◌++◌, length, filter, take, Some, refl, sym, ap, subst, ◌∙◌}
use Rattle.std.proofs.Common.{inl, inr, arith, append_assoc, All}
use Rattle.std.specs.Prelude.{slice_get, if◌then◌else◌}
use Rattle.std.specs.List.{list_any}
use Rattle.std.specs.Str.{bytes_eq}
use Rattle.std.proofs.Math.Seq.{take-append_seam}
use Rattle.std.proofs.lemmas.Bool.{cases_Bool, or_parts, or_left}
use Rattle.std.proofs.lemmas.List.{append-nil, length-append}
use Rattle.std.proofs.Math.Bool.{or_assoc}
use Rattle.std.proofs.lemmas.List.Elements.{filter-append, All-nil, All-cons}
use Rattle.std.proofs.lemmas.List.Folds.{list_any-append}
use Rattle.std.proofs.lemmas.Slice.Eq.{bytes_eq-Decides}
use Rattle.station_book.specs.Places.{is_among, with_new}
use Rattle.set_marks.specs.declared.sight.Sight.{Sight}
use Rattle.set_marks.specs.Divisions.{is_of, first_target, count_of, is_even, begins_by}
use Rattle.set_marks.specs.Divisions.{places_from, starts_of, last_place, names_with}
use Rattle.set_marks.specs.Divisions.{is_some_known, end_of, seconds_of, is_read_in_two, known_in}
use Rattle.set_marks.specs.Searching.{starts_from}
use Rattle.set_marks.specs.BeginsAndEnds.{without_details}
use Rattle.set_marks.proofs.AmongDetails.{is_known}

-- What stands at the seam of two lists.
at_seam : (front rs : List Sight) (r : Sight) → slice_get (front ++ r ∷ rs) (length front) ≡ Some r
at_seam [] rs r = refl
at_seam (f ∷ front) rs r = at_seam front rs r

-- One reading more is counted, or not.
count_more : (name : List ℕ) (front : List Sight) (r : Sight) → is_of name r ≡ true
    → count_of name (front ++ r ∷ []) ≡ suc (count_of name front)
count_more name front r h = ap length (filter-append (is_of name) front (r ∷ []))
    ∙ length-append (filter (is_of name) front) (filter (is_of name) (r ∷ []))
    ∙ rw h (omega arith)

count_same : (name : List ℕ) (front : List Sight) (r : Sight) → is_of name r ≡ false
    → count_of name (front ++ r ∷ []) ≡ count_of name front
count_same name front r h = ap length (filter-append (is_of name) front (r ∷ []))
    ∙ rw h (ap length (append-nil (filter (is_of name) front)))

-- At the seam a set begins, or not.
begins_at : (name : List ℕ) (front rs : List Sight) (r : Sight)
    → begins_by name (front ++ r ∷ rs) (length front)
    ≡ (is_of name r && is_even (count_of name front))
begins_at name front rs r = rw (at_seam front rs r, take-append_seam front (r ∷ rs)) refl

moved : (name : List ℕ) (even : Bool) (front rs : List Sight) (r : Sight)
    → starts_from name even (length (front ++ r ∷ [])) rs
    ≡ filter (begins_by name ((front ++ r ∷ []) ++ rs)) (places_from (length (front ++ r ∷ [])) rs)
    → starts_from name even (suc (length front)) rs
    ≡ filter (begins_by name (front ++ r ∷ rs)) (places_from (suc (length front)) rs)
moved name even front rs r e =
    let one : (front ++ r ∷ []) ++ rs ≡ front ++ r ∷ rs = append_assoc front (r ∷ []) rs in
    let long : length (front ++ r ∷ []) ≡ suc (length front) =
    length-append front (r ∷ []) ∙ omega arith in
    ap (λ (k : ℕ). starts_from name even k rs) (sym long) ∙ e
    ∙ (λ i. filter (begins_by name (one i)) (places_from (long i) rs))

-- The places from the seam on at which sets begin.
begins_from : (name : List ℕ) (even : Bool) (front rs : List Sight)
    → even ≡ is_even (count_of name front)
    → starts_from name even (length front) rs
    ≡ filter (begins_by name (front ++ rs)) (places_from (length front) rs)
begins_from name even front [] is = refl
begins_from name even front (r ∷ rs) is = elim (cases_Bool (is_of name r)) [
  | inl h ↦ elim (cases_Bool even) [
    | inl v ↦
        let odd : false ≡ is_even (count_of name (front ++ r ∷ [])) =
        sym (ap is_even (count_more name front r h) ∙ ap not (sym is ∙ v)) in
        let here : begins_by name (front ++ r ∷ rs) (length front) ≡ true =
        begins_at name front rs r ∙ rw (h, sym is ∙ v) refl in
        rw (h, v, here) (ap (λ xs. length front ∷ xs)
        (moved name false front rs r (begins_from name false (front ++ r ∷ []) rs odd)))
    | inr v ↦
        let now : true ≡ is_even (count_of name (front ++ r ∷ [])) =
        sym (ap is_even (count_more name front r h) ∙ ap not (sym is ∙ v)) in
        let here : begins_by name (front ++ r ∷ rs) (length front) ≡ false =
        begins_at name front rs r ∙ rw (h, sym is ∙ v) refl in
        rw (h, v, here) (moved name true front rs r
        (begins_from name true (front ++ r ∷ []) rs now))
  ]
  | inr h ↦
      let now : even ≡ is_even (count_of name (front ++ r ∷ [])) =
      is ∙ sym (ap is_even (count_same name front r h)) in
      let here : begins_by name (front ++ r ∷ rs) (length front) ≡ false =
      begins_at name front rs r ∙ rw h refl in
      rw (h, here) (moved name even front rs r
      (begins_from name even (front ++ r ∷ []) rs now))
]

-- The places at which sets begin are those that are found one after another.
pub starts_found : (rs : List Sight) → starts_of rs ≡ starts_from (first_target rs) true 0 rs
starts_found rs = sym (begins_from (first_target rs) true [] rs refl)

-- The first set begins with the first reading.
pub first_start : (r : Sight) (rs : List Sight)
    → starts_of (r ∷ rs) ≡ 0 ∷ starts_from r.target false 1 rs
first_start r rs =
    starts_found (r ∷ rs) ∙ rw ((bytes_eq-Decides r.target r.target).1 refl) refl

-- The last of a place and those after it is none before it.
with_first : (at : ℕ) (ps : List ℕ) → (1 ≤ length ps → suc at ≤ last_place ps)
    → at ≤ last_place (at ∷ ps)
with_first at [] above = omega arith
with_first at (p ∷ ps) above =
    let one : 1 ≤ length (p ∷ ps) = omega arith in
    let more : suc at ≤ last_place (p ∷ ps) = above one in omega (arith, more)

-- No place of a set's begin is below the first.
pub starts_above : (name : List ℕ) (even : Bool) (at : ℕ) (rs : List Sight)
    → 1 ≤ length (starts_from name even at rs) → at ≤ last_place (starts_from name even at rs)
starts_above name even at [] some = absurd (omega (arith, some))
starts_above name even at (r ∷ rs) some = elim (cases_Bool (is_of name r)) [
  | inl h ↦ elim (cases_Bool even) [
    | inl v ↦ rw (h, v) (with_first at (starts_from name false (suc at) rs)
        (starts_above name false (suc at) rs))
    | inr v ↦
        let above : suc at ≤ last_place (starts_from name true (suc at) rs) =
        starts_above name true (suc at) rs (rw (h, v) at some) in
        rw (h, v) (omega (arith, above))
  ]
  | inr h ↦
      let above : suc at ≤ last_place (starts_from name even (suc at) rs) =
      starts_above name even (suc at) rs (rw h at some) in
      rw h (omega (arith, above))
]

-- Two names of which one is listed are not of different bytes.
same_listed : (names : List (List ℕ)) (name other : List ℕ) → bytes_eq name other ≡ true
    → is_among names name ≡ true → is_among names other ≡ true
same_listed names name other e h =
    subst (λ (n : List ℕ). is_among names n ≡ true) ((bytes_eq-Decides name other).0 e) h

pub or_none : (b : Bool) → (b || false) ≡ b
or_none true = refl
or_none false = refl

or_listed : (a b : Bool) → (b ≡ true → a ≡ true) → a ≡ (a || b)
or_listed true b both = refl
or_listed false true both = both refl
or_listed false false both = refl

-- With a name more, what is listed.
pub among_with : (names : List (List ℕ)) (name other : List ℕ)
    → is_among (with_new names name) other ≡ (is_among names other || bytes_eq name other)
among_with names name other = elim (cases_Bool (is_among names name)) [
  | inl h ↦ rw h (or_listed (is_among names other) (bytes_eq name other)
      (λ e. same_listed names name other e h))
  | inr h ↦ rw h (list_any-append (λ x. bytes_eq x other) names (name ∷ [])
      ∙ ap (λ b. is_among names other || b) (or_none (bytes_eq name other)))
]

-- With the targets of readings, what is listed.
pub among_names : (names : List (List ℕ)) (name : List ℕ) (rs : List Sight)
    → is_among (names_with names rs) name ≡ (is_among names name || list_any (is_of name) rs)
among_names names name [] = sym (or_none (is_among names name))
among_names names name (r ∷ rs) =
    among_names (with_new names r.target) name rs
    ∙ ap (λ b. b || list_any (is_of name) rs) (among_with names r.target name)
    ∙ or_assoc (is_among names name) (is_of name r) (list_any (is_of name) rs)

-- Of some readings, the last whose target one of the others has.
pub record LastKnown (others rs : List Sight) : Type 0 where
  pub front : List Sight
  pub last : Sight
  pub after : List Sight
  pub readings : rs ≡ front ++ last ∷ after
  pub here : end_of others rs ≡ length front + 1
  pub known : is_known others last ≡ true
  pub strange : All (λ r. is_known others r ≡ false) after

none_known : (others rs : List Sight) → is_some_known others rs ≡ false → end_of others rs ≡ 0
none_known others [] e = refl
none_known others (r ∷ rs) e = ap (λ b. if b then suc (end_of others rs) else 0) e

all_strange : (others rs : List Sight) → is_some_known others rs ≡ false
    → All (λ r. is_known others r ≡ false) rs
all_strange others [] e = All-nil (λ (r : Sight). is_known others r ≡ false)
all_strange others (r ∷ rs) e =
    let parts = or_parts (is_known others r) (is_some_known others rs) e in
    All-cons (λ (s : Sight). is_known others s ≡ false) r rs parts.0
    (all_strange others rs parts.1)

pub last_known : (others rs : List Sight) → is_some_known others rs ≡ true → LastKnown others rs
last_known others [] e = cc
last_known others (r ∷ rs) e =
    let more : end_of others (r ∷ rs) ≡ suc (end_of others rs) =
    ap (λ b. if b then suc (end_of others rs) else 0) e in
    elim (cases_Bool (is_some_known others rs)) [
      | inl h ↦
          let later = last_known others rs h in
          record {
            front = r ∷ later.front;
            last = later.last;
            after = later.after;
            readings = ap (λ xs. r ∷ xs) later.readings;
            here = more ∙ ap (λ (k : ℕ). suc k) later.here ∙ omega arith;
            known = later.known;
            strange = later.strange;
          }
      | inr h ↦
          record {
            front = [];
            last = r;
            after = rs;
            readings = refl;
            here = more ∙ ap (λ (k : ℕ). suc k) (none_known others rs h) ∙ omega arith;
            known = or_first (is_known others r) (is_some_known others rs) h e;
            strange = all_strange others rs h;
          }
    ] where
      or_first : (a b : Bool) → b ≡ false → (a || b) ≡ true → a ≡ true
      or_first true b f g = refl
      or_first false b f g = cc

-- The opening target is one that a set before the last has.
pub opening_read : (r : Sight) (rs : List Sight) (k : ℕ)
    → 1 ≤ k → list_any (is_of r.target) (take k (r ∷ rs)) ≡ true
opening_read r rs zero le = absurd (omega (arith, le))
opening_read r rs (suc k) le = or_left (is_of r.target r) (list_any (is_of r.target) (take k rs))
    ((bytes_eq-Decides r.target r.target).1 refl)

pub several_above : (r : Sight) (rs : List Sight) → 2 ≤ length (starts_of (r ∷ rs))
    → 1 ≤ last_place (starts_of (r ∷ rs))
several_above r rs many =
    by (first_start r rs) (starts_from r.target false 1 rs) refl where
      by : starts_of (r ∷ rs) ≡ 0 ∷ starts_from r.target false 1 rs
          → (ps : List ℕ) → starts_from r.target false 1 rs ≡ ps
          → 1 ≤ last_place (starts_of (r ∷ rs))
      by is [] e = let two : 2 ≤ length {A = ℕ} (0 ∷ []) =
          subst (λ (qs : List ℕ). 2 ≤ length (0 ∷ qs)) e
          (subst (λ (qs : List ℕ). 2 ≤ length qs) is many) in absurd (omega (arith, two))
      by is (p ∷ ps) e =
          let some : 1 ≤ length (starts_from r.target false 1 rs) =
          subst (λ (qs : List ℕ). 1 ≤ length qs) (sym e) (omega arith) in
          let above : 1 ≤ last_place (p ∷ ps) = subst (λ (qs : List ℕ). 1 ≤ last_place qs) e
          (starts_above r.target false 1 rs some) in
          subst (λ (qs : List ℕ). 1 ≤ last_place qs) (sym (is ∙ ap (λ qs. 0 ∷ qs) e)) above

-- A target is read in face II where one of the readings in face II is of it.
pub in_two : (name : List ℕ) (rs : List Sight)
    → list_any (is_of name) (seconds_of rs) ≡ is_read_in_two rs name
in_two name [] = refl
in_two name (r ∷ rs) = elim (cases_Bool r.second) [
  | inl h ↦ elim (cases_Bool (is_of name r)) [
    | inl v ↦ rw (h, v) refl
    | inr v ↦ rw (h, v) (in_two name rs)
  ]
  | inr h ↦ elim (cases_Bool (is_of name r)) [
    | inl v ↦ rw (h, v) (in_two name rs)
    | inr v ↦ rw (h, v) (in_two name rs)
  ]
]

-- Of readings of a station, those of the targets that one in face II is of are no details.
pub known_two : (all rs : List Sight) → known_in (seconds_of all) rs ≡ without_details all rs
known_two all rs = λ i. filter (λ r. in_two r.target all i) rs

-- Where none of some readings passes a test, each fails it.
pub none_pass : (p : Sight → Bool) (rs : List Sight) → list_any p rs ≡ false
    → All (λ r. p r ≡ false) rs
none_pass p [] e = All-nil (λ (r : Sight). p r ≡ false)
none_pass p (r ∷ rs) e =
    let parts = or_parts (p r) (list_any p rs) e in
    All-cons (λ (s : Sight). p s ≡ false) r rs parts.0 (none_pass p rs parts.1)
