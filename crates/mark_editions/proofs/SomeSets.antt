-- Where the first edition marks sets, the second never says that there are none.
use Rattle.std.proofs.Common.{◌≡◌, ℕ, suc, ◌≤◌, Bool, true, false, ◌&&◌, ◌||◌, not, List, []}
use Rattle.std.proofs.Common.{◌∷◌, ◌++◌, length, drop, refl, sym, ap, subst, ◌∙◌, inl, inr}
use Rattle.std.proofs.Common.{Option, Some, None, arith, All}
use Rattle.std.specs.Prelude.{Contains}
use Rattle.std.specs.List.{list_all, list_any}
use Rattle.std.proofs.Math.Seq.{take-append_seam}
use Rattle.std.proofs.lemmas.Bool.{cases_Bool, false≢true, or_cases}
use Rattle.std.proofs.lemmas.List.Sums.{AllPass-from_list_all}
use Rattle.std.proofs.lemmas.List.Elements.{All-head, All-tail, All-take, All-drop}
use Rattle.std.proofs.lemmas.List.Elements.{All-contains_itself}
use Rattle.std.proofs.lemmas.Slice.Eq.{bytes_eq-Decides}
use Rattle.set_marks.specs.declared.division.Divided.TheVariants.{NoSets, Sets}
use Rattle.set_marks.specs.declared.flaw.Flaw.{Flaw}
use Rattle.set_marks.specs.declared.sight.Sight.{Sight}
use Rattle.set_marks.specs.declared.span.Span.{Span}
use Rattle.job_statements.specs.declared.stated.Numbers.{Numbers}
use Rattle.set_marks.specs.Divisions.{is_of, are_in_face, first_target, seconds_of, divided_unless}
use Rattle.set_marks.specs.Divisions.{span_from}
use Rattle.set_marks.specs.Divisions.{begins_with_pair, has_no_sets}
use Rattle.set_marks.specs.SetsInWords.{one_after_another, ReadsEachOnce}
use Rattle.set_marks.specs.Divisions.{count_of}
use Rattle.set_marks.specs.Ways.{Way, ways_of, no_way_flaw, doubt_by, span_by, divided_by}
use Rattle.set_marks.specs.Ways.{divided}
use Rattle.set_marks.proofs.SameSets.{all_so, some_second}
use Rattle.mark_editions.specs.FirstEdition.{are_in_one_face, first_divided}
use Rattle.mark_editions.proofs.Rows.{end_in, rows}
use Rattle.mark_editions.proofs.Counts.{read_twice, of_read}
use Rattle.mark_editions.proofs.Editions.{FirstFound, first_found}

-- in face I, or of this target
abbrev is_back : List ℕ → Sight → Bool
is_back name r = not r.second || is_of name r

-- A target that is read in face II is the one of which all in face II are.
one_back : (name target : List ℕ) (rs : List Sight) → All (λ r. is_back name r ≡ true) rs
    → list_any (is_of target) (seconds_of rs) ≡ true → target ≡ name
one_back name target [] all e = cc
one_back name target (r ∷ rs) all e = elim (cases_Bool r.second) [
  | inl h ↦
      let back : is_of name r ≡ true =
      rw h at (All-head (λ (s : Sight). is_back name s ≡ true) r rs all) in
      elim (or_cases (is_of target r) (list_any (is_of target) (seconds_of rs)) (rw h at e)) [
        | inl of ↦ sym ((bytes_eq-Decides r.target target).0 of)
            ∙ (bytes_eq-Decides r.target name).0 back
        | inr more ↦ one_back name target rs
            (All-tail (λ (s : Sight). is_back name s ≡ true) r rs all) more
      ]
  | inr h ↦ one_back name target rs
      (All-tail (λ (s : Sight). is_back name s ≡ true) r rs all) (rw h at e)
]

all_counted : (name : List ℕ) (rs : List Sight) → All (λ r. r.target ≡ name) rs
    → count_of name rs ≡ length rs
all_counted name [] all = refl
all_counted name (r ∷ rs) all =
    let more = all_counted name rs (All-tail (λ (s : Sight). s.target ≡ name) r rs all) in
    rw ((bytes_eq-Decides r.target name).1 (All-head (λ (s : Sight). s.target ≡ name) r rs all))
    (ap (λ (k : ℕ). suc k) more)

-- A set has two targets, so not all of its readings in face II are of one.
not_back : (name : List ℕ) (set : List Sight) → ReadsEachOnce set
    → All (λ r. is_back name r ≡ true) set → ⊥
not_back name set once all =
    let many = once.many in
    let same : All (λ r. r.target ≡ name) set =
    all_so (λ r. Contains set r) (λ r. r.target ≡ name)
    (λ r here. one_back name r.target set all
    (some_second r.target set (let one = once.once r true here in omega (arith, one))))
    set (All-contains_itself set) in
    let counted = all_counted name set same in
    let two : count_of name set ≡ 2 =
    of_read (λ (target : List ℕ). count_of target set ≡ 2) name set (read_twice set once)
    (omega (arith, counted, many)) in
    omega (arith, counted, many, two)

front_of : (P : Sight → Type 0) (xs ys : List Sight) → All P (xs ++ ys) → All P xs
front_of P xs ys all = subst (λ (l : List Sight). All P l) (take-append_seam xs ys)
    (All-take P (length xs) (xs ++ ys) all)

no_sight_back : (rs : List Sight) (here : Span) → FirstFound rs here → (name : List ℕ)
    → list_all (λ r. not r.second || is_of name r) rs ≡ false
no_sight_back rs here found name = elim (cases_Bool (list_all (is_back name) rs)) [
  | inr h ↦ h
  | inl h ↦
      let after = drop found.leading rs in
      let first = found.first in
      let are = rows after first.some first.none in
      let all : All (λ r. is_back name r ≡ true) (one_after_another are.sets) =
      subst (λ (l : List Sight). All (λ r. is_back name r ≡ true) l) (sym are.same)
      (All-take (λ (r : Sight). is_back name r ≡ true) (end_in after) after
      (All-drop (λ (r : Sight). is_back name r ≡ true) found.leading rs
      (AllPass-from_list_all (is_back name) rs h))) in
      absurd (by are.sets are.each are.some all)
] where
  by : (sets : List (List Sight)) → All ReadsEachOnce sets → 1 ≤ length sets
      → All (λ r. is_back name r ≡ true) (one_after_another sets) → ⊥
  by [] each some all = omega (arith, some)
  by (set ∷ sets) each some all = not_back name set (All-head ReadsEachOnce set sets each)
      (front_of (λ r. is_back name r ≡ true) set (one_after_another sets) all)

two_faces : (rs : List Sight) → are_in_one_face rs ≡ false → are_in_face false rs ≡ false
two_faces [] e = absurd (false≢true (sym e))
two_faces (r ∷ rs) e = elim (cases_Bool r.second) [
  | inl h ↦ rw h refl
  | inr h ↦ rw h (rw h at e)
]

never_back : (a b c : Bool) → b ≡ false → (a && b && c) ≡ false
never_back true false c e = refl
never_back false false c e = refl
never_back a true c e = cc

has_sets_too : (rs : List Sight) (here : Span) → first_divided rs ≡ Sets here
    → has_no_sets rs ≡ false
has_sets_too rs here e =
    let found = first_found rs here e in
    rw (two_faces rs found.faces)
    (never_back (begins_with_pair rs)
    (list_all (λ r. not r.second || is_of (first_target rs) r) rs)
    (not (list_all (is_of (first_target rs)) rs)) (no_sight_back rs here found (first_target rs)))

pub some_sets : (stated : Numbers) (rs : List Sight) (here : Span)
    → first_divided rs ≡ Sets here → divided stated rs ≡ NoSets → ⊥
some_sets stated rs here e f =
    let g : divided_by stated rs (ways_of rs) ≡ NoSets = rw (has_sets_too rs here e) at f in
    never (ways_of rs) g
  where
    unless_never : (o : Option Flaw) (span : Span) → divided_unless o span ≡ NoSets → ⊥
    unless_never None span e = cc
    unless_never (Some f) span e = cc

    never : (ways : List Way) → divided_by stated rs ways ≡ NoSets → ⊥
    never [] e = unless_never (no_way_flaw rs) (span_from 0 []) e
    never (way ∷ []) e = unless_never (doubt_by stated rs way) (span_by rs way) e
    never (way ∷ another ∷ ways) e = cc
