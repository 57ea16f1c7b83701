-- What stands before the sets of a station and after them, and how they are read, in words.
use Rattle.std.proofs.Common.{◌≡◌, ◌⊎◌, ℕ, zero, suc, ◌/◌, ◌-◌, ◌≤◌, Bool, true, false}
use Rattle.std.proofs.Common.{◌&&◌, ◌||◌, not, List, [], ◌∷◌, ◌++◌, length, take, drop, All}
use Rattle.std.proofs.Common.{None, inl, inr, refl, sym, ap, subst, ◌∙◌, arith}
use Rattle.std.specs.Prelude.{◌≢◌, nat_lt, nat_le, slice_get, slice_index_or, is_none, Any}
use Rattle.std.specs.List.{list_all, list_any}
use Rattle.std.specs.Str.{bytes_eq}
use Rattle.std.proofs.lemmas.Bool.{cases_Bool, false≢true, and_parts, or_cases, or_parts, not-true}
use Rattle.std.proofs.lemmas.Bool.{leb-true, ltb-true, lt-leb, lt-ltb, le-leb, and_from}
use Rattle.std.proofs.lemmas.Bool.{or_left, or_right}
use Rattle.std.proofs.Math.Seq.{take-length}
use Rattle.std.proofs.lemmas.List.{take_all, take-take, take-append-le, length-take, drop-drop}
use Rattle.std.proofs.lemmas.List.Elements.{All-nil, All-cons, All-head}
use Rattle.std.proofs.lemmas.List.Folds.{Any-from_list_any, list_any-from_Any}
use Rattle.std.proofs.lemmas.List.Sums.{AllPass-from_list_all}
use Rattle.std.proofs.lemmas.Slice.Eq.{bytes_eq-Decides}
use Rattle.station_book.proofs.readings.CleanBlocks.{all_none}
use Rattle.set_marks.specs.declared.fault.MarkKind.TheVariants as kinds
use Rattle.set_marks.specs.declared.division.Divided.TheVariants.{Sets}
use Rattle.set_marks.specs.declared.sight.Sight.{Sight}
use Rattle.set_marks.specs.declared.span.Span.{Span}
use Rattle.job_statements.specs.declared.stated.Numbers.{Numbers}
use Rattle.set_marks.specs.Divisions.{is_of, is_same_face, is_pair, again_in, are_in_face}
use Rattle.set_marks.specs.Divisions.{is_by_faces, is_by_targets, are_read_alike, first_target}
use Rattle.set_marks.specs.Divisions.{last_target}
use Rattle.set_marks.specs.Divisions.{starts_of, parts_at, next_of, part}
use Rattle.set_marks.specs.Searching.{starts_from}
use Rattle.set_marks.specs.Divisions.{first_part, sets_of}
use Rattle.set_marks.specs.Divisions.{first_set, first_cut, cut_end, in_span, is_read_in_two}
use Rattle.set_marks.specs.Divisions.{seconds_of, rest_of, place_of, known_in, begins_in_two}
use Rattle.set_marks.specs.Divisions.{begins_with_pair, are_by_targets}
use Rattle.set_marks.specs.Outside.{are_among, are_sights_to, are_plain, sighted_before, may_lead}
use Rattle.set_marks.specs.Outside.{in_ending}
use Rattle.set_marks.specs.Doubts.{has_lone_second, may_be_shifted, leads_to_end, leads_within}
use Rattle.set_marks.specs.Doubts.{may_have_gone_on}
use Rattle.set_marks.specs.Ways.{Way, flaw_of, is_given_up, ways_of, after_leading, sets_by}
use Rattle.set_marks.specs.Ways.{doubt_by, span_by, divided}
use Rattle.set_marks.specs.BeginsAndEnds.{without_details}
use Rattle.set_marks.specs.BeforeAndAfter.{leading_in, AreInOne, AreOf, AreOfTargetsOf, IsPair}
use Rattle.set_marks.specs.BeforeAndAfter.{ArePairs, AreByFaces, AreSightsTo, LeadToOne}
use Rattle.set_marks.specs.BeforeAndAfter.{StandsBetween}
use Rattle.set_marks.proofs.AmongDetails.{is_known, few_known}
use Rattle.set_marks.proofs.BeginsAndEnds.{first_start, in_two, known_two, none_pass}
use Rattle.set_marks.proofs.EachTargetOnce.{at_most_one, no_flaw, none_is, IsOrdered}
use Rattle.set_marks.proofs.EachTargetOnce.{all_ordered}
use Rattle.set_marks.proofs.OnlyWay.{these_lead, so_many_lead, is_taken}
use Rattle.set_marks.proofs.Parted.{parted}
use Rattle.set_marks.proofs.RowsOfSets.{as_many}
use Rattle.set_marks.proofs.SameSets.{whole}
use Rattle.set_marks.proofs.SetsInWords.{sets_in_words}
use Rattle.set_marks.proofs.Spans.{found_in, are_right, cut_sets, doubts, are_taken, single_by}
use Rattle.set_marks.proofs.Spans.{known_before, first_two}

same_face : (a b : Bool) → is_same_face a b ≡ true → b ≡ a
same_face true true e = refl
same_face false false e = refl
same_face true false e = cc
same_face false true e = cc

other_face : (a b : Bool) → not (is_same_face a b) ≡ true → a ≢ b
other_face true false e = λ p. cc
other_face false true e = λ p. cc
other_face true true e = cc
other_face false false e = cc

same_name : (name : List ℕ) (s : Sight) → is_of name s ≡ true → s.target ≡ name
same_name name s e = (bytes_eq-Decides s.target name).0 e

in_one : (rs : List Sight) → are_in_face false rs ≡ true → AreInOne rs
in_one rs e = λ k d lt. same_face false (slice_index_or rs k d).second
    (AllPass-from_list_all (λ r. is_same_face false r.second) rs e k d lt)

of_one : (name : List ℕ) (rs : List Sight) → list_all (is_of name) rs ≡ true → AreOf name rs
of_one name rs e = λ k d lt. same_name name (slice_index_or rs k d)
    (AllPass-from_list_all (is_of name) rs e k d lt)

in_halves : (rs : List Sight) → is_by_faces rs ≡ true → AreByFaces rs
in_halves [] e = cc
in_halves (r ∷ rs) e =
    let half = take (length (r ∷ rs) / 2) (r ∷ rs) in (
      r.second,
      λ k d lt. same_face r.second (slice_index_or half k d).second
          (AllPass-from_list_all (λ s. is_same_face r.second s.second) half e k d lt),
    )

a_pair : (a b : Sight) → is_pair a b ≡ true → IsPair a b
a_pair a b e =
    let both = and_parts (is_of a.target b) (not (is_same_face a.second b.second)) e in
    (sym (same_name a.target b both.0), other_face a.second b.second both.1)

in_pairs : (rs : List Sight) → is_by_targets rs ≡ true → ArePairs rs
in_pairs [] e = tt
in_pairs (a ∷ []) e = cc
in_pairs (a ∷ b ∷ rs) e =
    let both = and_parts (is_pair a b) (is_by_targets rs) e in
    (a_pair a b both.0, in_pairs rs both.1)

some_of : (name : List ℕ) (rs : List Sight) → list_any (is_of name) rs ≡ true
    → Any (λ s. s.target ≡ name) rs
some_of name rs e =
    let found = Any-from_list_any (is_of name) rs e in
    (found.0, found.1, found.2, found.3, same_name name found.1 found.4)

of_targets : (others rs : List Sight) → are_among others rs ≡ true → AreOfTargetsOf others rs
of_targets others rs e = λ k d lt. some_of (slice_index_or rs k d).target others
    (AllPass-from_list_all (λ r. list_any (is_of r.target) others) rs e k d lt)

-- The first of them is ordered too.
first_ordered : (first : List Sight) (end : ℕ) (starts : List ℕ) (rs : List Sight)
    → 1 ≤ length starts → All (IsOrdered first) (parts_at end starts rs)
    → IsOrdered first (first_part end starts rs)
first_ordered first end [] rs some all = absurd (omega (arith, some))
first_ordered first end (from ∷ starts) rs some all =
    All-head (IsOrdered first) (part from (next_of end starts) rs) (parts_at end starts rs) all

-- What is in one face is so from the second reading on.
second_in : (second : Bool) (k : ℕ) (a b : Sight) (rs : List Sight) → 2 ≤ k
    → are_in_face second (take k (a ∷ b ∷ rs)) ≡ true → b.second ≡ second
second_in second zero a b rs two e = absurd (omega (arith, two))
second_in second (suc zero) a b rs two e = absurd (omega (arith, two))
second_in second (suc (suc k)) a b rs two e =
    let one = and_parts (is_same_face second a.second)
    (are_in_face second (take (suc k) (b ∷ rs))) e in
    same_face second b.second (and_parts (is_same_face second b.second)
    (are_in_face second (take k rs)) one.1).0

-- No set is read both ways.
not_both : (rs : List Sight) → 4 ≤ length rs → is_by_targets rs ≡ true → is_by_faces rs ≡ true → ⊥
not_both [] many targets faces = omega (arith, many)
not_both (a ∷ []) many targets faces = omega (arith, many)
not_both (a ∷ b ∷ rs) many targets faces =
    let two = a_pair a b (and_parts (is_pair a b) (is_by_targets rs) targets).0 in
    two.1 (sym (second_in a.second (length (a ∷ b ∷ rs) / 2) a b rs (omega (arith, many)) faces))

pair_begins : (rs : List Sight) → 4 ≤ length rs → is_by_targets rs ≡ true
    → begins_with_pair rs ≡ true
pair_begins [] many e = absurd (omega (arith, many))
pair_begins (a ∷ []) many e = absurd (omega (arith, many))
pair_begins (a ∷ b ∷ rs) many e = (and_parts (is_pair a b) (is_by_targets rs) e).0

-- A set after such a first one is read by faces, or by targets.
read_by_faces : (first set : List Sight) → is_by_targets first ≡ false
    → are_read_alike first set ≡ true → is_by_faces set ≡ true
read_by_faces first set isnt e = elim (or_cases (is_by_faces first && is_by_faces set)
    (is_by_targets first && is_by_targets set) e) [
      | inl faces ↦ (and_parts (is_by_faces first) (is_by_faces set) faces).1
      | inr targets ↦ absurd (false≢true (sym isnt
          ∙ (and_parts (is_by_targets first) (is_by_targets set) targets).0))
    ]

read_by_targets : (first set : List Sight) → 4 ≤ length first → is_by_targets first ≡ true
    → are_read_alike first set ≡ true → is_by_targets set ≡ true
read_by_targets first set many is_so e = elim (or_cases (is_by_faces first && is_by_faces set)
    (is_by_targets first && is_by_targets set) e) [
      | inl faces ↦ absurd (not_both first many is_so
          (and_parts (is_by_faces first) (is_by_faces set) faces).0)
      | inr targets ↦ (and_parts (is_by_targets first) (is_by_targets set) targets).1
    ]

all_alike : (first : List Sight) (sets : List (List Sight)) → 4 ≤ length first
    → All (IsOrdered first) sets → All AreByFaces sets ⊎ All ArePairs sets
all_alike first sets many all = elim (cases_Bool (is_by_targets first)) [
  | inl is_so ↦ inr (λ k d lt. in_pairs (slice_index_or sets k d)
      (read_by_targets first (slice_index_or sets k d) many is_so (all k d lt).alike))
  | inr isnt ↦ inl (λ k d lt. in_halves (slice_index_or sets k d)
      (read_by_faces first (slice_index_or sets k d) isnt (all k d lt).alike))
]

-- A set that doesn't begin with a pair is read by faces.
no_pair : (set : List Sight) → IsOrdered set set → not (are_by_targets set) ≡ true
    → AreByFaces set
no_pair set is e = elim (cases_Bool (is_by_targets set)) [
  | inl is_so ↦ absurd (false≢true (sym (not-true (are_by_targets set) e)
      ∙ pair_begins set is.many is_so))
  | inr isnt ↦ in_halves set (read_by_faces set set isnt is.alike)
]

sights_to : (set rs : List Sight) → IsOrdered set set → are_sights_to set rs ≡ true
    → AreSightsTo set rs
sights_to set rs is e =
    let a = is_by_targets rs in
    let b = is_none (again_in rs) in
    let c = nat_lt 4 (length set) in
    let d = not (are_by_targets set) in
    let five = and_parts (a && b && c && d) (are_among set rs) e in
    let four = and_parts (a && b && c) d five.0 in
    let three = and_parts (a && b) c four.0 in
    let two = and_parts a b three.0 in
    record {
      by_faces = no_pair set is four.1;
      many = ltb-true 4 (length set) three.1;
      pairs = in_pairs rs two.0;
      once = λ name second. at_most_one name second [] rs (none_is (again_in rs) two.1) (omega arith);
      own = of_targets set rs five.1;
    }

plain : (set rs : List Sight) → IsOrdered set set → are_plain set rs ≡ true
    → AreInOne rs ⊎ AreSightsTo set rs
plain set rs is e = elim (or_cases (are_in_face false rs) (are_sights_to set rs) e) [
  | inl one ↦ inl (in_one rs one)
  | inr to ↦ inr (sights_to set rs is to)
]

few_or_plain : (set rs : List Sight) → IsOrdered set set
    → (nat_le (length rs) 3 || are_plain set rs) ≡ true
    → (length rs ≤ 3) ⊎ AreInOne rs ⊎ AreSightsTo set rs
few_or_plain set rs is e = elim (or_cases (nat_le (length rs) 3) (are_plain set rs) e) [
  | inl few ↦ inl (leb-true (length rs) 3 few)
  | inr so ↦ inr (plain set rs is so)
]

-- What is read is read in what of the set may be sighted.
in_set : (name : List ℕ) (set : List Sight) → list_any (is_of name) (take 1 set) ≡ true
    → list_any (is_of name) set ≡ true
in_set name [] e = cc
in_set name (r ∷ rs) e = elim (cases_Bool (is_of name r)) [
  | inl h ↦ rw h refl
  | inr h ↦ let f : false ≡ true = rw h at e in cc
]

opens : (name : List ℕ) (set : List Sight) → list_any (is_of name) (take 1 set) ≡ true
    → name ≡ first_target set
opens name [] e = cc
opens name (r ∷ rs) e = elim (cases_Bool (is_of name r)) [
  | inl h ↦ sym (same_name name r h)
  | inr h ↦ let f : false ≡ true = rw h at e in cc
]

own_targets : (set rs : List Sight) → are_among (sighted_before set) rs ≡ true
    → AreOfTargetsOf set rs
own_targets set rs e = elim (cases_Bool (nat_le (length set) 4)) [
  | inl h ↦
      let f : are_among (take 1 set) rs ≡ true = rw h at e in
      λ k d lt. some_of (slice_index_or rs k d).target set
      (in_set (slice_index_or rs k d).target set
      (AllPass-from_list_all (λ r. list_any (is_of r.target) (take 1 set)) rs f k d lt))
  | inr h ↦ of_targets set rs (rw h at e)
]

to_opening : (set rs : List Sight) → are_among (sighted_before set) rs ≡ true → length set ≤ 4
    → AreOf (first_target set) rs
to_opening set rs e two =
    let h = le-leb (length set) 4 two in
    let f : are_among (take 1 set) rs ≡ true = rw h at e in
    λ k d lt. opens (slice_index_or rs k d).target set
    (AllPass-from_list_all (λ r. list_any (is_of r.target) (take 1 set)) rs f k d lt)

-- No reading is left out where no fewer are left.
none_left : (others rs : List Sight) → length rs ≤ length (known_in others rs)
    → known_in others rs ≡ rs
none_left others [] le = refl
none_left others (r ∷ rs) le = elim (cases_Bool (is_known others r)) [
  | inl h ↦
      let more : length (r ∷ rs) ≤ length (r ∷ known_in others rs) = rw h at le in
      rw h (ap (λ (l : List Sight). r ∷ l) (none_left others rs (omega (arith, more))))
  | inr h ↦
      let more : length (r ∷ rs) ≤ length (known_in others rs) = rw h at le in
      let few = few_known others rs in absurd (omega (arith, more, few))
]

to_one : (set before leading : List Sight) (place : ℕ) → IsOrdered set set
    → may_lead set leading place ≡ true → (place ≤ length leading → leading ≡ before)
    → LeadToOne set before leading
to_one set before leading place is e clean =
    let own = are_among (sighted_before set) leading in
    let all = list_all (is_of (first_target leading)) leading in
    let three = and_parts (own && (are_plain set leading || all)) (nat_le place (length leading))
    e in
    let two = and_parts own (are_plain set leading || all) three.0 in
    record {
      own = own_targets set leading two.0;
      opening = to_opening set leading two.0;
      kind = kind (or_cases (are_plain set leading) all two.1);
      no_detail = clean (leb-true place (length leading) three.1);
    } where
      kind : (are_plain set leading ≡ true)
          ⊎ (list_all (is_of (first_target leading)) leading ≡ true)
          → AreInOne leading ⊎ AreOf (first_target leading) leading ⊎ AreSightsTo set leading
      kind (inr all) = inr (inl (of_one (first_target leading) leading all))
      kind (inl so) = elim (plain set leading is so) [
        | inl one ↦ inl one
        | inr to ↦ inr (inr to)
      ]

not_alone : (a b : Bool) → (a && not b) ≡ false → a ≡ true → b ≡ true
not_alone a true e f = refl
not_alone true false e f = cc
not_alone false false e f = cc

all_paired : (rs : List Sight)
    → has_lone_second rs ≡ false → All (λ r. r.second ≡ true → Any (IsPair r) rs) rs
all_paired rs e = λ k d lt two. by (slice_index_or rs k d)
    (none_pass (λ r. r.second && not (list_any (λ s. is_pair r s) rs)) rs e k d lt) two where
      by : (r : Sight) → (r.second && not (list_any (λ s. is_pair r s) rs)) ≡ false
          → r.second ≡ true → Any (IsPair r) rs
      by r none two =
          let found = Any-from_list_any (λ s. is_pair r s) rs
          (not_alone r.second (list_any (λ s. is_pair r s) rs) none two) in
          (found.0, found.1, found.2, found.3, a_pair r found.1 found.4)

first_in_one : (rs : List Sight) → begins_in_two rs ≡ false → AreInOne (take 1 rs)
first_in_one [] e = All-nil (λ (r : Sight). r.second ≡ false)
first_in_one (r ∷ rs) e =
    All-cons (λ (s : Sight). s.second ≡ false) r [] e (All-nil (λ (s : Sight). s.second ≡ false))

begun_in_one : (rest : List Sight) (n : ℕ) → is_given_up rest n ≡ false → 1 ≤ n
    → AreInOne (take 1 (drop n rest))
begun_in_one rest n e some =
    first_in_one (drop n rest) (rw (lt-ltb 0 n (omega (arith, some))) at e)

-- Where all is one set, it is the first.
only_set : (rs : List Sight) → length (starts_of rs) ≡ 1 → first_set rs ≡ rs
only_set [] one = refl
only_set (r ∷ rs) one = by (starts_from r.target false 1 rs) (first_start r rs) where
  by : (ps : List ℕ) → starts_of (r ∷ rs) ≡ 0 ∷ ps → first_set (r ∷ rs) ≡ r ∷ rs
  by [] is = ap (λ (ps : List ℕ). first_part (length (r ∷ rs)) ps (r ∷ rs)) is
      ∙ whole (length (r ∷ rs)) (r ∷ rs) ∙ take-length (r ∷ rs)
  by (p ∷ ps) is = let two : length (0 ∷ p ∷ ps) ≡ 1 =
      subst (λ (qs : List ℕ). length qs ≡ 1) is one in absurd (omega (arith, two))

-- What leads before a single set: all that stands before it, where no more stands there.
all_lead : (rs : List Sight) (way : Way)
    → place_of (seconds_of rs) way.leading rs ≤ length (take way.leading (rest_of rs))
    → take way.leading (rest_of rs) ≡ take (place_of (seconds_of rs) way.leading rs) rs
all_lead rs way le =
    let at = place_of (seconds_of rs) way.leading rs in
    let lead = known_before (seconds_of rs) way.leading rs in
    let long = ap length lead in
    let short = length-take at rs in
    sym lead ∙ none_left (seconds_of rs) (take at rs) (omega (arith, le, long, short))

alone_after : (rs : List Sight) (way : Way) → flaw_of way.ending rs way.leading ≡ None
    → IsOrdered (first_set (in_span (span_by rs way) rs)) (first_set (in_span (span_by rs way) rs))
    → length (starts_of (in_span (span_by rs way) rs)) ≡ 1
    → LeadToOne (in_span (span_by rs way) rs)
    (take (place_of (seconds_of rs) way.leading rs) rs) (take way.leading (rest_of rs))
alone_after rs way right first one =
    let at = place_of (seconds_of rs) way.leading rs in
    let rest = sets_by rs way in
    let starts = starts_of rest in
    let end = cut_end starts rest in
    let leading = take way.leading (rest_of rs) in
    let inner = in_span (span_by rs way) rs in
    let cut = cut_sets rs way right in
    let begun : length starts ≡ 1 =
    sym (ap length (ap starts_of cut.inner ∙ cut.has.starts)) ∙ one in
    let all : end ≡ length rest = single_by rest starts begun in
    let same : inner ≡ rest = cut.inner ∙ take_all end rest (omega (arith, all)) in
    let precede = (and_parts
    (nat_le (length leading) 3 || are_plain (first_cut starts rest) leading)
    (nat_le 2 (length starts) || may_lead rest leading at) cut.precede).1 in
    let few : nat_le 2 (length starts) ≡ false = lt-leb 2 (length starts) (omega (arith, begun)) in
    let may : may_lead rest leading at ≡ true = by (nat_le 2 (length starts))
    (may_lead rest leading at) few precede in
    subst (λ (l : List Sight). LeadToOne l (take at rs) leading) (sym same)
    (to_one rest (take at rs) leading at
    (subst (λ (l : List Sight). IsOrdered l l) (only_set inner one ∙ same) first) may
    (all_lead rs way))
  where
    by : (a b : Bool) → a ≡ false → (a || b) ≡ true → b ≡ true
    by false b e f = f
    by true b e f = cc

-- The first of readings that sets stand at the front of is theirs.
front_first : (inner rest after ending : List Sight) (end : ℕ) → inner ≡ take end rest → 1 ≤ end
    → after ≡ rest ++ ending → 1 ≤ length rest → take 1 inner ≡ take 1 after
front_first inner rest after ending end is some split more =
    ap (λ (l : List Sight). take 1 l) is ∙ take-take 1 end rest some
    ∙ sym (ap (λ (l : List Sight). take 1 l) split ∙ take-append-le 1 rest ending more)

begun_after : (rs : List Sight) (way : Way) → ways_of rs ≡ way ∷ []
    → flaw_of way.ending rs way.leading ≡ None → 1 ≤ length (leading_in (span_by rs way) rs)
    → AreInOne (take 1 (in_span (span_by rs way) rs))
begun_after rs way only right some =
    let after = after_leading rs way in
    let rest = sets_by rs way in
    let cut = cut_sets rs way right in
    let ended = are_right rs way right in
    let parts = parted way.ending after ended.some ended.ended in
    let many = cut.has.many in
    let long = cut.has.long in
    let lead = so_many_lead rs way ended.some in
    subst (λ (l : List Sight). AreInOne l)
    (sym (front_first (in_span (span_by rs way) rs) rest after (in_ending way.ending after)
    (cut_end (starts_of rest) rest) cut.inner (omega (arith, many, long)) parts.split parts.some))
    (begun_in_one (rest_of rs) way.leading (is_taken rs way only).stays (omega (arith, some, lead)))

paired_after : (stated : Numbers) (rs : List Sight) (way : Way) → doubt_by stated rs way ≡ None
    → All (λ r. r.second ≡ true → Any (IsPair r) (take way.leading (rest_of rs)))
    (take way.leading (rest_of rs))
paired_after stated rs way sure =
    let rest = sets_by rs way in
    let leading = take way.leading (rest_of rs) in
    let first = first_cut (starts_of rest) rest in
    let in_sets = part 0 (cut_end (starts_of rest) rest) rest in
    all_paired leading (or_parts (has_lone_second leading)
    (leads_to_end leading first || (is_by_targets first && leads_within leading in_sets))
    (no_flaw (may_be_shifted leading first in_sets) kinds.MayBeShifted (slice_get rest 0)
    (all_none (doubts stated leading rest (after_leading rs way)) sure).0)).0

faces_differ : (a b : Bool) → a ≢ b → not (is_same_face a b) ≡ true
faces_differ true false n = refl
faces_differ false true n = refl
faces_differ true true n = absurd (n refl)
faces_differ false false n = absurd (n refl)

are_pair : (a b : Sight) → IsPair a b → is_pair a b ≡ true
are_pair a b p = and_from (is_of a.target b) (not (is_same_face a.second b.second))
    ((bytes_eq-Decides b.target a.target).1 (sym p.0)) (faces_differ a.second b.second p.1)

are_pairs : (rs : List Sight) → ArePairs rs → is_by_targets rs ≡ true
are_pairs [] p = refl
are_pairs (a ∷ []) p = absurd p
are_pairs (a ∷ b ∷ rs) p =
    and_from (is_pair a b) (is_by_targets rs) (are_pair a b p.0) (are_pairs rs p.1)

none_of : (name : List ℕ) (rs : List Sight) → list_any (is_of name) rs ≡ false
    → All (λ s. s.target ≢ name) rs
none_of name rs e = λ k d lt same. false≢true (sym (none_pass (is_of name) rs e k d lt)
    ∙ (bytes_eq-Decides (slice_index_or rs k d).target name).1 same)

third_fails : (a b c : Bool) → ((a && not b) && c) ≡ false → a ≡ true → b ≡ false → c ≡ false
third_fails a b false e f g = refl
third_fails false b true e f g = cc
third_fails true true true e f g = cc
third_fails true false true e f g = cc

-- Where none that leads is in face II, of a target of sets, and not of the one that opens them.
none_within : (leading in_sets : List Sight) → leads_within leading in_sets ≡ false
    → All (λ r. r.second ≡ true → (r.target ≡ first_target in_sets)
    ⊎ All (λ s. s.target ≢ r.target) in_sets) leading
none_within leading in_sets e = λ k d lt two. by (slice_index_or leading k d)
    (none_pass (λ r. (r.second && not (is_of (first_target in_sets) r))
    && list_any (is_of r.target) in_sets) leading e k d lt) two where
      by : (r : Sight) → ((r.second && not (is_of (first_target in_sets) r))
          && list_any (is_of r.target) in_sets) ≡ false → r.second ≡ true
          → (r.target ≡ first_target in_sets) ⊎ All (λ s. s.target ≢ r.target) in_sets
      by r none two = elim (cases_Bool (is_of (first_target in_sets) r)) [
        | inl h ↦ inl (same_name (first_target in_sets) r h)
        | inr h ↦ inr (none_of r.target in_sets (third_fails r.second
            (is_of (first_target in_sets) r) (list_any (is_of r.target) in_sets) none two h))
      ]

differ : (a b : List ℕ) → a ≢ b → not (bytes_eq a b) ≡ true
differ a b n = elim (cases_Bool (bytes_eq a b)) [
  | inl h ↦ absurd (n ((bytes_eq-Decides a b).0 h))
  | inr h ↦ rw h refl
]

second_fails : (a b c d : Bool) → (a && b && c && d) ≡ false → a ≡ true → c ≡ true → d ≡ true
    → b ≡ false
second_fails a false c d e f g h = refl
second_fails false true c d e f g h = cc
second_fails true true false d e f g h = cc
second_fails true true true false e f g h = cc
second_fails true true true true e f g h = cc

-- Where none that leads is of the target that ends a set that is read by targets.
none_to_end : (leading set : List Sight) → leads_to_end leading set ≡ false
    → is_by_targets set ≡ true → last_target set ≢ first_target set
    → (length set ≤ 4) ⊎ Any (λ r. r.second ≡ true) leading
    → All (λ r. r.target ≢ last_target set) leading
none_to_end leading set e by other some = none_of (last_target set) leading
    (second_fails (not (bytes_eq (last_target set) (first_target set)))
    (list_any (is_of (last_target set)) leading) (is_by_targets set)
    (nat_le (length set) 4 || list_any (λ r. r.second) leading) e
    (differ (last_target set) (first_target set) other) by (so some))
  where
    so : (length set ≤ 4) ⊎ Any (λ r. r.second ≡ true) leading
        → (nat_le (length set) 4 || list_any (λ r. r.second) leading) ≡ true
    so (inl le) = or_left (nat_le (length set) 4) (list_any (λ r. r.second) leading)
        (le-leb (length set) 4 le)
    so (inr any) = or_right (nat_le (length set) 4) (list_any (λ r. r.second) leading)
        (list_any-from_Any (λ r. r.second) leading any)

-- The first set begins as all sets do.
first_begins : (rs : List Sight) → 2 ≤ length (first_cut (starts_of rs) rs)
    → begins_with_pair (first_cut (starts_of rs) rs) ≡ begins_with_pair rs
first_begins [] two = refl
first_begins (r ∷ rs) two = by (starts_from r.target false 1 rs) (first_start r rs) where
  by : (ps : List ℕ) → starts_of (r ∷ rs) ≡ 0 ∷ ps
      → begins_with_pair (first_cut (starts_of (r ∷ rs)) (r ∷ rs)) ≡ begins_with_pair (r ∷ rs)
  by ps is =
      let k = next_of (cut_end (0 ∷ ps) (r ∷ rs)) ps in
      let same : first_cut (starts_of (r ∷ rs)) (r ∷ rs) ≡ take k (r ∷ rs) =
      ap (λ (qs : List ℕ). first_cut qs (r ∷ rs)) is ∙ whole k (r ∷ rs) in
      ap (λ (l : List Sight). begins_with_pair l) same
      ∙ first_two k (r ∷ rs) (subst (λ (l : List Sight). 2 ≤ length l) same two)

-- What is no detail after the sets.
left_after : (rs : List Sight) (way : Way) → flaw_of way.ending rs way.leading ≡ None
    → without_details rs (drop (span_by rs way).to rs)
    ≡ drop (cut_end (starts_of (sets_by rs way)) (sets_by rs way)) (after_leading rs way)
left_after rs way right =
    let rest = sets_by rs way in
    let at = place_of (seconds_of rs) way.leading rs in
    let end = cut_end (starts_of rest) rest in
    sym (known_two rs (drop (span_by rs way).to rs))
    ∙ ap (λ (l : List Sight). known_in (seconds_of rs) l) (sym (drop-drop end at rs))
    ∙ (cut_sets rs way right).left

not_then : (a b : Bool) → (a && b) ≡ false → a ≡ true → b ≡ false
not_then true b e f = e
not_then false b e f = cc

-- No doubt is about a way that is taken.
record IsSure (rs leading set in_sets left : List Sight) : Type 0 where
  pub to_end : leads_to_end leading set ≡ false
  pub within : (is_by_targets set && leads_within leading in_sets) ≡ false
  pub went_on : (are_by_targets rs && list_any (λ r. r.second) left) ≡ false

sure_after : (stated : Numbers) (rs : List Sight) (way : Way) → doubt_by stated rs way ≡ None
    → IsSure (sets_by rs way) (take way.leading (rest_of rs))
    (first_cut (starts_of (sets_by rs way)) (sets_by rs way))
    (part 0 (cut_end (starts_of (sets_by rs way)) (sets_by rs way)) (sets_by rs way))
    (drop (cut_end (starts_of (sets_by rs way)) (sets_by rs way)) (after_leading rs way))
sure_after stated rs way sure =
    let rest = sets_by rs way in
    let after = after_leading rs way in
    let leading = take way.leading (rest_of rs) in
    let first = first_cut (starts_of rest) rest in
    let end = cut_end (starts_of rest) rest in
    let in_sets = part 0 end rest in
    let none = all_none (doubts stated leading rest after) sure in
    let shifted = (or_parts (has_lone_second leading)
    (leads_to_end leading first || (is_by_targets first && leads_within leading in_sets))
    (no_flaw (may_be_shifted leading first in_sets) kinds.MayBeShifted (slice_get rest 0)
    none.0)).1 in
    let both = or_parts (leads_to_end leading first)
    (is_by_targets first && leads_within leading in_sets) shifted in
    record {
      to_end = both.0;
      within = both.1;
      went_on = no_flaw (may_have_gone_on rest after) kinds.MayBeShifted (slice_get rest 0)
          none.1.1.1.0;
    }

-- Of the way in which the sets of a station are found, with nothing wrong.
stands_after : (stated : Numbers) (rs : List Sight) (way : Way) → ways_of rs ≡ way ∷ []
    → flaw_of way.ending rs way.leading ≡ None → doubt_by stated rs way ≡ None
    → divided stated rs ≡ Sets (span_by rs way) → StandsBetween rs (span_by rs way)
stands_after stated rs way only right sure e =
    let span = span_by rs way in
    let at = place_of (seconds_of rs) way.leading rs in
    let rest = sets_by rs way in
    let end = cut_end (starts_of rest) rest in
    let inner = in_span span rs in
    let leading = take way.leading (rest_of rs) in
    let cut = cut_sets rs way right in
    let lead = these_lead rs way in
    let many_lead = so_many_lead rs way (are_right rs way right).some in
    let most = (is_taken rs way only).few.few in
    let sets = all_ordered (first_set inner) 0 (length inner) (starts_of inner) inner
    (are_taken stated rs span e).wrong in
    let as_many_sets : length (sets_of inner) ≡ length (starts_of inner) =
    as_many (length inner) (starts_of inner) inner in
    let some_sets = (sets_in_words stated rs span e).some in
    let first = first_ordered (first_set inner) (length inner) (starts_of inner) inner
    (omega (arith, some_sets, as_many_sets)) sets in
    let same_first : first_set inner ≡ first_cut (starts_of rest) rest =
    ap (λ (l : List Sight). first_set l) cut.inner ∙ cut.has.first in
    let precede = (and_parts
    (nat_le (length leading) 3 || are_plain (first_cut (starts_of rest) rest) leading)
    (nat_le 2 (length (starts_of rest)) || may_lead rest leading at) cut.precede).0 in
    let opening = first_cut (starts_of rest) rest in
    let doubt = sure_after stated rs way sure in
    let long_first = first.many in
    let left = drop end (after_leading rs way) in
    let by_targets : ArePairs (first_set inner) → are_by_targets rest ≡ true =
    λ by. sym (first_begins rest
    (subst (λ (l : List Sight). 2 ≤ length l) same_first (omega (arith, long_first))))
    ∙ ap begins_with_pair (sym same_first)
    ∙ pair_begins (first_set inner) first.many (are_pairs (first_set inner) by) in
    record {
      at_most = omega (arith, many_lead, most);
      few = subst (λ (l : List Sight).
          (length l ≤ 3) ⊎ AreInOne l ⊎ AreSightsTo (first_set inner) l) (sym lead)
          (few_or_plain (first_set inner) leading first
          (ap (λ (l : List Sight). nat_le (length leading) 3 || are_plain l leading) same_first
          ∙ precede));
      begun = begun_after rs way only right;
      alone = λ one. subst (λ (l : List Sight). LeadToOne inner (take at rs) l) (sym lead)
          (alone_after rs way right first (sym as_many_sets ∙ one));
      paired = subst (λ (l : List Sight). All (λ r. r.second ≡ true → Any (IsPair r) l) l)
          (sym lead)
          (paired_after stated rs way sure);
      alike = all_alike (first_set inner) (sets_of inner) first.many sets;
      ends = λ k d lt. (sets k d lt).ends;
      whole = subst (λ (l : List Sight). All (λ r. is_read_in_two rs r.target ≡ true) l)
          (cut.same ∙ sym cut.inner) (λ k d lt.
          sym (in_two (slice_index_or (take end (drop at rs)) k d).target rs) ∙ cut.known k d lt);
      within = λ by. subst (λ (l : List Sight). All (λ r. r.second ≡ true
          → (r.target ≡ first_target inner) ⊎ All (λ s. s.target ≢ r.target) inner) l) (sym lead)
          (subst (λ (l : List Sight). All (λ r. r.second ≡ true → (r.target ≡ first_target l)
          ⊎ All (λ s. s.target ≢ r.target) l) leading) (whole end rest ∙ sym cut.inner)
          (none_within leading (part 0 end rest) (not_then (is_by_targets opening)
          (leads_within leading (part 0 end rest)) doubt.within
          (subst (λ (l : List Sight). is_by_targets l ≡ true) same_first
          (are_pairs (first_set inner) by)))));
      to_end = λ by other some.
          subst (λ (l : List Sight). All (λ r. r.target ≢ last_target (first_set inner)) l)
          (sym lead)
          (none_to_end leading (first_set inner)
          (ap (λ (l : List Sight). leads_to_end leading l) same_first ∙ doubt.to_end)
          (are_pairs (first_set inner) by) other
          (subst (λ (l : List Sight). (length (first_set inner) ≤ 4)
          ⊎ Any (λ r. r.second ≡ true) l) lead some));
      went_on = λ by. subst (λ (l : List Sight). AreInOne l) (sym (left_after rs way right))
          (none_pass (λ r. r.second) left (not_then (are_by_targets rest)
          (list_any (λ r. r.second) left) doubt.went_on (by_targets by)));
    }

-- So the sets of a station stand.
pub before_and_after : (stated : Numbers) (rs : List Sight) (span : Span)
    → divided stated rs ≡ Sets span → StandsBetween rs span
before_and_after stated rs span e =
    let found = found_in stated rs span e in
    subst (λ (s : Span). divided stated rs ≡ Sets s → StandsBetween rs s) found.stand
    (stands_after stated rs found.way found.only found.right found.sure) e
