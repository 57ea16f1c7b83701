-- In a set each target is read once in each face.
use Rattle.std.proofs.Common.{◌≡◌, ℕ, suc, ◌-◌, ◌/◌, ◌<◌, ◌≤◌, Bool, true, false, ◌&&◌, not, List}
use Rattle.std.proofs.Common.{[], ◌∷◌, ◌++◌, length, filter, take, refl, sym, ap, subst, ◌∙◌, inl}
use Rattle.std.proofs.Common.{inr, ◌⊎◌, arith, Option, Some, None, append_assoc}
use Rattle.std.specs.Prelude.{All, Contains, nat_le, nat_lt, slice_get, is_none}
use Rattle.std.specs.List.{list_all, list_any}
use Rattle.std.specs.Str.{bytes_eq}
use Rattle.std.proofs.Math.Seq.{take-append_seam}
use Rattle.std.proofs.lemmas.Bool.{cases_Bool, and_parts, and_from, or_cases, or_parts, or_left}
use Rattle.std.proofs.lemmas.Bool.{or_right, not-true, not-false, ltb-false}
use Rattle.std.proofs.lemmas.List.{append-nil, length-append, take_all}
use Rattle.std.proofs.lemmas.List.Folds.{list_any_at}
use Rattle.std.proofs.lemmas.List.Sums.{AllPass-from_list_all}
use Rattle.std.proofs.lemmas.List.Elements.{filter-append, All-contains, All-nil, All-cons}
use Rattle.std.proofs.lemmas.Slice.Eq.{bytes_eq-Decides}
use Rattle.station_book.proofs.readings.CleanBlocks.{all_none}
use Rattle.adjust_kernel.specs.declared.bounds.TheConstants.{MOST_SETS}
use Rattle.set_marks.specs.declared.bounds.TheConstants.{MOST_READINGS}
use Rattle.set_marks.specs.declared.fault.MarkKind.{MarkKind}
use Rattle.set_marks.specs.declared.fault.MarkKind.TheVariants as kinds
use Rattle.set_marks.specs.declared.sight.Sight.{Sight}
use Rattle.set_marks.specs.Divisions.{is_of, is_same_face, is_again, is_pair, again_from, again_in}
use Rattle.set_marks.specs.Divisions.{alone_among, alone_in, flaw_when, flaw_found, are_read_alike}
use Rattle.set_marks.specs.Divisions.{last_target, readings_flaw, order_flaw, set_flaw, sets_flaw}
use Rattle.set_marks.specs.Divisions.{parts_at, next_of, part}
use Rattle.set_marks.specs.SetsInWords.{readings_in, ReadsEachOnce}

abbrev reads : List ℕ → Bool → Sight → Bool
reads name second r = is_of name r && is_same_face second r.second

-- two that are in one face with a third are in one face
one_face : (a b c : Bool) → is_same_face a b ≡ true → is_same_face a c ≡ true
    → is_same_face b c ≡ true
one_face true true true e f = refl
one_face false false false e f = refl
one_face true false c e f = cc
one_face false true c e f = cc
one_face true true false e f = cc
one_face false false true e f = cc

read_again : (name : List ℕ) (second : Bool) (r s : Sight) → reads name second r ≡ true
    → reads name second s ≡ true → is_again r s ≡ true
read_again name second r s e f =
    let a = and_parts (is_of name r) (is_same_face second r.second) e in
    let b = and_parts (is_of name s) (is_same_face second s.second) f in
    and_from (is_of r.target s) (is_same_face r.second s.second)
    ((bytes_eq-Decides s.target r.target).1 ((bytes_eq-Decides s.target name).0 b.0
    ∙ sym ((bytes_eq-Decides r.target name).0 a.0)))
    (one_face second r.second s.second a.1 b.1)

none_more : (name : List ℕ) (second : Bool) (r : Sight) (rs : List Sight)
    → reads name second r ≡ true → list_any (is_again r) rs ≡ false
    → readings_in name second rs ≡ []
none_more name second r [] e none = refl
none_more name second r (s ∷ rs) e none =
    let parts = or_parts (is_again r s) (list_any (is_again r) rs) none in
    elim (cases_Bool (reads name second s)) [
      | inl h ↦ let both = read_again name second r s e h in cc
      | inr h ↦ rw h (none_more name second r rs e parts.1)
    ]

take_front : (front rs : List Sight) → take (length front) (front ++ rs) ≡ front
take_front front rs = take-append_seam front rs

-- Where no reading is the second of its target and face, there is one at most.
pub at_most_one : (name : List ℕ) (second : Bool) (front rs : List Sight)
    → again_from (front ++ rs) (length front) rs ≡ None
    → length (readings_in name second front) ≤ 1
    → length (readings_in name second (front ++ rs)) ≤ 1
at_most_one name second front [] e few = rw append-nil few
at_most_one name second front (r ∷ rs) e few =
    elim (cases_Bool (list_any (is_again r) (take (length front) (front ++ r ∷ rs)))) [
      | inl h ↦ let f : Some r ≡ None = rw h at e in cc
      | inr h ↦
          let none : list_any (is_again r) front ≡ false =
          ap (λ (fs : List Sight). list_any (is_again r) fs) (sym (take_front front (r ∷ rs)))
          ∙ h in
          let again : again_from (front ++ r ∷ rs) (suc (length front)) rs ≡ None = rw h at e in
          let moved : (front ++ r ∷ []) ++ rs ≡ front ++ r ∷ rs = append_assoc front (r ∷ []) rs in
          let long : length (front ++ r ∷ []) ≡ suc (length front) =
          length-append front (r ∷ []) ∙ omega arith in
          subst (λ (all : List Sight). length (readings_in name second all) ≤ 1) moved
          (at_most_one name second (front ++ r ∷ []) rs
          ((λ i. again_from (moved i) (long i) rs) ∙ again)
          (one_more (cases_Bool (reads name second r)) none))
    ] where
      one_more : (reads name second r ≡ true) ⊎ (reads name second r ≡ false)
          → list_any (is_again r) front ≡ false
          → length (readings_in name second (front ++ r ∷ [])) ≤ 1
      one_more (inl h) none = rw (
        filter-append (reads name second) front (r ∷ []),
        h,
        none_more name second r front h none,
      ) (omega arith)
      one_more (inr h) none = rw (
        filter-append (reads name second) front (r ∷ []),
        h,
        append-nil (filter (reads name second) front),
      ) few

some_kept : (p : Sight → Bool) (rs : List Sight) → list_any p rs ≡ true → 0 < length (filter p rs)
some_kept p [] e = cc
some_kept p (r ∷ rs) e = elim (cases_Bool (p r)) [
  | inl h ↦ rw h (omega arith)
  | inr h ↦ rw h (some_kept p rs (rw h at e))
]

-- of two faces one is this
this_or_other : (a b c : Bool) → is_same_face a b ≡ false → is_same_face b c ≡ false
    → is_same_face a c ≡ true
this_or_other true false true e f = refl
this_or_other false true false e f = refl
this_or_other true true c e f = cc
this_or_other false false c e f = cc
this_or_other true false false e f = cc
this_or_other false true true e f = cc

-- Where a reading of the target has its pair, the target is read in each face.
from_pair : (second : Bool) (s : Sight) (rs : List Sight) → is_same_face second s.second ≡ false
    → list_any (is_pair s) rs ≡ true → list_any (reads s.target second) rs ≡ true
from_pair second s [] f e = cc
from_pair second s (r ∷ rs) f e = elim (or_cases (is_pair s r) (list_any (is_pair s) rs) e) [
  | inl h ↦
      let parts = and_parts (is_of s.target r) (not (is_same_face s.second r.second)) h in
      or_left (reads s.target second r) (list_any (reads s.target second) rs)
      (and_from (is_of s.target r) (is_same_face second r.second) parts.0
      (this_or_other second s.second r.second f
      (not-true (is_same_face s.second r.second) parts.1)))
  | inr h ↦ or_right (reads s.target second r) (list_any (reads s.target second) rs)
      (from_pair second s rs f h)
]

reads_itself : (s : Sight) (second : Bool) → is_same_face second s.second ≡ true
    → reads s.target second s ≡ true
reads_itself s second e = and_from (is_of s.target s) (is_same_face second s.second)
    ((bytes_eq-Decides s.target s.target).1 refl) e

-- Where no reading is alone, each has its pair.
all_paired : (all rs : List Sight) → alone_among all rs ≡ None
    → list_all (λ r. list_any (is_pair r) all) rs ≡ true
all_paired all [] e = refl
all_paired all (r ∷ rs) e = elim (cases_Bool (list_any (is_pair r) all)) [
  | inl h ↦ and_from (list_any (is_pair r) all) (list_all (λ s. list_any (is_pair s) all) rs) h
      (all_paired all rs (rw h at e))
  | inr h ↦ let f : Some r ≡ None = rw h at e in cc
]

each_once : (rs : List Sight) → again_in rs ≡ None → alone_in rs ≡ None → (s : Sight)
    (second : Bool) → Contains rs s → length (readings_in s.target second rs) ≡ 1
each_once rs once both s second inside =
    let most = at_most_one s.target second [] rs once (omega arith) in
    let some = some_kept (reads s.target second) rs
    (by (cases_Bool (is_same_face second s.second))) in
    omega (arith, most, some) where
      by : (is_same_face second s.second ≡ true) ⊎ (is_same_face second s.second ≡ false)
          → list_any (reads s.target second) rs ≡ true
      by (inl h) = list_any_at (reads s.target second) rs inside.0 s inside.1
          (ap (λ (r : Sight). reads s.target second r) inside.2 ∙ reads_itself s second h)
      by (inr h) = from_pair second s rs h
          (All-contains (λ (r : Sight). list_any (is_pair r) rs ≡ true) rs s
          (AllPass-from_list_all (λ r. list_any (is_pair r) rs) rs (all_paired rs rs both)) inside)

pub none_is : {X : Type 0} (o : Option X) → is_none o ≡ true → o ≡ None
none_is None e = refl
none_is (Some x) e = cc

-- Where a flaw comes of a test and none is there, the test fails.
pub no_flaw : (t : Bool) (kind : MarkKind) (r : Option Sight) → flaw_when t kind r ≡ None
    → t ≡ false
no_flaw true kind r e = cc
no_flaw false kind r e = refl

-- Where a flaw comes of a reading that is found and none is there, none is found.
pub none_found : (kind : MarkKind) (r : Option Sight) → flaw_found kind r ≡ None → r ≡ None
none_found kind None e = refl
none_found kind (Some r) e = cc

-- What is known of readings of which nothing is wrong by themselves.
pub record AreClean (rs : List Sight) : Type 0 where
  pub once : again_in rs ≡ None
  pub few : length rs ≤ MOST_READINGS
  pub paired : alone_in rs ≡ None

pub clean_readings : (rs : List Sight) → readings_flaw rs ≡ None → AreClean rs
clean_readings rs e =
    let own = all_none (
    flaw_found kinds.ReadTwice (again_in (take (suc MOST_READINGS) rs))
    ∷ flaw_when (nat_lt MOST_READINGS (length rs)) kinds.TooManyTargets (slice_get rs MOST_READINGS)
    ∷ flaw_found kinds.FaceMissing (alone_in rs)
    ∷ []) e in
    let again = none_found kinds.ReadTwice (again_in (take (suc MOST_READINGS) rs)) own.0 in
    let few = ltb-false MOST_READINGS (length rs)
    (no_flaw (nat_lt MOST_READINGS (length rs)) kinds.TooManyTargets (slice_get rs MOST_READINGS)
    own.1.0) in
    let whole : take (suc MOST_READINGS) rs
    ≡ rs = take_all (suc MOST_READINGS) rs (omega (arith, few)) in
    record {
      once = ap (λ (xs : List Sight). again_in xs) (sym whole) ∙ again;
      few = few;
      paired = none_found kinds.FaceMissing (alone_in rs) own.1.1.0;
    }

-- What is known of a set, of which this is the first, beside its readings.
pub record IsOrdered (first set : List Sight) : Type 0 where
  pub many : 4 ≤ length set
  pub alike : are_read_alike first set ≡ true
  pub ends : last_target set ≡ last_target first

ordered : (first rs : List Sight) → set_flaw first rs ≡ None → IsOrdered first rs
ordered first rs e =
    let both = all_none (readings_flaw rs ∷ order_flaw first rs ∷ []) e in
    let order = all_none (
    flaw_when (nat_lt (length rs) 4) kinds.OneTarget (slice_get rs 0)
    ∷ flaw_when (not (are_read_alike first rs)) kinds.Order (slice_get rs (length rs / 2))
    ∷ flaw_when (not (bytes_eq (last_target first) (last_target rs))) kinds.EndsElsewhere
    (slice_get rs (length rs - 1))
    ∷ []) both.1.0 in
    record {
      many = ltb-false (length rs) 4
          (no_flaw (nat_lt (length rs) 4) kinds.OneTarget (slice_get rs 0) order.0);
      alike = not-false (are_read_alike first rs)
          (no_flaw (not (are_read_alike first rs)) kinds.Order (slice_get rs (length rs / 2))
          order.1.0);
      ends = sym ((bytes_eq-Decides (last_target first) (last_target rs)).0
          (not-false (bytes_eq (last_target first) (last_target rs))
          (no_flaw (not (bytes_eq (last_target first) (last_target rs))) kinds.EndsElsewhere
          (slice_get rs (length rs - 1)) order.1.1.0)));
    }

pub all_ordered : (first : List Sight) (count end : ℕ) (starts : List ℕ) (rs : List Sight)
    → sets_flaw first count end starts rs ≡ None → All (IsOrdered first) (parts_at end starts rs)
all_ordered first count end [] rs e = All-nil (IsOrdered first)
all_ordered first count end (from ∷ starts) rs e =
    let set = part from (next_of end starts) rs in
    let none = all_none (flaw_when (nat_le MOST_SETS count) kinds.TooManySets (slice_get rs from)
    ∷ set_flaw first set ∷ sets_flaw first (suc count) end starts rs ∷ []) e in
    All-cons (IsOrdered first) set (parts_at end starts rs) (ordered first set none.1.0)
    (all_ordered first (suc count) end starts rs none.1.1.0)

-- In a set without a flaw each target is read once in each face.
pub set_once : (first rs : List Sight) → set_flaw first rs ≡ None → ReadsEachOnce rs
set_once first rs e =
    let both = all_none (readings_flaw rs ∷ order_flaw first rs ∷ []) e in
    let own = clean_readings rs both.0 in
    record { many = (ordered first rs e).many; once = each_once rs own.once own.paired }
