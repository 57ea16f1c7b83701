-- A station that has sets has at most 40, and its name has room.
use Rattle.std.proofs.Common.{◌≡◌, ℕ, suc, ◌+◌, ◌-◌, ◌/◌, ◌<◌, ◌≤◌, Bool, true, false, List, []}
use Rattle.std.proofs.Common.{◌∷◌, length, Option, Some, None, refl, sym, ap, ◌∙◌, arith, inl}
use Rattle.std.proofs.Common.{inr}
use Rattle.std.specs.Prelude.{◌==◌, slice_get, nat_le, nat_lt, not}
use Rattle.std.specs.Str.{bytes_eq}
use Rattle.std.proofs.lemmas.Bool.{cases_lt, le-leb, lt-leb}
use Rattle.adjust_kernel.specs.Names.{IsName}
use Rattle.station_book.specs.Faults.{first_of}
use Rattle.adjust_kernel.specs.declared.bounds.TheConstants.{MOST_SETS}
use Rattle.set_marks.specs.declared.division.Divided.TheVariants.{Sets}
use Rattle.set_marks.specs.declared.flaw.Flaw.{Flaw}
use Rattle.set_marks.specs.declared.fault.MarkKind.TheVariants as kinds
use Rattle.set_marks.specs.declared.sight.Sight.{Sight}
use Rattle.set_marks.specs.declared.span.Span.{Span}
use Rattle.set_marks.specs.Divisions.{order_flaw, are_read_alike, last_target, set_flaw, part}
use Rattle.set_marks.specs.Divisions.{next_of, sets_flaw, starts_of, in_span, first_set}
use Rattle.set_marks.specs.Ways.{divided}
use Rattle.set_marks.specs.Divisions.{flaw_at, flaw_when, first_cut, cut_end}
use Rattle.job_statements.specs.declared.stated.Numbers.{Numbers}
use Rattle.set_marks.proofs.Spans.{are_taken}

-- Where nothing stands first of some, nothing stands of each.
pub none_of_two : {X : Type 0} (a b : Option X) → first_of (a ∷ b ∷ []) ≡ None → (a ≡ None)
    × (b ≡ None)
none_of_two None None e = (refl, refl)
none_of_two None (Some y) e = cc
none_of_two (Some x) b e = cc

pub none_of_three : {X : Type 0} (a b c : Option X) → first_of (a ∷ b ∷ c ∷ []) ≡ None
    → (a ≡ None) × (b ≡ None) × (c ≡ None)
none_of_three None None None e = (refl, refl, refl)
none_of_three None None (Some z) e = cc
none_of_three None (Some y) c e = cc
none_of_three (Some x) b c e = cc

not_many : (count : ℕ) (o : Option Sight)
    → flaw_when (nat_le MOST_SETS count) kinds.TooManySets o ≡ None → suc count ≤ MOST_SETS
not_many count o e = elim (cases_lt count MOST_SETS) [
  | inl lt ↦ lt
  | inr ge ↦ let h : nat_le MOST_SETS count ≡ true = le-leb MOST_SETS count ge in
      let f : Some (flaw_at kinds.TooManySets o) ≡ None = rw h at e in cc
]

-- Sets of which nothing is wrong are at most 40.
pub few : (first : List Sight) (count end : ℕ) (starts : List ℕ) (rs : List Sight)
    → count ≤ MOST_SETS → sets_flaw first count end starts rs ≡ None
    → count + length starts ≤ MOST_SETS
few first count end [] rs le e = omega (arith, le)
few first count end (from ∷ starts) rs le e =
    let each = none_of_three
    (flaw_when (nat_le MOST_SETS count) kinds.TooManySets (slice_get rs from))
    (set_flaw first (part from (next_of end starts) rs))
    (sets_flaw first (suc count) end starts rs) e in
    let below : suc count ≤ MOST_SETS = not_many count (slice_get rs from) each.0 in
    let more : suc count + length starts ≤ MOST_SETS =
    few first (suc count) end starts rs below each.2 in
    omega (arith, more)

-- A station's readings that are sets are at most 40.
pub few_sets : (stated : Numbers) (rs : List Sight) (span : Span) → divided stated rs ≡ Sets span
    → length (starts_of (in_span span rs)) ≤ MOST_SETS
few_sets stated rs span e =
    let inner = in_span span rs in
    let most = few (first_set inner) 0 (length inner) (starts_of inner) inner (omega arith)
    (are_taken stated rs span e).wrong in omega (arith, most)

-- A name is no empty one.
pub is_not_empty : (name : List ℕ) → IsName name
    → (bytes_eq name [] ≡ false) × (bytes_eq [] name ≡ false)
is_not_empty [] is = let some = is.some in absurd (omega (arith, some))
is_not_empty (b ∷ name) is = (refl, refl)

only_one : {X : Type 0} (a : Option X) → first_of (a ∷ []) ≡ a
only_one None = refl
only_one (Some x) = refl

-- What is wrong with the first set is found first.
pub own_flaw : (starts : List ℕ) (rs : List Sight) (f : Flaw)
    → (length starts == 0) ≡ false → Some f ≡ set_flaw (first_cut starts rs) (first_cut starts rs)
    → Some f ≡ sets_flaw (first_cut starts rs) 0 (cut_end starts rs) starts rs
own_flaw [] rs f some e = cc
own_flaw (from ∷ starts) rs f some e =
    let first = first_cut (from ∷ starts) rs in
    ap (λ (o : Option Flaw). first_of (o
    ∷ sets_flaw first 1 (cut_end (from ∷ starts) rs) starts rs ∷ [])) e

-- After a set without flaw.
pub next_flaw : (first : List Sight) (count end from : ℕ) (starts : List ℕ) (rs : List Sight)
    (whole : Option Flaw) → count < MOST_SETS
    → set_flaw first (part from (next_of end starts) rs) ≡ None
    → sets_flaw first count end (from ∷ starts) rs ≡ whole
    → sets_flaw first (count + 1) end starts rs ≡ whole
next_flaw first count end from starts rs whole lt none e =
    let few : nat_le MOST_SETS count ≡ false = lt-leb MOST_SETS count lt in
    let f : sets_flaw first count end (from ∷ starts) rs
    ≡ first_of (sets_flaw first (suc count) end starts rs ∷ []) =
    rw (few, none) refl in
    let step : suc count ≡ count + 1 = omega arith in
    ap (λ (k : ℕ). sets_flaw first k end starts rs) (sym step)
    ∙ sym (only_one (sets_flaw first (suc count) end starts rs)) ∙ sym f ∙ e

-- After so many sets that there may be no more.
pub many_flaw : (first : List Sight) (count end from : ℕ) (starts : List ℕ) (rs : List Sight)
    (whole : Option Flaw) (flaw : Flaw) → MOST_SETS ≤ count
    → flaw ≡ flaw_at kinds.TooManySets (slice_get rs from)
    → sets_flaw first count end (from ∷ starts) rs ≡ whole → Some flaw ≡ whole
many_flaw first count end from starts rs whole flaw le is e =
    let many : nat_le MOST_SETS count ≡ true = le-leb MOST_SETS count le in
    let f : sets_flaw first count end (from ∷ starts) rs
    ≡ Some (flaw_at kinds.TooManySets (slice_get rs from)) = rw many refl in
    ap Some is ∙ sym f ∙ e

-- The three flaws of a set as a whole, one by one.
pub order_flaw_is : (first rs : List Sight) (a b c : Option Flaw) (o p q : Option Sight)
    (short apart elsewhere : Bool) → a ≡ flaw_when short kinds.OneTarget o
    → b ≡ flaw_when apart kinds.Order p → c ≡ flaw_when elsewhere kinds.EndsElsewhere q
    → short ≡ nat_lt (length rs) 4 → apart ≡ not (are_read_alike first rs)
    → elsewhere ≡ not (bytes_eq (last_target first) (last_target rs))
    → o ≡ slice_get rs 0 → p ≡ slice_get rs (length rs / 2) → q ≡ slice_get rs (length rs - 1)
    → first_of (a ∷ b ∷ c ∷ []) ≡ order_flaw first rs
order_flaw_is first rs a b c o p q short apart elsewhere ea eb ec e1 e2 e3 e4 e5 e6 =
    rw (ea, eb, ec, e1, e2, e3, e4, e5, e6) refl
