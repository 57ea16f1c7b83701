-- The sets that begin at some places, one after another.
use Rattle.std.proofs.Common.{◌≡◌, ℕ, suc, ◌+◌, ◌-◌, ◌<◌, ◌≤◌, List, [], ◌∷◌, ◌++◌, length, take}
use Rattle.std.proofs.Common.{drop, Option, None, refl, sym, ap, ◌∙◌, arith, All}
use Rattle.std.specs.Prelude.{nat_le, slice_get}
use Rattle.std.proofs.Math.Seq.{take-add}
use Rattle.std.proofs.lemmas.Bool.{leb-false}
use Rattle.std.proofs.lemmas.List.{append-nil, length-take, drop-drop, drop-take, take-take}
use Rattle.std.proofs.lemmas.List.Elements.{All-nil, All-cons}
use Rattle.station_book.proofs.readings.CleanBlocks.{all_none}
use Rattle.adjust_kernel.specs.declared.bounds.TheConstants.{MOST_SETS}
use Rattle.station_book.specs.Faults.{first_of}
use Rattle.set_marks.specs.declared.fault.MarkKind.TheVariants as kinds
use Rattle.set_marks.specs.declared.flaw.Flaw.{Flaw}
use Rattle.set_marks.specs.declared.sight.Sight.{Sight}
use Rattle.set_marks.specs.Divisions.{set_flaw, sets_flaw, parts_at, part, flaw_when, last_place}
use Rattle.set_marks.specs.SetsInWords.{one_after_another, ReadsEachOnce}
use Rattle.set_marks.proofs.EachTargetOnce.{set_once, no_flaw}

-- Readings up to a place, and then those from there up to a later one.
two_parts : (from to end : ℕ) (rs : List Sight) → from ≤ to → to ≤ end
    → part from to rs ++ part to end rs ≡ part from end rs
two_parts from to end rs le le2 =
    let beyond : drop to rs ≡ drop (to - from) (drop from rs) =
    sym (drop-drop (to - from) from rs ∙ ap (λ (k : ℕ). drop k rs) (omega arith)) in
    ap (λ xs. part from to rs ++ take (end - to) xs) beyond
    ∙ sym (take-add (to - from) (end - to) (drop from rs))
    ∙ ap (λ (k : ℕ). take k (drop from rs)) (omega arith)

-- A part with readings ends after it begins.
part_order : (from to : ℕ) (rs : List Sight) → 4 ≤ length (part from to rs) → from < to
part_order from to rs e = omega (arith, length-take (to - from) (drop from rs), e)

-- What stands up to a place is the same where the readings up to there are.
same_part : (from to end : ℕ) (xs ys : List Sight) → from ≤ to → to ≤ end
    → take end xs ≡ take end ys → part from to xs ≡ part from to ys
same_part from to end xs ys le le2 same =
    let beyond : to ≡ from + (to - from) = omega (arith, le) in
    let of : (zs : List Sight) → part from to zs ≡ drop from (take to (take end zs)) =
    λ zs. sym (drop-take from (to - from) zs) ∙ ap (λ (k : ℕ). drop from (take k zs)) (sym beyond)
    ∙ ap (λ l. drop from l) (sym (take-take to end zs le2)) in
    of xs ∙ ap (λ l. drop from (take to l)) same ∙ sym (of ys)

-- What is said of the sets that begin at these places, after so many.
pub record Joined (count end from : ℕ) (starts : List ℕ) (rs : List Sight) : Type 0 where
  pub order : from < end
  pub last : last_place (from ∷ starts) < end
  pub same : one_after_another (parts_at end (from ∷ starts) rs) ≡ part from end rs
  pub each : All ReadsEachOnce (parts_at end (from ∷ starts) rs)
  pub few : count + length (parts_at end (from ∷ starts) rs) ≤ MOST_SETS
  pub of_more : (xs : List Sight) → take end xs ≡ take end rs
      → parts_at end (from ∷ starts) xs ≡ parts_at end (from ∷ starts) rs

pub joined : (first : List Sight) (count end from : ℕ) (starts : List ℕ) (rs : List Sight)
    → sets_flaw first count end (from ∷ starts) rs ≡ None → Joined count end from starts rs
joined first count end from [] rs e =
    let none = all_none (flaw_when (nat_le MOST_SETS count) kinds.TooManySets (slice_get rs from)
    ∷ set_flaw first (part from end rs) ∷ None ∷ []) e in
    let set = set_once first (part from end rs) none.1.0 in
    let lt = leb-false MOST_SETS count
    (no_flaw (nat_le MOST_SETS count) kinds.TooManySets (slice_get rs from) none.0) in
    let order = part_order from end rs set.many in
    record {
      order = order;
      last = order;
      same = append-nil (part from end rs);
      each = All-cons ReadsEachOnce (part from end rs) [] set (All-nil ReadsEachOnce);
      few = omega (arith, lt);
      of_more = λ xs e. ap (λ set. set ∷ [])
          (same_part from end end xs rs (omega (arith, order)) (omega arith) e);
    }
joined first count end from (to ∷ starts) rs e =
    let none = all_none (flaw_when (nat_le MOST_SETS count) kinds.TooManySets (slice_get rs from)
    ∷ set_flaw first (part from to rs) ∷ sets_flaw first (suc count) end (to ∷ starts) rs ∷ []) e in
    let set = set_once first (part from to rs) none.1.0 in
    let rest = joined first (suc count) end to starts rs none.1.1.0 in
    let before = part_order from to rs set.many in
    let after = rest.order in
    record {
      order = omega (arith, before, after);
      last = rest.last;
      same = ap (λ xs. part from to rs ++ xs) rest.same
          ∙ two_parts from to end rs (omega (arith, before)) (omega (arith, after));
      each = All-cons ReadsEachOnce (part from to rs) (parts_at end (to ∷ starts) rs) set rest.each;
      few = let n = rest.few in omega arith;
      of_more = λ xs e. (λ i. same_part from to end xs rs (omega (arith, before))
          (omega (arith, after)) e i ∷ rest.of_more xs e i);
    }

-- Nothing is wrong with the same sets among other readings, which are the same up to where the last
-- set ends.
pub right_among : (first : List Sight) (count end from : ℕ) (starts : List ℕ) (xs rs : List Sight)
    → sets_flaw first count end (from ∷ starts) rs ≡ None → take end xs ≡ take end rs
    → sets_flaw first count end (from ∷ starts) xs ≡ None
right_among first count end from [] xs rs e same =
    let none = all_none (flaw_when (nat_le MOST_SETS count) kinds.TooManySets (slice_get rs from)
    ∷ set_flaw first (part from end rs) ∷ None ∷ []) e in
    let few = no_flaw (nat_le MOST_SETS count) kinds.TooManySets (slice_get rs from) none.0 in
    let order = part_order from end rs (set_once first (part from end rs) none.1.0).many in
    rw few (ap (λ (l : List Sight). first_of (set_flaw first l ∷ None ∷ []))
    (same_part from end end xs rs (omega (arith, order)) (omega arith) same)
    ∙ ap (λ (o : Option Flaw). first_of (o ∷ None ∷ [])) none.1.0)
right_among first count end from (to ∷ starts) xs rs e same =
    let none = all_none (flaw_when (nat_le MOST_SETS count) kinds.TooManySets (slice_get rs from)
    ∷ set_flaw first (part from to rs) ∷ sets_flaw first (suc count) end (to ∷ starts) rs ∷ []) e in
    let few = no_flaw (nat_le MOST_SETS count) kinds.TooManySets (slice_get rs from) none.0 in
    let before = part_order from to rs (set_once first (part from to rs) none.1.0).many in
    let after = (joined first (suc count) end to starts rs none.1.1.0).order in
    rw few (ap (λ (l : List Sight). first_of (set_flaw first l
    ∷ sets_flaw first (suc count) end (to ∷ starts) xs ∷ []))
    (same_part from to end xs rs (omega (arith, before)) (omega (arith, after)) same)
    ∙ ap (λ (o : Option Flaw). first_of (o ∷ sets_flaw first (suc count) end (to ∷ starts) xs ∷ []))
    none.1.0
    ∙ ap (λ (o : Option Flaw). first_of (o ∷ []))
    (right_among first (suc count) end to starts xs rs none.1.1.0 same))

-- There are as many sets as places where they begin.
pub as_many : (end : ℕ) (starts : List ℕ) (rs : List Sight)
    → length (parts_at end starts rs) ≡ length starts
as_many end [] rs = refl
as_many end (from ∷ starts) rs = ap (λ (k : ℕ). suc k) (as_many end starts rs)
