-- Of more sets than a station may have, one too many tells what is wrong.
use Rattle.std.proofs.Common.{◌≡◌, ℕ, zero, suc, ◌+◌, ◌<◌, ◌≤◌, Bool, true, false, List, [], ◌∷◌}
use Rattle.std.proofs.Common.{◌++◌, length, take, Option, Some, None, refl, sym, ap, ◌∙◌, arith}
use Rattle.std.proofs.Common.{inl, inr}
use Rattle.std.specs.Prelude.{nat_le, not, slice_get, if◌then◌else◌}
use Rattle.std.proofs.lemmas.Bool.{cases_lt, le-leb}
use Rattle.std.proofs.lemmas.List.{append-nil, take_all, take-append-le, length-take}
use Rattle.adjust_kernel.specs.declared.bounds.TheConstants.{MOST_SETS}
use Rattle.station_book.specs.Faults.{first_of}
use Rattle.set_marks.specs.declared.flaw.Flaw.{Flaw}
use Rattle.set_marks.specs.declared.fault.MarkKind.TheVariants as kinds
use Rattle.set_marks.specs.declared.sight.Sight.{Sight}
use Rattle.set_marks.specs.Divisions.{sets_flaw, set_flaw, first_cut, cut_end, part}
use Rattle.set_marks.specs.Ways.{detail_between, cut_flaw}
use Rattle.set_marks.specs.Divisions.{flaw_at, flaw_when, flaw_found, starts_of, is_of}
use Rattle.set_marks.specs.Outside.{may_precede}
use Rattle.set_marks.specs.Searching.{starts_from}
use Rattle.set_marks.proofs.BeginsAndEnds.{starts_found}
use Rattle.set_marks.proofs.Few.{few}

-- So many places are all, where there are so many of them.
pub enough : (most : ℕ) (whole found : List ℕ) → length found ≤ most → found ++ [] ≡ whole
    → found ≡ take most whole
enough most whole found le e =
    let same : found ≡ whole = sym (append-nil found) ∙ e in
    same ∙ sym (take_all most whole (omega (arith, le, ap (λ (l : List ℕ). length l) same)))

-- No more places are taken.
pub no_more : (most : ℕ) (whole found later : List ℕ) → length found ≡ most
    → found ++ later ≡ whole → found ≡ take most whole
no_more most whole found later e is =
    sym (take_all most found (omega (arith, e)))
    ∙ sym (take-append-le most found later (omega (arith, e)))
    ∙ ap (λ (l : List ℕ). take most l) is

-- There are no more places than readings.
pub few_starts : (a : List ℕ) (even : Bool) (at : ℕ) (rs : List Sight)
    → length (starts_from a even at rs) ≤ length rs
few_starts a even at [] = omega arith
few_starts a even at (r ∷ rs) = by (λ e k. few_starts a e k rs) (is_of a r) even where
  by : ((e : Bool) (k : ℕ) → length (starts_from a e k rs) ≤ length rs) → (b e : Bool)
      → length (if b then (if e then at ∷ starts_from a false (suc at) rs
      else starts_from a true (suc at) rs) else starts_from a e (suc at) rs) ≤ suc (length rs)
  by few true true = let h = few false (suc at) in omega (arith, h)
  by few true false = let h = few true (suc at) in omega (arith, h)
  by few false e = let h = few e (suc at) in omega (arith, h)

-- What is wrong is told before the sets after them are asked for.
too_many : (first : List Sight) (count k end end' : ℕ) (starts : List ℕ) (rs : List Sight)
    → count + k ≡ MOST_SETS → k < length starts
    → sets_flaw first count end (take (suc k) starts) rs ≡ sets_flaw first count end' starts rs
too_many first count zero end end' [] rs e lt = absurd (omega (arith, lt))
too_many first count zero end end' (from ∷ starts) rs e lt =
    let many : nat_le MOST_SETS count ≡ true = le-leb MOST_SETS count (omega (arith, e)) in
    let one : sets_flaw first count end (from ∷ []) rs
    ≡ Some (flaw_at kinds.TooManySets (slice_get rs from)) = rw many refl in
    let other : sets_flaw first count end' (from ∷ starts) rs
    ≡ Some (flaw_at kinds.TooManySets (slice_get rs from)) = rw many refl in
    one ∙ sym other
too_many first count (suc k) end end' [] rs e lt = absurd (omega (arith, lt))
too_many first count (suc k) end end' (from ∷ []) rs e lt = absurd (omega (arith, lt))
too_many first count (suc k) end end' (from ∷ to ∷ starts) rs e lt =
    ap (λ (o : Option Flaw). first_of (
    flaw_when (nat_le MOST_SETS count) kinds.TooManySets (slice_get rs from)
    ∷ set_flaw first (part from to rs) ∷ o ∷ []))
    (too_many first (suc count) k end end' (to ∷ starts) rs (omega (arith, e)) (omega (arith, lt)))

same_first : (starts : List ℕ) (rs : List Sight)
    → first_cut (take (suc MOST_SETS) starts) rs ≡ first_cut starts rs
same_first [] rs = refl
same_first (from ∷ []) rs = refl
same_first (from ∷ to ∷ starts) rs = refl

-- So what is wrong is the same.
pub same_flaw : (starts : List ℕ) (rs : List Sight)
    → sets_flaw (first_cut (take (suc MOST_SETS) starts) rs) 0
    (cut_end (take (suc MOST_SETS) starts) rs) (take (suc MOST_SETS) starts) rs
    ≡ sets_flaw (first_cut starts rs) 0 (cut_end starts rs) starts rs
same_flaw starts rs = elim (cases_lt MOST_SETS (length starts)) [
  | inl many ↦
      ap (λ (f : List Sight). sets_flaw f 0 (cut_end (take (suc MOST_SETS) starts) rs)
      (take (suc MOST_SETS) starts) rs) (same_first starts rs)
      ∙ too_many (first_cut starts rs) 0 MOST_SETS (cut_end (take (suc MOST_SETS) starts) rs)
      (cut_end starts rs) starts rs (omega arith) many
  | inr few ↦
      ap (λ (l : List ℕ). sets_flaw (first_cut l rs) 0 (cut_end l rs) l rs)
      (take_all (suc MOST_SETS) starts (omega (arith, few)))
]

-- It is what is wrong with the sets.
pub flaw_told : (all leading : List Sight) (place : ℕ) (starts : List ℕ) (rs : List Sight)
    (f : Flaw) → starts ≡ take (MOST_SETS + 1) (starts_of rs)
    → Some f ≡ sets_flaw (first_cut starts rs) 0 (cut_end starts rs) starts rs
    → Some f ≡ cut_flaw all leading place (starts_of rs) rs
flaw_told all leading place starts rs f are told =
    let is = told
    ∙ ap (λ (l : List ℕ). sets_flaw (first_cut l rs) 0 (cut_end l rs) l rs) are
    ∙ same_flaw (starts_of rs) rs in
    ap (λ (o : Option Flaw). first_of (o
    ∷ flaw_found kinds.FaceMissing
    (detail_between all place (place + cut_end (starts_of rs) rs))
    ∷ flaw_when (not (may_precede (starts_of rs) rs leading place)) kinds.OneSet
    (slice_get rs 0) ∷ [])) is

-- Where nothing is wrong, there are no more.
pub few_are_all : (starts : List ℕ) (rs : List Sight)
    → starts ≡ take (MOST_SETS + 1) (starts_of rs)
    → None ≡ sets_flaw (first_cut starts rs) 0 (cut_end starts rs) starts rs
    → starts ≡ starts_of rs
few_are_all starts rs are none =
    let small = few (first_cut starts rs) 0 (cut_end starts rs) starts rs (omega arith) (sym none)
    in
    let long = ap (λ (l : List ℕ). length l) are
    ∙ length-take (MOST_SETS + 1) (starts_of rs) in
    are ∙ take_all (MOST_SETS + 1) (starts_of rs) (omega (arith, small, long))

-- Then it is a detail among them, or what stands before a single one, or nothing.
pub flaw_after : (all leading : List Sight) (place : ℕ) (starts : List ℕ) (rs : List Sight)
    (o : Option Flaw) → starts ≡ take (MOST_SETS + 1) (starts_of rs)
    → None ≡ sets_flaw (first_cut starts rs) 0 (cut_end starts rs) starts rs
    → o ≡ first_of (
    flaw_found kinds.FaceMissing (detail_between all place (place + cut_end starts rs))
    ∷ flaw_when (not (may_precede starts rs leading place)) kinds.OneSet
    (slice_get rs 0) ∷ [])
    → o ≡ cut_flaw all leading place (starts_of rs) rs
flaw_after all leading place starts rs o are none is =
    let whole = few_are_all starts rs are none in
    is ∙ ap (λ (p : Option Flaw). first_of (p
    ∷ flaw_found kinds.FaceMissing (detail_between all place (place + cut_end starts rs))
    ∷ flaw_when (not (may_precede starts rs leading place)) kinds.OneSet
    (slice_get rs 0) ∷ [])) none
    ∙ ap (λ (l : List ℕ). cut_flaw all leading place l rs) whole

-- The first places are those of the sets.
pub first_starts : (most : ℕ) (rs : List Sight) (r : Sight) → slice_get rs 0 ≡ Some r
    → take most (starts_from r.target true 0 rs) ≡ take most (starts_of rs)
first_starts most [] r e = cc
first_starts most (x ∷ rs) r e =
    let same : r ≡ x = cc in
    ap (λ (s : Sight). take most (starts_from s.target true 0 (x ∷ rs))) same
    ∙ ap (λ (ps : List ℕ). take most ps) (sym (starts_found (x ∷ rs)))

-- All places are asked for.
pub all_starts : (rs : List Sight) (r : Sight) → slice_get rs 0 ≡ Some r
    → take (length rs) (starts_from r.target true 0 rs) ≡ starts_of rs
all_starts [] r e = cc
all_starts (x ∷ rs) r e =
    let same : r ≡ x = cc in
    ap (λ (s : Sight). take (suc (length rs)) (starts_from s.target true 0 (x ∷ rs))) same
    ∙ take_all (suc (length rs)) (starts_from x.target true 0 (x ∷ rs))
    (few_starts x.target true 0 (x ∷ rs))
    ∙ sym (starts_found (x ∷ rs))
