-- The sets that are recognized, in words.
use Rattle.std.proofs.Common.{◌≡◌, ℕ, ◌-◌, ◌≤◌, true, false, List, [], ◌∷◌, ◌++◌, length, take}
use Rattle.std.proofs.Common.{drop, None, sym, ap, ◌∙◌, inl, inr, subst, arith, All}
use Rattle.std.specs.Prelude.{slice_get}
use Rattle.std.proofs.lemmas.Bool.{cases_Bool}
use Rattle.std.proofs.lemmas.List.{take-append-drop, drop-drop, length-take, length-drop}
use Rattle.std.proofs.Math.Seq.{take-length}
use Rattle.std.proofs.lemmas.List.Elements.{All-nil, All-cons, All-head, All-tail}
use Rattle.adjust_kernel.specs.declared.bounds.TheConstants.{MOST_SETS}
use Rattle.set_marks.specs.declared.division.Divided.TheVariants.{Sets}
use Rattle.set_marks.specs.declared.sight.Sight.{Sight}
use Rattle.set_marks.specs.declared.span.Span.{Span}
use Rattle.job_statements.specs.declared.stated.Numbers.{Numbers}
use Rattle.set_marks.specs.Divisions.{sets_flaw, starts_of, sets_of, first_set}
use Rattle.set_marks.specs.Divisions.{parts_at, is_mostly_known, in_span}
use Rattle.set_marks.specs.Doubts.{stranger_among}
use Rattle.set_marks.specs.Ways.{divided}
use Rattle.set_marks.specs.Searching.{starts_from}
use Rattle.set_marks.specs.SetsInWords.{one_after_another, ReadsEachOnce, AreSets}
use Rattle.set_marks.proofs.BeginsAndEnds.{first_start}
use Rattle.set_marks.proofs.RowsOfSets.{joined}
use Rattle.set_marks.proofs.SameSets.{whole}
use Rattle.set_marks.proofs.Spans.{are_taken}

-- Where no set has other targets than the first, each has mostly those.
all_known : (first : List Sight) (sets : List (List Sight)) → All ReadsEachOnce sets
    → stranger_among first sets ≡ None → All (λ set. is_mostly_known first set ≡ true) sets
all_known first [] each e = All-nil (λ (set : List Sight). is_mostly_known first set ≡ true)
all_known first (set ∷ sets) each e = elim (cases_Bool (is_mostly_known first set)) [
  | inl h ↦ All-cons (λ (s : List Sight). is_mostly_known first s ≡ true) set sets h
      (all_known first sets (All-tail ReadsEachOnce set sets each) (rw h at e))
  | inr h ↦ absurd (some_reading set (All-head ReadsEachOnce set sets each).many (rw h at e))
] where
  some_reading : (rs : List Sight) → 4 ≤ length rs → slice_get rs 0 ≡ None → ⊥
  some_reading [] many f = omega (arith, many)
  some_reading (r ∷ rs) many f = cc

-- What is said of readings that are sets, with which nothing is wrong.
record AreJoined (rs : List Sight) : Type 0 where
  pub some : 1 ≤ length (sets_of rs)
  pub few : length (sets_of rs) ≤ MOST_SETS
  pub each : All ReadsEachOnce (sets_of rs)
  pub same : one_after_another (sets_of rs) ≡ rs

are_joined : (rs : List Sight) → 1 ≤ length rs
    → sets_flaw (first_set rs) 0 (length rs) (starts_of rs) rs ≡ None → AreJoined rs
are_joined [] some none = absurd (omega (arith, some))
are_joined (r ∷ rs) some none =
    let all = r ∷ rs in
    let end = length all in
    let later = starts_from r.target false 1 rs in
    let at : starts_of all ≡ 0 ∷ later = first_start r rs in
    let j = joined (first_set all) 0 end 0 later all
    (subst (λ (ps : List ℕ). sets_flaw (first_set all) 0 end ps all ≡ None) at none) in
    let sets : sets_of all ≡ parts_at end (0 ∷ later) all =
    ap (λ (ps : List ℕ). parts_at end ps all) at in
    record {
      some = subst (λ (l : List (List Sight)). 1 ≤ length l) (sym sets) (omega arith);
      few = subst (λ (l : List (List Sight)). length l ≤ MOST_SETS) (sym sets)
          (let n = j.few in omega arith);
      each = subst (λ (l : List (List Sight)). All ReadsEachOnce l) (sym sets) j.each;
      same = ap one_after_another sets ∙ j.same ∙ whole end all ∙ take-length all;
    }

-- Where sets are recognized, they are sets.
pub sets_in_words : (stated : Numbers) (rs : List Sight) (span : Span)
    → divided stated rs ≡ Sets span → AreSets rs span
sets_in_words stated rs span e =
    let taken = are_taken stated rs span e in
    let inner = in_span span rs in
    let order = taken.order in
    let within = taken.within in
    let beyond = drop span.from rs in
    let long = length-take (span.to - span.from) beyond in
    let left = length-drop span.from rs in
    let j = are_joined inner (omega (arith, order, within, long, left)) taken.wrong in
    record {
      some = j.some;
      few = j.few;
      each = j.each;
      known = all_known (first_set inner) (sets_of inner) j.each taken.known;
      in_order = sym (take-append-drop span.from rs)
          ∙ ap (λ xs. take span.from rs ++ xs)
          (sym (take-append-drop (span.to - span.from) beyond)
          ∙ (λ i. sym j.same i ++ rest i));
    } where
      rest : drop (span.to - span.from) (drop span.from rs) ≡ drop span.to rs
      rest = drop-drop (span.to - span.from) span.from rs
          ∙ ap (λ (k : ℕ). drop k rs) (omega (arith, (are_taken stated rs span e).order))
