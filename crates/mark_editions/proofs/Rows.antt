-- Readings without a flaw are sets, one after another up to where the last of them ends, and each
-- of their targets is read in face II.
use Rattle.std.proofs.Common.{◌≡◌, ℕ, ◌≤◌, true, false, List, [], ◌∷◌, ◌++◌}
use Rattle.std.proofs.Common.{length, take, Option, None, refl, sym, ap, subst, ◌∙◌, arith, All}
use Rattle.std.proofs.Common.{append_assoc}
use Rattle.std.specs.Prelude.{Contains}
use Rattle.std.specs.List.{list_any}
use Rattle.std.proofs.lemmas.Bool.{or_left, or_right}
use Rattle.std.proofs.lemmas.List.Elements.{All-nil, All-head, All-tail, All-append}
use Rattle.std.proofs.lemmas.List.Elements.{All-contains_itself, filter-append}
use Rattle.std.proofs.lemmas.List.Folds.{list_any-append}
use Rattle.set_marks.specs.declared.flaw.Flaw.{Flaw}
use Rattle.set_marks.specs.declared.sight.Sight.{Sight}
use Rattle.set_marks.specs.Divisions.{is_of, seconds_of, unknown_in, starts_of}
use Rattle.set_marks.specs.Searching.{starts_from}
use Rattle.set_marks.specs.Divisions.{sets_flaw, first_cut, cut_end, parts_at}
use Rattle.set_marks.specs.SetsInWords.{one_after_another, ReadsEachOnce}
use Rattle.set_marks.proofs.AmongDetails.{is_known}
use Rattle.set_marks.proofs.BeginsAndEnds.{first_start}
use Rattle.set_marks.proofs.RowsOfSets.{joined, as_many}
use Rattle.set_marks.proofs.SameSets.{all_so, some_second, whole}

-- where the last set of these readings ends, before which none leads
abbrev pub end_in : List Sight → ℕ
end_in rs = cut_end (starts_of rs) rs

-- what is wrong first with their sets
abbrev pub flaw_in : List Sight → Option Flaw
flaw_in rs = sets_flaw (first_cut (starts_of rs) rs) 0 (end_in rs) (starts_of rs) rs

-- Their sets, one after another.
pub record Rows (rs : List Sight) : Type 0 where
  pub sets : List (List Sight)
  pub each : All ReadsEachOnce sets
  pub same : one_after_another sets ≡ take (end_in rs) rs
  pub many : length sets ≡ length (starts_of rs)
  pub some : 1 ≤ length sets

pub rows : (rs : List Sight) → 1 ≤ length rs → flaw_in rs ≡ None → Rows rs
rows [] some none = absurd (omega (arith, some))
rows (r ∷ rs) some none =
    let all = r ∷ rs in
    let end = end_in all in
    let later = starts_from r.target false 1 rs in
    let at : starts_of all ≡ 0 ∷ later = first_start r rs in
    let j = joined (first_cut (starts_of all) all) 0 end 0 later all
    (subst (λ (ps : List ℕ). sets_flaw (first_cut (starts_of all) all) 0 end ps all ≡ None) at none)
    in
    record {
      sets = parts_at end (0 ∷ later) all;
      each = j.each;
      same = j.same ∙ whole end all;
      many = as_many end (0 ∷ later) all ∙ ap length (sym at);
      some = omega arith;
    }

-- What is known among some readings is known among more.
widened : (before xs after : List Sight) (r : Sight) → is_known (seconds_of xs) r ≡ true
    → is_known (seconds_of (before ++ (xs ++ after))) r ≡ true
widened before xs after r e =
    ap (λ (l : List Sight). list_any (is_of r.target) l)
    (filter-append (λ (s : Sight). s.second) before (xs ++ after))
    ∙ list_any-append (is_of r.target) (seconds_of before) (seconds_of (xs ++ after))
    ∙ or_right (list_any (is_of r.target) (seconds_of before))
    (list_any (is_of r.target) (seconds_of (xs ++ after)))
    (ap (λ (l : List Sight). list_any (is_of r.target) l)
    (filter-append (λ (s : Sight). s.second) xs after)
    ∙ list_any-append (is_of r.target) (seconds_of xs) (seconds_of after)
    ∙ or_left (list_any (is_of r.target) (seconds_of xs))
    (list_any (is_of r.target) (seconds_of after)) e)

-- Each target of a set is read in face II.
set_known : (set : List Sight) → ReadsEachOnce set
    → All (λ r. is_known (seconds_of set) r ≡ true) set
set_known set once = all_so (λ r. Contains set r) (λ r. is_known (seconds_of set) r ≡ true)
    (λ r here. some_second r.target set (let one = once.once r true here in omega (arith, one)))
    set (All-contains_itself set)

-- So it is of sets, one after another, among other readings.
pub sets_known : (before : List Sight) (sets : List (List Sight)) (after : List Sight)
    → All ReadsEachOnce sets
    → All (λ r. is_known (seconds_of (before ++ (one_after_another sets ++ after))) r ≡ true)
    (one_after_another sets)
sets_known before [] after each =
    All-nil (λ (r : Sight). is_known (seconds_of (before ++ after)) r ≡ true)
sets_known before (set ∷ sets) after each =
    let more = one_after_another sets in
    let all = before ++ ((set ++ more) ++ after) in
    let own : All (λ r. is_known (seconds_of all) r ≡ true) set =
    subst (λ (l : List Sight). All (λ r. is_known (seconds_of (before ++ l)) r ≡ true) set)
    (sym (append_assoc set more after))
    (all_so (λ r. is_known (seconds_of set) r ≡ true)
    (λ r. is_known (seconds_of (before ++ (set ++ (more ++ after)))) r ≡ true)
    (λ r e. widened before set (more ++ after) r e) set
    (set_known set (All-head ReadsEachOnce set sets each))) in
    let moved : (before ++ set) ++ (more ++ after) ≡ all =
    append_assoc before set (more ++ after)
    ∙ ap (λ (l : List Sight). before ++ l) (sym (append_assoc set more after)) in
    let others : All (λ r. is_known (seconds_of all) r ≡ true) more =
    subst (λ (l : List Sight). All (λ r. is_known (seconds_of l) r ≡ true) more) moved
    (sets_known (before ++ set) sets after (All-tail ReadsEachOnce set sets each)) in
    All-append (λ (r : Sight). is_known (seconds_of all) r ≡ true) set more own others

pub none_unknown : (others rs : List Sight) → All (λ r. is_known others r ≡ true) rs
    → unknown_in others rs ≡ None
none_unknown others [] all = refl
none_unknown others (r ∷ rs) all =
    rw (All-head (λ (s : Sight). is_known others s ≡ true) r rs all)
    (none_unknown others rs (All-tail (λ (s : Sight). is_known others s ≡ true) r rs all))
