-- A station all of whose readings are in sets has no details.
use Rattle.std.proofs.Common.{◌≡◌, ℕ, ◌+◌, ◌≤◌, Bool, true, false, List, [], ◌∷◌, ◌++◌}
use Rattle.std.proofs.Common.{length, take, drop, Option, Some, None, is_none, refl, sym, ap, subst}
use Rattle.std.proofs.Common.{◌∙◌, arith, All, append_assoc}
use Rattle.std.specs.Prelude.{◌||◌, not, Contains, nat_le, if◌then◌else◌}
use Rattle.std.specs.List.{list_any}
use Rattle.std.proofs.lemmas.Bool.{or_left, or_right, lt-leb}
use Rattle.std.proofs.lemmas.List.{take_all, length-append}
use Rattle.std.proofs.lemmas.List.Elements.{All-nil, All-head, All-tail, All-append}
use Rattle.std.proofs.lemmas.List.Elements.{All-take, All-contains_itself, filter-append}
use Rattle.std.proofs.lemmas.List.Folds.{list_any-append}
use Rattle.adjust_kernel.specs.declared.bounds.TheConstants.{MOST_SETS}
use Rattle.station_book.specs.Faults.{first_of}
use Rattle.set_marks.specs.declared.flaw.Flaw.{Flaw}
use Rattle.set_marks.specs.declared.fault.MarkKind.TheVariants as kinds
use Rattle.set_marks.specs.declared.outside.Ending.TheVariants.{Nothing, CheckSights, CheckPair}
use Rattle.set_marks.specs.declared.sight.Sight.{Sight}
use Rattle.job_statements.specs.declared.stated.Numbers.{Numbers}
use Rattle.set_marks.specs.Divisions.{is_of, seconds_of, rest_of, place_of, unknown_in, starts_of}
use Rattle.set_marks.specs.Divisions.{sets_flaw, first_cut, cut_end, flaw_at}
use Rattle.set_marks.specs.Divisions.{flaw_when, flaw_found, parts_at, divided_unless, span_from}
use Rattle.set_marks.specs.Doubts.{doubt_after}
use Rattle.set_marks.specs.Ways.{Way, cut_flaw, flaw_after, flaw_of, is_division, most_leading}
use Rattle.set_marks.specs.Ways.{leading_of, ways_of, divided_by, detail_between}
use Rattle.set_marks.specs.Searching.{starts_from, NoneOpen}
use Rattle.set_marks.specs.SetsInWords.{one_after_another, ReadsEachOnce}
use Rattle.set_marks.proofs.AmongDetails.{is_known, all_kept, first_place}
use Rattle.set_marks.proofs.BeginsAndEnds.{first_start}
use Rattle.set_marks.proofs.EachTargetOnce.{none_is}
use Rattle.set_marks.proofs.FewStarts.{few_are_all}
use Rattle.set_marks.proofs.RowsOfSets.{joined}
use Rattle.set_marks.proofs.SameSets.{all_so, some_second, whole, detail_among}
use Rattle.set_marks.proofs.Tries.{least_at, closed_none}

-- Each target of sets is read in face II.
sets_known : (before : List Sight) (sets : List (List Sight)) → All ReadsEachOnce sets
    → All (λ x. is_known (seconds_of (before ++ one_after_another sets)) x ≡ true)
    (one_after_another sets)
sets_known before [] each =
    All-nil (λ (x : Sight). is_known (seconds_of (before ++ [])) x ≡ true)
sets_known before (set ∷ sets) each =
    let more = one_after_another sets in
    let all = before ++ (set ++ more) in
    let once = All-head ReadsEachOnce set sets each in
    let own : All (λ x. is_known (seconds_of all) x ≡ true) set =
    all_so (λ x. Contains set x) (λ x. is_known (seconds_of all) x ≡ true) (λ x here.
    ap (λ l. list_any (is_of x.target) l) (filter-append (λ s. s.second) before (set ++ more))
    ∙ list_any-append (is_of x.target) (seconds_of before) (seconds_of (set ++ more))
    ∙ or_right (list_any (is_of x.target) (seconds_of before))
    (list_any (is_of x.target) (seconds_of (set ++ more)))
    (ap (λ l. list_any (is_of x.target) l) (filter-append (λ s. s.second) set more)
    ∙ list_any-append (is_of x.target) (seconds_of set) (seconds_of more)
    ∙ or_left (list_any (is_of x.target) (seconds_of set))
    (list_any (is_of x.target) (seconds_of more))
    (some_second x.target set (let one = once.once x true here in omega (arith, one)))))
    set (All-contains_itself set) in
    let others : All (λ x. is_known (seconds_of all) x ≡ true) more =
    subst (λ (l : List Sight). All (λ x. is_known (seconds_of l) x ≡ true) more)
    (append_assoc before set more)
    (sets_known (before ++ set) sets (All-tail ReadsEachOnce set sets each)) in
    All-append (λ (x : Sight). is_known (seconds_of all) x ≡ true) set more own others

none_unknown : (others rs : List Sight) → All (λ x. is_known others x ≡ true) rs
    → unknown_in others rs ≡ None
none_unknown others [] all = refl
none_unknown others (r ∷ rs) all =
    rw (All-head (λ (s : Sight). is_known others s ≡ true) r rs all)
    (none_unknown others rs (All-tail (λ (s : Sight). is_known others s ≡ true) r rs all))

or_true : (b : Bool) → (b || true) ≡ true
or_true true = refl
or_true false = refl

-- Where the sets of readings take all of them and nothing is wrong with them, nothing else is.
all_in_sets : (r : Sight) (rs : List Sight)
    → sets_flaw (first_cut (starts_of (r ∷ rs)) (r ∷ rs)) 0 (cut_end (starts_of (r ∷ rs)) (r ∷ rs))
    (starts_of (r ∷ rs)) (r ∷ rs) ≡ None
    → cut_end (starts_of (r ∷ rs)) (r ∷ rs) ≡ length (r ∷ rs)
    → All (λ x. is_known (seconds_of (r ∷ rs)) x ≡ true) (r ∷ rs)
all_in_sets r rs none ends =
    let all = r ∷ rs in
    let end = cut_end (starts_of all) all in
    let later = starts_from r.target false 1 rs in
    let at : starts_of all ≡ 0 ∷ later = first_start r rs in
    let j = joined (first_cut (starts_of all) all) 0 end 0 later all
    (subst (λ (ps : List ℕ). sets_flaw (first_cut (starts_of all) all) 0 end ps all ≡ None) at none)
    in
    let same : one_after_another (parts_at end (0 ∷ later) all) ≡ all = j.same ∙ whole end all
    ∙ take_all end all (omega (arith, ends)) in
    subst (λ (l : List Sight). All (λ x. is_known (seconds_of l) x ≡ true) l) same
    (sets_known [] (parts_at end (0 ∷ later) all) j.each)

no_flaw_beside : (r : Sight) (rs : List Sight)
    → sets_flaw (first_cut (starts_of (r ∷ rs)) (r ∷ rs)) 0 (cut_end (starts_of (r ∷ rs)) (r ∷ rs))
    (starts_of (r ∷ rs)) (r ∷ rs) ≡ None
    → All (λ x. is_known (seconds_of (r ∷ rs)) x ≡ true) (r ∷ rs)
    → cut_flaw (r ∷ rs) [] 0 (starts_of (r ∷ rs)) (r ∷ rs) ≡ None
no_flaw_beside r rs none known =
    let all = r ∷ rs in
    let clean : detail_between all 0 (0 + cut_end (starts_of all) all) ≡ None =
    sym (detail_among all 0 (cut_end (starts_of all) all))
    ∙ none_unknown (seconds_of all) (take (cut_end (starts_of all) all) all)
    (All-take (λ (x : Sight). is_known (seconds_of all) x ≡ true) (cut_end (starts_of all) all) all
    known) in
    ap (λ (o : Option Flaw). first_of (o
    ∷ flaw_found kinds.FaceMissing (detail_between all 0 (0 + cut_end (starts_of all) all))
    ∷ flaw_when (not (nat_le 2 (length (starts_of all)) || true)) kinds.OneSet (Some r)
    ∷ [])) none
    ∙ ap (λ (o : Option Sight). first_of (flaw_found kinds.FaceMissing o
    ∷ flaw_when (not (nat_le 2 (length (starts_of all)) || true)) kinds.OneSet (Some r)
    ∷ [])) clean
    ∙ ap (λ (b : Bool). first_of (flaw_when (not b) kinds.OneSet (Some r) ∷ []))
    (or_true (nat_le 2 (length (starts_of all))))

-- What is wrong where none leads and nothing ends the sets: that of the rest, which is given.
abbrev flaw_with : List Sight → List Sight → Option Flaw
flaw_with rs rest =
    if nat_le (length rest) 0 then Some (flaw_at kinds.OneSet None)
    else flaw_after Nothing rs (take 0 rest) (place_of (seconds_of rs) 0 rs) (drop 0 rest)

unfold_flaw : (all : List Sight) → flaw_of Nothing all 0 ≡ flaw_with all (rest_of all)
unfold_flaw all = refl

with_all : (all : List Sight) → nat_le (length all) 0 ≡ false → place_of (seconds_of all) 0 all ≡ 0
    → flaw_with all all ≡ first_of (cut_flaw all [] 0 (starts_of all) all ∷ None ∷ [])
with_all all some at = rw (some, at) refl

-- So there is one way.
one_way : (rs : List Sight) → leading_of Nothing rs ≡ Some 0 → leading_of CheckSights rs ≡ None
    → leading_of CheckPair rs ≡ None → ways_of rs ≡ record { ending = Nothing; leading = 0 } ∷ []
one_way rs nothing checks pair = rw (nothing, checks, pair) refl

-- So the station is what it is without leading readings and details.
pub divided_whole : (stated : Numbers) (rs : List Sight) → 1 ≤ length rs
    → sets_flaw (first_cut (starts_of rs) rs) 0 (cut_end (starts_of rs) rs) (starts_of rs) rs ≡ None
    → cut_end (starts_of rs) rs ≡ length rs → NoneOpen rs
    → divided_by stated rs (ways_of rs)
    ≡ divided_unless (doubt_after stated [] rs rs) (span_from 0 rs)
divided_whole stated [] some none ends closed = absurd (omega (arith, some))
divided_whole stated (r ∷ rs) some none ends closed =
    let all = r ∷ rs in
    let known = all_in_sets r rs none ends in
    let rest : rest_of all ≡ all = all_kept (seconds_of all) all known in
    let at : place_of (seconds_of all) 0 all ≡ 0 = first_place (seconds_of all) r rs
    (All-head (λ (x : Sight). is_known (seconds_of all) x ≡ true) r rs known) in
    let some_more : nat_le (length all) 0 ≡ false = lt-leb (length all) 0 (omega arith) in
    let clean : flaw_of Nothing all 0 ≡ None =
    unfold_flaw all ∙ ap (λ l. flaw_with all l) rest ∙ with_all all some_more at
    ∙ ap (λ (o : Option Flaw). first_of (o ∷ None ∷ [])) (no_flaw_beside r rs none known) in
    let first : leading_of Nothing all ≡ Some 0 =
    least_at (is_division Nothing all) (most_leading all) 0 (omega arith)
    (λ k lt. absurd (omega (arith, lt))) (ap (λ (o : Option Flaw). is_none o) clean) in
    let way : ways_of all ≡ record { ending = Nothing; leading = 0 } ∷ [] =
    one_way all first (closed_none CheckSights all rest closed.0)
    (closed_none CheckPair all rest closed.1) in
    ap (λ (ways : List Way). divided_by stated all ways) way
    ∙ ap (λ (k : ℕ). divided_unless (doubt_after stated (take 0 (rest_of all))
    (drop 0 (rest_of all)) (drop 0 (rest_of all))) (span_from k (drop 0 (rest_of all)))) at
    ∙ ap (λ (l : List Sight). divided_unless (doubt_after stated (take 0 l) (drop 0 l) (drop 0 l))
    (span_from 0 (drop 0 l))) rest

some_last : (rs rest : List Sight) (r : Sight) → rs ≡ rest ++ r ∷ [] → 1 ≤ length rs
some_last rs rest r is =
    let long = ap length is ∙ length-append rest (r ∷ []) in omega (arith, long)

-- The first places where sets begin are all, where nothing is wrong with the sets.
pub whole_starts : (starts : List ℕ) (rs : List Sight)
    → starts ≡ take (MOST_SETS + 1) (starts_of rs)
    → is_none (sets_flaw (first_cut starts rs) 0 (cut_end starts rs) starts rs) ≡ true
    → starts ≡ starts_of rs
whole_starts starts rs are sets =
    few_are_all starts rs are
    (sym (none_is (sets_flaw (first_cut starts rs) 0 (cut_end starts rs) starts rs) sets))

-- So the last ends where they say.
pub whole_end : (starts : List ℕ) (rs : List Sight) (end : ℕ)
    → starts ≡ take (MOST_SETS + 1) (starts_of rs)
    → is_none (sets_flaw (first_cut starts rs) 0 (cut_end starts rs) starts rs) ≡ true
    → end ≡ cut_end starts rs → end ≡ length rs → cut_end (starts_of rs) rs ≡ length rs
whole_end starts rs end are sets is whole =
    ap (λ (l : List ℕ). cut_end l rs) (sym (whole_starts starts rs are sets)) ∙ sym is ∙ whole

-- The same, by these places.
pub whole_by_few : (starts : List ℕ) (rs rest : List Sight) (r : Sight) (end : ℕ)
    → rs ≡ rest ++ r ∷ [] → starts ≡ take (MOST_SETS + 1) (starts_of rs)
    → is_none (sets_flaw (first_cut starts rs) 0 (cut_end starts rs) starts rs) ≡ true
    → end ≡ cut_end starts rs → end ≡ length rs → NoneOpen rs → (stated : Numbers)
    → divided_by stated rs (ways_of rs)
    ≡ divided_unless (doubt_after stated [] rs rs) (span_from 0 rs)
whole_by_few starts rs rest r end last are sets is whole closed stated =
    let none = none_is (sets_flaw (first_cut starts rs) 0 (cut_end starts rs) starts rs) sets in
    let all = whole_starts starts rs are sets in
    divided_whole stated rs (some_last rs rest r last)
    (ap (λ (l : List ℕ). sets_flaw (first_cut l rs) 0 (cut_end l rs) l rs) (sym all) ∙ none)
    (whole_end starts rs end are sets is whole) closed
