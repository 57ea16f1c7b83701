-- What the first edition marks the second divides the same, or refuses. With nothing at the end the
-- second finds sets after the same readings. After fewer it finds none: they would be sets of the
-- first edition too, or a single set that holds several.
use Rattle.std.proofs.Common.{◌≡◌, ℕ, zero, suc, ◌+◌, ◌-◌, ◌<◌, ◌≤◌, Bool, true, false, ◌&&◌, ◌||◌}
use Rattle.std.proofs.Common.{not, List, [], ◌∷◌, ◌++◌, length, take, drop, Option, Some, None}
use Rattle.std.proofs.Common.{is_none, refl, sym, ap, subst, ◌∙◌, inl, inr, arith, All, ◌⊎◌}
use Rattle.std.specs.Prelude.{nat_lt, nat_le, slice_get, if◌then◌else◌}
use Rattle.std.proofs.lemmas.Bool.{cases_Bool, cases_lt, false≢true, le-leb, lt-leb, leb-false}
use Rattle.std.proofs.lemmas.Bool.{lt-ltb, ltb-true, ltb-false, and_from, or_left, or_right}
use Rattle.std.proofs.lemmas.List.{length-take, length-drop}
use Rattle.std.proofs.lemmas.List.{take-append-drop, drop-drop, take_all}
use Rattle.std.proofs.lemmas.List.Elements.{All-head, All-take, All-filter, filter_passes}
use Rattle.station_book.proofs.readings.CleanBlocks.{all_none}
use Rattle.station_book.specs.Faults.{first_of}
use Rattle.set_marks.specs.declared.division.Divided.TheVariants.{NoSets, Sets}
use Rattle.set_marks.specs.declared.fault.MarkKind.TheVariants as kinds
use Rattle.set_marks.specs.declared.flaw.Flaw.{Flaw}
use Rattle.set_marks.specs.declared.outside.Ending.TheVariants.{Nothing, CheckSights, CheckPair}
use Rattle.set_marks.specs.declared.sight.Sight.{Sight}
use Rattle.set_marks.specs.declared.span.Span.{Span}
use Rattle.job_statements.specs.declared.stated.Numbers.{Numbers}
use Rattle.set_marks.specs.Divisions.{flaw_at, flaw_when, flaw_found, seconds_of, known_in, rest_of}
use Rattle.set_marks.specs.Divisions.{place_of, unknown_in, starts_of, last_place, first_target}
use Rattle.set_marks.specs.Divisions.{cut_end, cut_of, first_cut, begins_in_two, has_no_sets}
use Rattle.set_marks.specs.Divisions.{divided_unless, span_from, later}
use Rattle.set_marks.specs.Doubts.{stranger_among}
use Rattle.set_marks.specs.Outside.{may_precede, may_lead, are_plain}
use Rattle.set_marks.specs.Ways.{Way, detail_between, cut_flaw, flaw_after, flaw_of, is_division}
use Rattle.set_marks.specs.Ways.{most_leading}
use Rattle.set_marks.specs.Ways.{leading_of, is_given_up, kept, gives, with_way, ways_of, doubt_by}
use Rattle.set_marks.specs.Ways.{span_by, divided_by, divided}
use Rattle.set_marks.specs.Divisions.{count_of}
use Rattle.set_marks.specs.SetsInWords.{ReadsEachOnce}
use Rattle.set_marks.specs.declared.bounds.TheConstants.{MOST_READINGS}
use Rattle.set_marks.proofs.AmongDetails.{is_known, known_after, few_known, strange_too}
use Rattle.set_marks.proofs.EachTargetOnce.{no_flaw, none_found, none_is}
use Rattle.set_marks.proofs.SameSets.{has_sets, cut_within, none_among, detail_among}
use Rattle.set_marks.proofs.Spans.{stays_some}
use Rattle.set_marks.proofs.Tries.{least_at}
use Rattle.mark_editions.specs.FirstEdition.{flaw_behind, flaw_after_leading, divides}
use Rattle.mark_editions.specs.FirstEdition.{fewest_leading, latest_of_all, doubt_behind}
use Rattle.mark_editions.specs.FirstEdition.{may_stand_elsewhere, is_one_by_targets, first_by}
use Rattle.mark_editions.specs.FirstEdition.{are_in_one_face, first_divided}
use Rattle.mark_editions.proofs.Rows.{end_in, flaw_in, rows, sets_known, none_unknown}
use Rattle.mark_editions.proofs.Carried.{before_last, ends_at, carried}
use Rattle.mark_editions.proofs.Leading.{place_within, place_is, kept_up_to, IsLeast, is_least}
use Rattle.mark_editions.proofs.Counts.{read_often, one_set, only_set}

-- With these readings after so many nothing is wrong by the first edition: there are some, nothing
-- is wrong with their sets, and there are several if any lead.
pub record AreFirst (leading : ℕ) (rs : List Sight) : Type 0 where
  pub some : 1 ≤ length rs
  pub none : flaw_in rs ≡ None
  pub many : 1 ≤ leading → 2 ≤ length (starts_of rs)

several : (leading n : ℕ) → (nat_lt 0 leading && nat_lt n 2) ≡ false → 1 ≤ leading → 2 ≤ n
several leading n e some = elim (cases_Bool (nat_lt n 2)) [
  | inl h ↦
      let f : true ≡ false = rw (lt-ltb 0 leading some, h) at e in absurd (false≢true (sym f))
  | inr h ↦ ltb-false n 2 h
]

are_first : (leading : ℕ) (rs : List Sight) → flaw_behind leading rs ≡ None → AreFirst leading rs
are_first leading [] e = cc
are_first leading (r ∷ rs) e =
    let all = r ∷ rs in
    let starts = starts_of all in
    let test = nat_lt 0 leading && nat_lt (length starts) 2 in
    let both = all_none (flaw_in all ∷ flaw_when test kinds.OneSet (Some r) ∷ []) e in
    record {
      some = omega arith;
      none = both.0;
      many = several leading (length starts) (no_flaw test kinds.OneSet (Some r) both.1.0);
    }

both_none : (a b : Option Flaw) → a ≡ None → b ≡ None → first_of (a ∷ b ∷ []) ≡ None
both_none a b e f = rw (e, f) refl

all_three : (a b c : Option Flaw) → a ≡ None → b ≡ None → c ≡ None
    → first_of (a ∷ b ∷ c ∷ []) ≡ None
all_three a b c e f g = rw (e, f, g) refl

no_test : (t : Bool) (k : Flaw) → t ≡ false → (if t then Some k else None) ≡ None
no_test true k e = cc
no_test false k e = refl

and_no : (b : Bool) → (b && false) ≡ false
and_no true = refl
and_no false = refl

-- Several sets have no flaw by the first edition.
several_first : (leading : ℕ) (rs : List Sight) → 1 ≤ length rs → flaw_in rs ≡ None
    → 2 ≤ length (starts_of rs) → flaw_behind leading rs ≡ None
several_first leading [] some none many = absurd (omega (arith, some))
several_first leading (r ∷ rs) some none many =
    both_none (flaw_in (r ∷ rs))
    (flaw_when (nat_lt 0 leading && nat_lt (length (starts_of (r ∷ rs))) 2) kinds.OneSet (Some r))
    none (no_test (nat_lt 0 leading && nat_lt (length (starts_of (r ∷ rs))) 2)
    (flaw_at kinds.OneSet (Some r)) (not_few (nat_lt 0 leading) (length (starts_of (r ∷ rs))) many))
  where
    not_few : (b : Bool) (n : ℕ) → 2 ≤ n → (b && nat_lt n 2) ≡ false
    not_few b n many = elim (cases_Bool (nat_lt n 2)) [
      | inl h ↦ absurd (omega (arith, ltb-true n 2 h, many))
      | inr h ↦ rw h (and_no b)
    ]

single_by : (rs : List Sight) (starts : List ℕ) → length starts < 2
    → cut_end starts rs ≡ length rs
single_by rs [] one = refl
single_by rs (from ∷ []) one = refl
single_by rs (from ∷ to ∷ later) one = absurd (omega (arith, one))

-- What the second edition has of the sets of the first: those of the readings after the leading
-- ones that are no details.
record AreSecond (rs : List Sight) (leading : ℕ) : Type 0 where
  pub known : All (λ r. is_known (seconds_of rs) r ≡ true)
      (take (end_in (drop leading rs)) (drop leading rs))
  pub same : take (end_in (drop leading rs)) (known_in (seconds_of rs) (drop leading rs))
      ≡ take (end_in (drop leading rs)) (drop leading rs)
  pub starts : starts_of (known_in (seconds_of rs) (drop leading rs))
      ≡ starts_of (drop leading rs)
  pub ends : end_in (known_in (seconds_of rs) (drop leading rs)) ≡ end_in (drop leading rs)
  pub none : flaw_in (known_in (seconds_of rs) (drop leading rs)) ≡ None

all_sets_known : (rs : List Sight) (leading : ℕ) → AreFirst leading (drop leading rs)
    → All (λ r. is_known (seconds_of rs) r ≡ true)
    (take (end_in (drop leading rs)) (drop leading rs))
all_sets_known rs leading first =
    let after = drop leading rs in
    let end = end_in after in
    let are = rows after first.some first.none in
    let whole : take leading rs ++ (take end after ++ drop end after) ≡ rs =
    ap (λ (l : List Sight). take leading rs ++ l) (take-append-drop end after)
    ∙ take-append-drop leading rs in
    subst (λ (l : List Sight). All (λ r. is_known (seconds_of l) r ≡ true) (take end after)) whole
    (subst (λ (l : List Sight). All (λ r. is_known (seconds_of (take leading rs
    ++ (l ++ drop end after))) r ≡ true) l) are.same
    (sets_known (take leading rs) are.sets (drop end after) are.each))

are_second : (rs : List Sight) (leading : ℕ) → AreFirst leading (drop leading rs)
    → AreSecond rs leading
are_second rs leading first =
    let twos = seconds_of rs in
    let after = drop leading rs in
    let end = end_in after in
    let rest = known_in twos after in
    let known = all_sets_known rs leading first in
    let kept_so = kept_up_to twos end after (cut_within after (starts_of after)) known in
    elim (cases_lt (length (starts_of after)) 2) [
      | inl few ↦
          let ends : end ≡ length after = single_by after (starts_of after) few in
          let fewer = few_known twos after in
          let whole : rest ≡ after =
          sym (take_all end rest (omega (arith, ends, fewer))) ∙ kept_so.same
          ∙ take_all end after (omega (arith, ends)) in
          record {
            known = known;
            same = kept_so.same;
            starts = ap starts_of whole;
            ends = ap end_in whole;
            none = ap flaw_in whole ∙ first.none;
          }
      | inr many ↦
          let at = ends_at after many in
          let strange = subst (λ (l : List Sight). All (λ r. is_known (before_last after) r ≡ false)
          l) (sym kept_so.after)
          (All-filter (λ (x : Sight). is_known twos x) (λ r. is_known (before_last after) r ≡ false)
          (drop end after) at.strange) in
          let so = carried after rest first.none first.some many kept_so.same strange in
          record {
            known = known;
            same = kept_so.same;
            starts = so.starts;
            ends = so.ends;
            none = so.none;
          }
    ]

-- Nothing is wrong by the second edition where nothing ends the sets: nothing with these, no detail
-- stands among them, and what leads may.
nothing_after : (all leading rest : List Sight) (place : ℕ) → flaw_in rest ≡ None
    → unknown_in (seconds_of all) (take (end_in rest) (drop place all)) ≡ None
    → may_precede (starts_of rest) rest leading place ≡ true
    → flaw_after Nothing all leading place rest ≡ None
nothing_after all leading rest place none clean may =
    both_none (cut_flaw all leading place (starts_of rest) rest) None
    (all_three (flaw_in rest)
    (flaw_found kinds.FaceMissing (detail_between all place (place + end_in rest)))
    (flaw_when (not (may_precede (starts_of rest) rest leading place)) kinds.OneSet
    (slice_get rest 0)) none (ap (λ (o : Option Sight). flaw_found kinds.FaceMissing o)
    (sym (detail_among all place (end_in rest)) ∙ clean))
    (ap (λ (b : Bool). flaw_when (not b) kinds.OneSet (slice_get rest 0)) may)) refl

-- With so many leading readings.
nothing_of : (rs rest : List Sight) (count place : ℕ) → drop count (rest_of rs) ≡ rest
    → place_of (seconds_of rs) count rs ≡ place → 1 ≤ length rest
    → flaw_after Nothing rs (take count (rest_of rs)) place rest ≡ None
    → flaw_of Nothing rs count ≡ None
nothing_of rs rest count place is at some none =
    let long = length-drop count (rest_of rs) in
    let same = ap (λ (l : List Sight). length l) is in
    rw (lt-leb (length (rest_of rs)) count (omega (arith, long, same, some)))
    ((λ i. flaw_after Nothing rs (take count (rest_of rs)) (at i) (is i)) ∙ none)

-- What stands where nothing is wrong with nothing at the end.
record IsNothing (rs rest : List Sight) (place : ℕ) : Type 0 where
  pub some : 1 ≤ length rest
  pub none : flaw_in rest ≡ None
  pub clean : unknown_in (seconds_of rs) (take (end_in rest) (drop place rs)) ≡ None

is_nothing : (rs : List Sight) (count : ℕ) → flaw_of Nothing rs count ≡ None
    → IsNothing rs (drop count (rest_of rs)) (place_of (seconds_of rs) count rs)
is_nothing rs count e = elim (cases_Bool (nat_le (length (rest_of rs)) count)) [
  | inl h ↦ let f : Some (flaw_at kinds.OneSet None) ≡ None = rw h at e in cc
  | inr h ↦
      let rest = drop count (rest_of rs) in
      let place = place_of (seconds_of rs) count rs in
      let leading = take count (rest_of rs) in
      let more = leb-false (length (rest_of rs)) count h in
      let long = length-drop count (rest_of rs) in
      let f : flaw_after Nothing rs leading place rest ≡ None = rw h at e in
      let both = all_none (cut_flaw rs leading place (starts_of rest) rest ∷ None ∷ []) f in
      let each = all_none (flaw_in rest
      ∷ flaw_found kinds.FaceMissing (detail_between rs place (place + end_in rest))
      ∷ flaw_when (not (may_precede (starts_of rest) rest leading place)) kinds.OneSet
      (slice_get rest 0) ∷ []) both.0 in
      record {
        some = omega (arith, more, long);
        none = each.0;
        clean = detail_among rs place (end_in rest) ∙ none_found kinds.FaceMissing
            (detail_between rs place (place + end_in rest)) each.1.0;
      }
]

-- so many of the leading readings are no details
abbrev count_in : List Sight → ℕ → ℕ
count_in rs leading = length (known_in (seconds_of rs) (take leading rs))

-- Where the sets of the first edition begin by the second.
record BeginsThere (rs : List Sight) (leading : ℕ) : Type 0 where
  pub at : place_of (seconds_of rs) (count_in rs leading) rs ≡ leading
  pub rest : drop (count_in rs leading) (rest_of rs) ≡ known_in (seconds_of rs) (drop leading rs)
  pub some : 1 ≤ length (known_in (seconds_of rs) (drop leading rs))
  pub face : begins_in_two (known_in (seconds_of rs) (drop leading rs))
      ≡ begins_in_two (drop leading rs)

head_known : (others : List Sight) (end : ℕ) (after more : List Sight) (r : Sight)
    → after ≡ r ∷ more → 1 ≤ length (take end after)
    → All (λ s. is_known others s ≡ true) (take end after) → is_known others r ≡ true
head_known others zero after more r e some all = absurd (omega (arith, some))
head_known others (suc end) [] more r e some all = cc
head_known others (suc end) (s ∷ after) more r e some all =
    let same : s ≡ r = cc in
    subst (λ (x : Sight). is_known others x ≡ true) same
    (All-head (λ (x : Sight). is_known others x ≡ true) s (take end after) all)

kept_first : (others : List Sight) (r : Sight) (more : List Sight) → is_known others r ≡ true
    → known_in others (r ∷ more) ≡ r ∷ known_in others more
kept_first others r more known = rw known refl

begins_there : (rs : List Sight) (leading : ℕ) → AreFirst leading (drop leading rs)
    → BeginsThere rs leading
begins_there rs leading first = by (drop leading rs) refl where
  by : (after : List Sight) → drop leading rs ≡ after → BeginsThere rs leading
  by [] e = let some = first.some in
      absurd (omega (arith, some, ap (λ (l : List Sight). length l) e))
  by (r ∷ more) e =
      let twos = seconds_of rs in
      let after = drop leading rs in
      let has = has_sets after first.none first.some in
      let four = has.many in
      let known = head_known twos (end_in after) after more r e (omega (arith, four))
      (all_sets_known rs leading first) in
      let at = place_is twos leading rs r more e known in
      let is : known_in twos after ≡ r ∷ known_in twos more =
      ap (λ (l : List Sight). known_in twos l) e ∙ kept_first twos r more known in
      record {
        at = at;
        rest = sym (known_after twos (count_in rs leading) rs)
            ∙ ap (λ (k : ℕ). known_in twos (drop k rs)) at;
        some = subst (λ (l : List Sight). 1 ≤ length l) (sym is) (omega arith);
        face = ap begins_in_two is ∙ sym (ap begins_in_two e);
      }

-- No more than three lead.
few_lead : (rs : List Sight) (leading : ℕ) → count_in rs leading ≤ leading
few_lead rs leading =
    let fewer = few_known (seconds_of rs) (take leading rs) in
    let long = length-take leading rs in omega (arith, fewer, long)

none_lead : (all rest : List Sight) (count place : ℕ) → count ≡ 0 → place ≡ 0
    → may_lead rest (take count all) place ≡ true
none_lead all rest count place none first =
    λ i. may_lead rest (take (none i) all) (first i)

may_all : (all rest : List Sight) (count place : ℕ) → count ≤ 3
    → (2 ≤ length (starts_of rest)) ⊎ ((count ≡ 0) × (place ≡ 0))
    → may_precede (starts_of rest) rest (take count all) place ≡ true
may_all all rest count place few so =
    let long = length-take count all in
    let starts = starts_of rest in
    let leading = take count all in
    and_from (nat_le (length leading) 3 || are_plain (first_cut starts rest) leading)
    (nat_le 2 (length starts) || may_lead rest leading place)
    (or_left (nat_le (length leading) 3) (are_plain (first_cut starts rest) leading)
    (le-leb (length leading) 3 (omega (arith, long, few)))) (by so)
  where
    by : (2 ≤ length (starts_of rest)) ⊎ ((count ≡ 0) × (place ≡ 0))
        → (nat_le 2 (length (starts_of rest)) || may_lead rest (take count all) place) ≡ true
    by (inl many) = or_left (nat_le 2 (length (starts_of rest)))
        (may_lead rest (take count all) place) (le-leb 2 (length (starts_of rest)) many)
    by (inr none) = or_right (nat_le 2 (length (starts_of rest)))
        (may_lead rest (take count all) place) (none_lead all rest count place none.0 none.1)

-- By the second edition these sets are right with nothing at the end.
right_too : (rs : List Sight) (leading : ℕ) → AreFirst leading (drop leading rs) → leading ≤ 3
    → flaw_of Nothing rs (count_in rs leading) ≡ None
right_too rs leading first three =
    let twos = seconds_of rs in
    let after = drop leading rs in
    let rest = known_in twos after in
    let count = count_in rs leading in
    let second = are_second rs leading first in
    let there = begins_there rs leading first in
    let few = few_lead rs leading in
    let clean : unknown_in twos (take (end_in rest) after) ≡ None =
    ap (λ (k : ℕ). unknown_in twos (take k after)) second.ends
    ∙ none_unknown twos (take (end_in after) after) second.known in
    nothing_of rs rest count leading there.rest there.at there.some
    (nothing_after rs (take count (rest_of rs)) rest leading second.none clean
    (may_all (rest_of rs) rest count leading (omega (arith, few, three))
    (elim (cases_lt (length (starts_of rest)) 2) [
      | inl single ↦
          let same = ap (λ (l : List ℕ). length l) second.starts in
          let none : leading ≡ 0 = by leading single same first.many in
          inr (omega (arith, none, few), none)
      | inr many ↦ inl many
    ])))
  where
    by : (n : ℕ) → length (starts_of (known_in (seconds_of rs) (drop leading rs))) < 2
        → length (starts_of (known_in (seconds_of rs) (drop leading rs)))
        ≡ length (starts_of (drop leading rs))
        → (1 ≤ n → 2 ≤ length (starts_of (drop leading rs))) → n ≡ 0
    by zero single same many = refl
    by (suc n) single same many =
        let more = many (omega arith) in absurd (omega (arith, single, same, more))

-- So many fewer that lead would be a single set which holds several.
not_one : (rs : List Sight) (leading k : ℕ) → AreFirst leading (drop leading rs)
    → k < count_in rs leading → 1 ≤ leading
    → IsNothing rs (drop k (rest_of rs)) (place_of (seconds_of rs) k rs)
    → length (starts_of (drop k (rest_of rs))) < 2 → ⊥
not_one rs leading k first lt some is few =
    let xs = drop k (rest_of rs) in
    let after = drop leading rs in
    let rest = known_in (seconds_of rs) after in
    let count = count_in rs leading in
    let end = end_in after in
    let name = first_target after in
    let ends = single_by xs (starts_of xs) few in
    let once : ReadsEachOnce xs =
    subst ReadsEachOnce (take_all (end_in xs) xs (omega (arith, ends)))
    (only_set xs (rows xs is.some is.none) few) in
    let has = has_sets after first.none first.some in
    let second = are_second rs leading first in
    let three : 3 ≤ count_of name (take end rest) =
    subst (λ (l : List Sight). 3 ≤ count_of name l) (sym second.same)
    (read_often after end (first.many some) has.last) in
    let there : drop (count - k) xs ≡ rest =
    drop-drop (count - k) k (rest_of rs)
    ∙ ap (λ (n : ℕ). drop n (rest_of rs)) (omega (arith, lt))
    ∙ (begins_there rs leading first).rest in
    one_set xs rest (count - k) once there end name three

-- Several sets after fewer would be sets of the first edition.
not_several : (rs : List Sight) (k : ℕ)
    → IsNothing rs (drop k (rest_of rs)) (place_of (seconds_of rs) k rs)
    → 2 ≤ length (starts_of (drop k (rest_of rs)))
    → divides rs (place_of (seconds_of rs) k rs) ≡ true
not_several rs k is many =
    let twos = seconds_of rs in
    let place = place_of twos k rs in
    let xs = drop k (rest_of rs) in
    let after = drop place rs in
    let end = end_in xs in
    let kept_so : known_in twos after ≡ xs = known_after twos k rs in
    let among = none_among twos after xs end kept_so is.clean (cut_within xs (starts_of xs)) in
    let at = ends_at xs many in
    let known : All (λ y. is_known twos y ≡ true) (before_last xs) =
    All-take (λ (y : Sight). is_known twos y ≡ true) (last_place (starts_of xs)) xs
    (subst (λ (l : List Sight). All (λ y. is_known twos y ≡ true) l) kept_so
    (filter_passes (λ (x : Sight). is_known twos x) after)) in
    let strange = strange_too twos (before_last xs) (drop end after) known
    (subst (λ (l : List Sight). All (λ r. is_known (before_last xs) r ≡ false) l)
    (sym among.after) at.strange) in
    let so = carried xs after is.none is.some many among.same strange in
    let some = is.some in
    let fewer = few_known twos after in
    let long = ap (λ (l : List Sight). length l) kept_so in
    let starts = ap (λ (l : List ℕ). length l) so.starts in
    ap (λ (o : Option Flaw). is_none o) (several_first place after
    (omega (arith, some, fewer, long)) so.none (omega (arith, starts, many)))

-- With fewer leading readings and nothing at the end the second edition finds no sets.
fewer_wrong : (rs : List Sight) (leading : ℕ) → AreFirst leading (drop leading rs)
    → IsLeast (divides rs) 3 leading → (k : ℕ) → k < count_in rs leading
    → is_division Nothing rs k ≡ false
fewer_wrong rs leading first least k lt = elim (cases_Bool (is_division Nothing rs k)) [
  | inl h ↦
      let is = is_nothing rs k (none_is (flaw_of Nothing rs k) h) in
      let place = place_of (seconds_of rs) k rs in
      let less = place_within (seconds_of rs) k leading rs lt in
      elim (cases_lt (length (starts_of (drop k (rest_of rs)))) 2) [
        | inl few ↦ absurd (not_one rs leading k first lt (omega (arith, less)) is few)
        | inr many ↦ absurd (false≢true (sym (least.fewer place less) ∙ not_several rs k is many))
      ]
  | inr h ↦ h
]

same_leading : (rs : List Sight) (leading : ℕ) → AreFirst leading (drop leading rs)
    → IsLeast (divides rs) 3 leading → leading_of Nothing rs ≡ Some (count_in rs leading)
same_leading rs leading first least =
    let count = count_in rs leading in
    let three = least.few in
    let few = few_lead rs leading in
    let there = begins_there rs leading first in
    let some = there.some in
    let same = ap (λ (l : List Sight). length l) there.rest in
    let more = length-drop count (rest_of rs) in
    let long = length-take MOST_READINGS (drop 1 (rest_of rs)) in
    let one = length-drop 1 (rest_of rs) in
    least_at (is_division Nothing rs) (most_leading rs) count
    (omega (arith, three, few, some, same, more, long, one)) (fewer_wrong rs leading first least)
    (ap (λ (o : Option Flaw). is_none o) (right_too rs leading first three))

-- What is known where the first edition marks sets.
pub record FirstFound (rs : List Sight) (here : Span) : Type 0 where
  pub leading : ℕ
  pub least : IsLeast (divides rs) 3 leading
  pub first : AreFirst leading (drop leading rs)
  pub face : begins_in_two (drop leading rs) ≡ false
  pub stand : span_from leading (drop leading rs) ≡ here
  pub faces : are_in_one_face rs ≡ false

unless_none : (o : Option Flaw) (span here : Span) → divided_unless o span ≡ Sets here
    → (o ≡ None) × (span ≡ here)
unless_none None span here e = (refl, cc)
unless_none (Some f) span here e = cc

not_both : (o : Option ℕ) → o ≡ Some 0 → o ≡ None → ⊥
not_both None e f = cc
not_both (Some n) e f = cc

nothing_found : (rs : List Sight) → fewest_leading rs ≡ None → is_none (latest_of_all rs) ≡ false
nothing_found rs e = elim (cases_Bool (divides rs 0)) [
  | inl h ↦
      let first : fewest_leading rs ≡ Some 0 = least_at (divides rs) 3 0 (omega arith)
      (λ k lt. absurd (omega (arith, lt))) h in
      absurd (not_both (fewest_leading rs) first e)
  | inr h ↦
      stays_some (later (later (flaw_after_leading rs 0) (flaw_after_leading rs 1))
      (flaw_after_leading rs 2)) (flaw_after_leading rs 3)
      (stays_some (later (flaw_after_leading rs 0) (flaw_after_leading rs 1))
      (flaw_after_leading rs 2)
      (stays_some (flaw_after_leading rs 0) (flaw_after_leading rs 1) h))
]

pub first_found : (rs : List Sight) (here : Span) → first_divided rs ≡ Sets here
    → FirstFound rs here
first_found rs here e = elim (cases_Bool (are_in_one_face rs)) [
  | inl h ↦ let f : NoSets ≡ Sets here = rw h at e in cc
  | inr h ↦ by h (fewest_leading rs) refl (rw h at e)
] where
  by : are_in_one_face rs ≡ false → (o : Option ℕ) → fewest_leading rs ≡ o
      → first_by rs o ≡ Sets here → FirstFound rs here
  by faces None is f =
      let none = (unless_none (latest_of_all rs) (span_from 0 []) here f).0 in
      absurd (false≢true (sym (nothing_found rs is)
      ∙ ap (λ (o : Option Flaw). is_none o) none))
  by faces (Some leading) is f =
      let after = drop leading rs in
      let doubts = doubt_behind (take leading rs) after in
      let both = unless_none doubts (span_from leading after) here f in
      let least = is_least (divides rs) 3 leading is in
      let none = all_none (
      flaw_when (begins_in_two after) kinds.FirstFace (slice_get after 0)
      ∷ flaw_when (may_stand_elsewhere (take leading rs) (first_cut (starts_of after) after))
      kinds.MayBeShifted (slice_get after 0)
      ∷ flaw_when (is_one_by_targets (cut_of after)) kinds.ByTargets (slice_get after 0)
      ∷ flaw_found kinds.OtherTargets (stranger_among (first_cut (starts_of after) after)
      (cut_of after)) ∷ []) both.0 in
      record {
        leading = leading;
        least = least;
        first = are_first leading after (none_is (flaw_behind leading after) least.here);
        face = no_flaw (begins_in_two after) kinds.FirstFace (slice_get after 0) none.0;
        stand = both.1;
        faces = faces;
      }

-- The first of the ways to divide them by the second edition.
first_way : (rs : List Sight) (leading : ℕ) → AreFirst leading (drop leading rs)
    → IsLeast (divides rs) 3 leading → begins_in_two (drop leading rs) ≡ false
    → ways_of rs ≡ record { ending = Nothing; leading = count_in rs leading }
    ∷ with_way CheckSights (gives CheckSights rs) (with_way CheckPair (gives CheckPair rs) [])
first_way rs leading first least face =
    let count = count_in rs leading in
    let there = begins_there rs leading first in
    let stays : is_given_up (rest_of rs) count ≡ false =
    ap (λ (b : Bool). nat_lt 0 count && b) (ap begins_in_two there.rest ∙ there.face ∙ face)
    ∙ and_no (nat_lt 0 count) in
    let here : gives Nothing rs ≡ Some count =
    ap (λ (o : Option ℕ). kept (rest_of rs) o) (same_leading rs leading first least)
    ∙ not_given (rest_of rs) count stays in
    ap (λ (o : Option ℕ). with_way Nothing o (with_way CheckSights (gives CheckSights rs)
    (with_way CheckPair (gives CheckPair rs) []))) here
  where
    not_given : (rest : List Sight) (count : ℕ) → is_given_up rest count ≡ false
        → kept rest (Some count) ≡ Some count
    not_given rest count stays = rw stays refl

by_first_way : (stated : Numbers) (rs : List Sight) (way : Way) (ways : List Way) (there : Span)
    → divided_by stated rs (way ∷ ways) ≡ Sets there → span_by rs way ≡ there
by_first_way stated rs way [] there e =
    (unless_none (doubt_by stated rs way) (span_by rs way) there e).1
by_first_way stated rs way (another ∷ ways) there e = cc

-- from this place on, so many readings
abbrev span_of : ℕ → ℕ → Span
span_of from count = record { from = from; to = from + count }

same_span : (rs : List Sight) (leading : ℕ) → AreFirst leading (drop leading rs)
    → span_by rs (record { ending = Nothing; leading = count_in rs leading })
    ≡ span_from leading (drop leading rs)
same_span rs leading first =
    let there = begins_there rs leading first in
    let second = are_second rs leading first in
    (λ i. span_from (there.at i) (there.rest i)) ∙ ap (λ (k : ℕ). span_of leading k) second.ends

pub same_sets : (stated : Numbers) (rs : List Sight) (here there : Span)
    → first_divided rs ≡ Sets here → divided stated rs ≡ Sets there → there ≡ here
same_sets stated rs here there e f = elim (cases_Bool (has_no_sets rs)) [
  | inl h ↦ let g : NoSets ≡ Sets there = rw h at f in cc
  | inr h ↦
      let found = first_found rs here e in
      let way = first_way rs found.leading found.first found.least found.face in
      let g : divided_by stated rs (ways_of rs) ≡ Sets there = rw h at f in
      sym (by_first_way stated rs
      (record { ending = Nothing; leading = count_in rs found.leading })
      (with_way CheckSights (gives CheckSights rs) (with_way CheckPair (gives CheckPair rs) []))
      there (subst (λ (ways : List Way). divided_by stated rs ways ≡ Sets there) way g))
      ∙ same_span rs found.leading found.first ∙ found.stand
]
