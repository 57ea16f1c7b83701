-- The portions of a file by the rule of sets, and that its code lines, its readings and where they
-- are to be found are those of the portions.
use Rattle.std.proofs.Common.{is_none, subst, ◌≡◌, ℕ, zero, suc, ◌-◌, ◌≤◌, ◌<◌, Bool, true, false}
use Rattle.std.proofs.Common.{◌&&◌, List, [], ◌∷◌, ◌++◌, length, map, take, drop, Option, None}
use Rattle.std.proofs.Common.{refl, sym, ap, ◌∙◌, arith, append_assoc, All}
use Rattle.std.specs.Prelude.{slice_get, nat_lt}
use Rattle.std.specs.List.{flat_map}
use Rattle.std.proofs.lemmas.Bool.{lt-ltb}
use Rattle.std.proofs.lemmas.List.{append-nil, take-append-drop, drop_at, length-take}
use Rattle.std.proofs.lemmas.List.Elements.{All-head, All-tail, All-nil}
use Rattle.station_book.specs.Places.{is_empty}
use Rattle.set_marks.specs.declared.mark.Code.{Code}
use Rattle.set_marks.specs.declared.mark.Code.TheVariants.{Station, Set, Close}
use Rattle.set_marks.specs.declared.mark.BlockMark.{BlockMark}
use Rattle.set_marks.specs.declared.division.Divided.{Divided}
use Rattle.set_marks.specs.declared.division.Divided.TheVariants.{NoSets, Sets, Flawed}
use Rattle.set_marks.specs.declared.sight.Sight.{Sight}
use Rattle.set_marks.specs.declared.span.Span.{Span}
use Rattle.set_marks.specs.Stations.{Occupation}
use Rattle.set_marks.specs.Divisions.{starts_of, in_span, sets_of, parts_at, part, next_of}
use Rattle.job_statements.specs.Numbers.{Said}
use Rattle.set_marks.specs.Judging.{Before, Judged, judged_from, names_past}
use Rattle.set_marks.specs.Marking.{mark_at, set_marks, close_mark, station_marks, is_open_after}
use Rattle.set_marks.specs.Marking.{marks_from}
use Rattle.set_marks.specs.SetsInWords.{one_after_another, ReadsEachOnce, AreSets}
use Rattle.set_marks.specs.Found.{Found}
use Rattle.set_marks.specs.MarkedFile.{for_each, in_station}
use Rattle.set_marks.proofs.Judged.{IsSoundAs, AreSound, names_then}
use Rattle.set_marks.proofs.Segments.{marks_at}
use Rattle.set_marks.proofs.StationReadings.{all_sights}
use Rattle.set_marks.proofs.AnyRule.{in_order, found_of_site}
use Rattle.set_marks.proofs.Portions.{Portion, marks_in, closing, outside, Site, open_by}
use Rattle.set_marks.proofs.Portions.{open_after, portions_of, portions_from, IsSite, AreSites}
use Rattle.set_marks.proofs.Portions.{names_with, set_portions, station_portions}

-- a station as it is divided
abbrev pub site_of : Occupation → Divided → Site
site_of s (Sets span) = record {
  name = s.name;
  before = take span.from s.sights;
  sets = sets_of (in_span span s.sights);
  after = drop span.to s.sights;
}
site_of s d = record { name = s.name; before = s.sights; sets = []; after = [] }

abbrev pub sites_of : List Judged → List Site
sites_of js = map (λ j. site_of j.station j.division) js

-- all readings of these stations, and where they are to be found
abbrev pub judged_sights : List Judged → List Sight
judged_sights js = flat_map (λ j. j.station.sights) js

abbrev pub in_all : List Judged → List (Option Found)
in_all js = flat_map (λ j. in_station j.station j.division) js

-- A code line before the reading at a place stands before the readings from there on.
mark_is : (n : ℕ) (rs : List Sight) (code : Code)
    → mark_at (slice_get rs n) code ≡ marks_at (drop n rs) (code ∷ [])
mark_is zero [] code = refl
mark_is zero (r ∷ rs) code = refl
mark_is (suc n) [] code = refl
mark_is (suc n) (r ∷ rs) code = mark_is n rs code

first_taken : (n : ℕ) (rs : List Sight) (codes : List Code) → 0 < n
    → marks_at (take n rs) codes ≡ marks_at rs codes
first_taken zero rs codes lt = absurd (omega arith)
first_taken (suc n) [] codes lt = refl
first_taken (suc n) (r ∷ rs) codes lt = refl

no_marks_at : (rs : List Sight) → marks_at rs [] ≡ []
no_marks_at [] = refl
no_marks_at (r ∷ rs) = refl

-- The code line that closes a set before the first of some readings.
close_is : (in_set : Bool) (rs : List Sight) → close_mark in_set rs ≡ marks_at rs (closing in_set)
close_is true rs = mark_is 0 rs Close
close_is false rs = sym (no_marks_at rs)

lead_is : (in_set : Bool) (from : ℕ) (rs : List Sight)
    → close_mark (in_set && nat_lt 0 from) rs ≡ marks_at (take from rs) (closing in_set)
lead_is false from rs = sym (no_marks_at (take from rs))
lead_is true zero rs = refl
lead_is true (suc l) rs = ap (λ (b : Bool). close_mark b rs) (lt-ltb 0 (suc l) (omega arith))
    ∙ close_is true rs ∙ sym (first_taken (suc l) rs (Close ∷ []) (omega arith))

-- The code lines before sets that begin at these places.
set_marks_are : (name : List ℕ) (n end : ℕ) (starts : List ℕ) (rs : List Sight)
    (more : List Portion) → All ReadsEachOnce (parts_at end starts rs)
    → set_marks n starts rs ++ marks_in more
    ≡ marks_in (set_portions name n (parts_at end starts rs) more)
set_marks_are name n end [] rs more each = refl
set_marks_are name n end (from ∷ starts) rs more each =
    let here = part from (next_of end starts) rs in
    let set = All-head ReadsEachOnce here (parts_at end starts rs) each in
    let some : 0 < next_of end starts - from =
    (let m = set.many in
    omega (arith, length-take (next_of end starts - from) (drop from rs), m)) in
    let one : mark_at (slice_get rs from) (Set n) ≡ marks_at here (Set n ∷ []) =
    mark_is from rs (Set n)
    ∙ sym (first_taken (next_of end starts - from) (drop from rs) (Set n ∷ []) some) in
    append_assoc (mark_at (slice_get rs from) (Set n)) (set_marks (suc n) starts rs) (marks_in more)
    ∙ (λ i. one i ++ set_marks_are name (suc n) end starts rs more
    (All-tail ReadsEachOnce here (parts_at end starts rs) each) i)

-- The code lines of a station's sets are those of sets after the one of the station.
station_marks_are : (name : List ℕ) (sets : List (List Sight)) (rest : List Sight)
    (more : List Portion) → 1 ≤ length sets → All ReadsEachOnce sets
    → marks_at (one_after_another sets ++ rest) (Station name ∷ [])
    ++ marks_in (set_portions name 1 sets more) ≡ marks_in (station_portions name sets more)
station_marks_are name [] rest more some each = absurd (omega arith)
station_marks_are name ([] ∷ sets) rest more some each =
    absurd (let m = (All-head ReadsEachOnce [] sets each).many in omega arith)
station_marks_are name ((r ∷ others) ∷ sets) rest more some each = refl

regroup_four : {X : Type 0} (a b c d e : List X)
    → (a ++ (b ++ (c ++ d))) ++ e ≡ a ++ (b ++ (c ++ (d ++ e)))
regroup_four a b c d e = simp append_assoc

after_is : (rs : List Sight) (n : ℕ) → is_none (slice_get rs n) ≡ is_empty (drop n rs)
after_is [] zero = refl
after_is [] (suc n) = refl
after_is (r ∷ rs) zero = refl
after_is (r ∷ rs) (suc n) = after_is rs n

some_open : (in_set : Bool) (before : List Sight) (sets : List (List Sight)) → 1 ≤ length sets
    → open_by in_set before sets ≡ true
some_open in_set before [] some = absurd (omega arith)
some_open in_set before (set ∷ sets) some = refl

-- A station's readings, and where they are to be found, are those of its site, its code lines those
-- of the site's portions, and a set is open after it where one is after these.
pub record InPortions (in_set : Bool) (s : Occupation) (d : Divided) : Type 0 where
  pub marks : (more : List Portion)
      → station_marks in_set s d ++ marks_in more ≡ marks_in (portions_of in_set (site_of s d) more)
  pub sights : s.sights ≡ in_order (site_of s d)
  pub told : in_station s d ≡ found_of_site (site_of s d)
  pub now : is_open_after in_set s d ≡ open_after in_set (site_of s d)

with_sets : (in_set : Bool) (s : Occupation) (span : Span) → AreSets s.sights span
    → InPortions in_set s (Sets span)
with_sets in_set s span all =
    let rs = s.sights in
    let lead = take span.from rs in
    let inner = in_span span rs in
    let sets = sets_of inner in
    let last = drop span.to rs in
    let is_last = some_open in_set lead sets all.some in
    let order : drop span.from rs ≡ one_after_another sets ++ last =
    sym (drop_at lead (drop span.from rs) (length lead) refl)
    ∙ ap (λ (xs : List Sight). drop (length lead) xs)
    (take-append-drop span.from rs ∙ all.in_order)
    ∙ drop_at lead (one_after_another sets ++ last) (length lead) refl in
    record {
      marks = λ more.
          regroup_four (close_mark (in_set && nat_lt 0 span.from) rs)
          (mark_at (slice_get rs span.from) (Station s.name))
          (set_marks 1 (starts_of inner) inner)
          (mark_at (slice_get rs span.to) Close) (marks_in more)
          ∙ (λ i. lead_is in_set span.from rs i
          ++ ((mark_is span.from rs (Station s.name)
          ∙ ap (λ (xs : List Sight). marks_at xs (Station s.name ∷ [])) order) i
          ++ (set_marks 1 (starts_of inner) inner
          ++ ((mark_is span.to rs Close
          ∙ ap (λ v. marks_at last (closing v)) (sym is_last)) i ++ marks_in more))))
          ∙ ap (λ (ms : List BlockMark). marks_at lead (closing in_set)
          ++ (marks_at (one_after_another sets ++ last) (Station s.name ∷ []) ++ ms))
          (set_marks_are s.name 1 (length inner) (starts_of inner) inner
          (outside (open_by in_set lead sets) last ∷ more) all.each)
          ∙ ap (λ (ms : List BlockMark). marks_at lead (closing in_set) ++ ms)
          (station_marks_are s.name sets last (outside (open_by in_set lead sets) last ∷ more)
          all.some all.each);
      sights = all.in_order;
      told = refl;
      now = after_is rs span.to ∙ ap (λ v. v && is_empty last) (sym is_last);
    }

no_sets : (in_set : Bool) (s : Occupation) (d : Divided)
    → station_marks in_set s d ≡ close_mark in_set s.sights
    → in_station s d ≡ for_each None s.sights
    → is_open_after in_set s d ≡ (in_set && is_empty s.sights)
    → site_of s d ≡ record { name = s.name; before = s.sights; sets = []; after = [] }
    → InPortions in_set s d
no_sets in_set s d marks told now site = record {
  marks = λ more. ap (λ ms. ms ++ marks_in more) (marks ∙ close_is in_set s.sights)
      ∙ ap (λ (x : Site). marks_in (portions_of in_set x more)) (sym site);
  sights = sym (append-nil s.sights) ∙ ap (λ (x : Site). in_order x) (sym site);
  told = told ∙ sym (append-nil (for_each None s.sights))
      ∙ ap (λ (x : Site). found_of_site x) (sym site);
  now = now ∙ with_true (in_set && is_empty s.sights)
      ∙ ap (λ (x : Site). open_after in_set x) (sym site);
} where
  with_true : (x : Bool) → x ≡ (x && true)
  with_true true = refl
  with_true false = refl

in_portions : (in_set : Bool) (names : List (List ℕ)) (s : Occupation) (d : Divided)
    → IsSoundAs names s d → InPortions in_set s d
in_portions in_set names s NoSets is = no_sets in_set s NoSets refl refl refl refl
in_portions in_set names s (Flawed f) is = no_sets in_set s (Flawed f) refl refl refl refl
in_portions in_set names s (Sets span) is = with_sets in_set s span is.are

-- The same of all stations.
pub record AllInPortions (in_set : Bool) (js : List Judged) : Type 0 where
  pub marks : marks_from in_set js ≡ marks_in (portions_from in_set (sites_of js))
  pub sights : judged_sights js ≡ flat_map in_order (sites_of js)
  pub told : in_all js ≡ flat_map found_of_site (sites_of js)

pub all_in_portions : (in_set : Bool) (names : List (List ℕ)) (js : List Judged)
    → AreSound names js → AllInPortions in_set js
all_in_portions in_set names [] are = record { marks = refl; sights = refl; told = refl }
all_in_portions in_set names (j ∷ js) are =
    let s = j.station in
    let d = j.division in
    let site = site_of s d in
    let one = in_portions in_set names s d are.0 in
    let more = all_in_portions (open_after in_set site) (names_then names s d) js are.1 in
    let ps = portions_from (open_after in_set site) (sites_of js) in
    record {
      marks = ap (λ (o : Bool). station_marks in_set s d ++ marks_from o js) one.now
          ∙ ap (λ (ms : List BlockMark). station_marks in_set s d ++ ms) more.marks ∙ one.marks ps;
      sights = (λ i. one.sights i ++ more.sights i);
      told = (λ i. one.told i ++ more.told i);
    }

-- A station whose readings all stand outside.
no_site : (names : List (List ℕ)) (name : List ℕ) (rs : List Sight)
    → IsSite names (record { name = name; before = rs; sets = []; after = [] })
no_site names name rs = record {
  few = omega arith;
  each = All-nil ReadsEachOnce;
  bare = λ e. cc;
  new = λ e. cc;
}

-- Each station has its readings where it is judged.
pub same_sights : (stated : Said) (before : Before) (ss : List Occupation)
    → judged_sights (judged_from stated before ss) ≡ all_sights ss
same_sights stated before [] = refl
same_sights stated before (s ∷ ss) = ap (λ (rs : List Sight). s.sights ++ rs)
    (same_sights stated (names_past stated before s) ss)

-- They are stations with the names, the sets and the readings of sets that the book wants.
pub are_sites : (names : List (List ℕ)) (js : List Judged) → AreSound names js
    → AreSites names (sites_of js)
are_sites names [] are = tt
are_sites names (j ∷ js) are =
    by j.station j.division are.0 (are_sites (names_then names j.station j.division) js are.1) where
      named : (name : List ℕ) (sets : List (List Sight)) → 1 ≤ length sets
          → names ++ name ∷ [] ≡ names_with names name sets
      named name [] some = absurd (omega arith)
      named name (set ∷ sets) some = refl

      by : (s : Occupation) (d : Divided) → IsSoundAs names s d
          → AreSites (names_then names s d) (sites_of js)
          → AreSites names (site_of s d ∷ sites_of js)
      by s NoSets is more = (no_site names s.name s.sights, more)
      by s (Flawed f) is more = (no_site names s.name s.sights, more)
      by s (Sets span) is more = (
        record { few = is.are.few; each = is.are.each; bare = λ e. is.bare; new = λ e. is.new },
        subst (λ (ns : List (List ℕ)). AreSites ns (sites_of js))
            (named s.name (sets_of (in_span span s.sights)) is.are.some) more,
      )
