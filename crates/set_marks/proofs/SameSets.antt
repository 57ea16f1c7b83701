-- The sets of readings that are no details are sets of the first of them, up to where the last set
-- ends, and of all readings, where no detail stands among them.
use Rattle.std.proofs.Common.{◌≡◌, ℕ, zero, suc, ◌+◌, ◌<◌, ◌≤◌, Bool, true, false, List}
use Rattle.std.proofs.Common.{[], ◌∷◌, ◌++◌, length, take, drop, None, refl, sym, ap, subst, ◌∙◌}
use Rattle.std.proofs.Common.{inl, inr, arith, All}
use Rattle.std.specs.List.{list_any}
use Rattle.std.proofs.Math.Seq.{take-append_seam}
use Rattle.std.proofs.lemmas.Bool.{cases_Bool, or_left, or_right}
use Rattle.std.proofs.lemmas.List.{take-append-drop, length-take-le, length-append, take-take}
use Rattle.std.proofs.lemmas.List.{drop_at}
use Rattle.std.proofs.lemmas.List.Elements.{All-nil, All-cons, All-head, All-tail, filter-append}
use Rattle.set_marks.specs.declared.sight.Sight.{Sight}
use Rattle.set_marks.specs.Divisions.{is_of, seconds_of, known_in, unknown_in}
use Rattle.set_marks.specs.Divisions.{starts_of, last_place, parts_at}
use Rattle.set_marks.specs.Divisions.{sets_of, first_part, first_set, sets_flaw, cut_end, cut_of}
use Rattle.set_marks.specs.Divisions.{first_cut, part}
use Rattle.set_marks.specs.Searching.{starts_from}
use Rattle.set_marks.specs.SetsInWords.{readings_in, one_after_another, ReadsEachOnce}
use Rattle.set_marks.specs.Ways.{detail_between}
use Rattle.set_marks.proofs.AmongDetails.{is_known, all_known, all_kept, few_known, end_within}
use Rattle.set_marks.proofs.BeginsAndEnds.{starts_found, first_start, starts_above}
use Rattle.set_marks.proofs.RowsOfSets.{joined, right_among}

-- What holds of all for one reason holds of all for another.
pub all_so : (P Q : Sight → Type 0) → ((r : Sight) → P r → Q r) → (rs : List Sight) → All P rs
    → All Q rs
all_so P Q so [] all = All-nil Q
all_so P Q so (r ∷ rs) all =
    All-cons Q r rs (so r (All-head P r rs all)) (all_so P Q so rs (All-tail P r rs all))

-- A target that is read in face II is one of those that are.
pub some_second : (name : List ℕ) (rs : List Sight) → 1 ≤ length (readings_in name true rs)
    → list_any (is_of name) (seconds_of rs) ≡ true
some_second name [] some = absurd (omega (arith, some))
some_second name (r ∷ rs) some = elim (cases_Bool r.second) [
  | inl v ↦ elim (cases_Bool (is_of name r)) [
    | inl h ↦ rw v (or_left (is_of name r) (list_any (is_of name) (seconds_of rs)) h)
    | inr h ↦ rw v (or_right (is_of name r) (list_any (is_of name) (seconds_of rs))
        (some_second name rs (rw h at some)))
  ]
  | inr v ↦ elim (cases_Bool (is_of name r)) [
    | inl h ↦ rw v (some_second name rs (rw (h, v) at some))
    | inr h ↦ rw v (some_second name rs (rw h at some))
  ]
]

-- Of readings, where no detail stands among the first so many.
pub record NoneAmong (others all rs : List Sight) (end : ℕ) : Type 0 where
  pub known : All (λ r. is_known others r ≡ true) (take end all)
  pub same : take end all ≡ take end rs
  pub after : known_in others (drop end all) ≡ drop end rs

-- These are the first of those that are no details.
pub none_among : (others all rs : List Sight) (end : ℕ) → known_in others all ≡ rs
    → unknown_in others (take end all) ≡ None → end ≤ length rs → NoneAmong others all rs end
none_among others all rs end kept clean below =
    let known = all_known others (take end all) clean in
    let front = take end all in
    let after = known_in others (drop end all) in
    let split : rs ≡ front ++ after =
    sym kept ∙ ap (λ (l : List Sight). known_in others l) (sym (take-append-drop end all))
    ∙ filter-append (λ x. is_known others x) front (drop end all)
    ∙ ap (λ (l : List Sight). l ++ after) (all_kept others front known) in
    let fewer : length rs ≤ length all =
    subst (λ (l : List Sight). length l ≤ length all) kept (few_known others all) in
    let long : length front ≡ end = length-take-le end all (omega (arith, below, fewer)) in
    record {
      known = known;
      same = sym (ap (λ (l : List Sight). take end l) split
          ∙ ap (λ (k : ℕ). take k (front ++ after)) (sym long) ∙ take-append_seam front after);
      after = sym (ap (λ (l : List Sight). drop end l) split ∙ drop_at front after end long);
    }

later_places : (at m : ℕ) (ps : List ℕ) → last_place (at ∷ ps) < m → last_place ps < m
later_places at m [] lt = omega (arith, lt)
later_places at m (p ∷ ps) lt = lt

-- Places where sets begin that all stand before a seam are those of the readings before it.
before_seam : (a : List ℕ) (even : Bool) (at : ℕ) (front back : List Sight)
    → last_place (starts_from a even at (front ++ back)) < at + length front
    → starts_from a even at (front ++ back) ≡ starts_from a even at front
before_seam a even at [] back lt = by (starts_from a even at back) refl where
  by : (ps : List ℕ) → starts_from a even at back ≡ ps → starts_from a even at back ≡ []
  by [] e = e
  by (p ∷ ps) e =
      let some : 1 ≤ length (starts_from a even at back) =
      subst (λ (qs : List ℕ). 1 ≤ length qs) (sym e) (omega arith) in
      let above = starts_above a even at back some in absurd (omega (arith, above, lt))
before_seam a even at (r ∷ front) back lt = elim (cases_Bool (is_of a r)) [
  | inl h ↦ elim (cases_Bool even) [
    | inl v ↦
        let below : last_place (starts_from a false (suc at) (front ++ back))
        < at + length (r ∷ front) = later_places at (at + length (r ∷ front))
        (starts_from a false (suc at) (front ++ back)) (rw (h, v) at lt) in
        rw (h, v) (ap (λ ps. at ∷ ps)
        (before_seam a false (suc at) front back (omega (arith, below))))
    | inr v ↦
        let below : last_place (starts_from a true (suc at) (front ++ back))
        < at + length (r ∷ front) = rw (h, v) at lt in
        rw (h, v) (before_seam a true (suc at) front back (omega (arith, below)))
  ]
  | inr h ↦
      let below : last_place (starts_from a even (suc at) (front ++ back))
      < at + length (r ∷ front) = rw h at lt in
      rw h (before_seam a even (suc at) front back (omega (arith, below)))
]

-- So are those that all stand before a place.
pub starts_within : (end : ℕ) (rs : List Sight) → end ≤ length rs → last_place (starts_of rs) < end
    → starts_of (take end rs) ≡ starts_of rs
starts_within zero rs le lt = absurd (omega (arith, lt))
starts_within (suc k) [] le lt = absurd (omega (arith, le))
starts_within (suc k) (r ∷ rs) le lt =
    let all = r ∷ rs in
    let front = take (suc k) all in
    let is = take-append-drop (suc k) all in
    let long : length front ≡ suc k = length-take-le (suc k) all le in
    let found : last_place (starts_from r.target true 0 all) < suc k =
    subst (λ (ps : List ℕ). last_place ps < suc k) (starts_found all) lt in
    let below : last_place (starts_from r.target true 0 (front ++ drop (suc k) all))
    < suc k = subst (λ (l : List Sight). last_place (starts_from r.target true 0 l) < suc k)
    (sym is) found in
    starts_found front
    ∙ sym (before_seam r.target true 0 front (drop (suc k) all) (omega (arith, below, long)))
    ∙ ap (λ (l : List Sight). starts_from r.target true 0 l) is ∙ sym (starts_found all)

abbrev first_of : List (List Sight) → List Sight
first_of [] = []
first_of (set ∷ sets) = set

first_is : (end : ℕ) (starts : List ℕ) (rs : List Sight)
    → first_part end starts rs ≡ first_of (parts_at end starts rs)
first_is end [] rs = refl
first_is end (from ∷ starts) rs = refl

-- The last set ends no later than the readings.
pub cut_within : (rs : List Sight) (starts : List ℕ) → cut_end starts rs ≤ length rs
cut_within rs [] = omega arith
cut_within rs (from ∷ []) = omega arith
cut_within rs (from ∷ to ∷ more) =
    end_within (take (last_place (to ∷ more)) rs) rs

pub whole : (end : ℕ) (rs : List Sight) → part 0 end rs ≡ take end rs
whole end rs = ap (λ (k : ℕ). take k rs) (omega arith)

-- So many readings from a place on are those up to the place so many further.
so_many_after : (place count : ℕ) (rs : List Sight)
    → part place (place + count) rs ≡ take count (drop place rs)
so_many_after place count rs = ap (λ (k : ℕ). take k (drop place rs)) (omega arith)

-- Among so many readings from a place on, the first detail is that between two places.
pub detail_among : (all : List Sight) (place count : ℕ)
    → unknown_in (seconds_of all) (take count (drop place all))
    ≡ detail_between all place (place + count)
detail_among all place count =
    ap (λ (l : List Sight). unknown_in (seconds_of all) l) (sym (so_many_after place count all))

-- Sets have four readings at least.
four_readings : (sets : List (List Sight)) → 1 ≤ length sets → All ReadsEachOnce sets
    → 4 ≤ length (one_after_another sets)
four_readings [] some each = absurd (omega (arith, some))
four_readings (set ∷ sets) some each =
    let many = (All-head ReadsEachOnce set sets each).many in
    let long = length-append set (one_after_another sets) in omega (arith, many, long)

-- The sets that these readings are (`inner`) are those of these others.
pub record HasSets (inner rs : List Sight) : Type 0 where
  pub starts : starts_of inner ≡ starts_of rs
  pub sets : sets_of inner ≡ cut_of rs
  pub first : first_set inner ≡ first_cut (starts_of rs) rs
  pub wrong : sets_flaw (first_set inner) 0 (length inner) (starts_of inner) inner ≡ None
  pub many : 4 ≤ length inner
  pub long : length inner ≡ cut_end (starts_of rs) rs
  pub last : last_place (starts_of rs) < cut_end (starts_of rs) rs

-- They are the first of the others, up to where the last set ends.
pub has_sets : (rs : List Sight)
    → sets_flaw (first_cut (starts_of rs) rs) 0 (cut_end (starts_of rs) rs) (starts_of rs) rs
    ≡ None → 1 ≤ length rs → HasSets (take (cut_end (starts_of rs) rs) rs) rs
has_sets [] none some = absurd (omega (arith, some))
has_sets (r ∷ rs) none some =
    let rest = r ∷ rs in
    let end = cut_end (starts_of rest) rest in
    let first = first_cut (starts_of rest) rest in
    let later = starts_from r.target false 1 rs in
    let at : starts_of rest ≡ 0 ∷ later = first_start r rs in
    let right : sets_flaw first 0 end (0 ∷ later) rest ≡ None =
    subst (λ (ps : List ℕ). sets_flaw first 0 end ps rest ≡ None) at none in
    let j = joined first 0 end 0 later rest right in
    let inner = take end rest in
    let within = cut_within rest (starts_of rest) in
    let long : length inner ≡ end = length-take-le end rest within in
    let last : last_place (starts_of rest) < end =
    subst (λ (ps : List ℕ). last_place ps < end) (sym at) j.last in
    let starts : starts_of inner ≡ starts_of rest = starts_within end rest within last in
    let begin : starts_of inner ≡ 0 ∷ later = starts ∙ at in
    let same : take end inner ≡ take end rest = take-take end end rest (omega arith) in
    let sets : sets_of inner ≡ cut_of rest =
    (λ i. parts_at (long i) (begin i) inner) ∙ j.of_more inner same
    ∙ ap (λ (ps : List ℕ). parts_at end ps rest) (sym at) in
    let opens : first_set inner ≡ first =
    first_is (length inner) (starts_of inner) inner ∙ ap first_of sets
    ∙ sym (first_is end (starts_of rest) rest) in
    let all : one_after_another (parts_at end (0 ∷ later) rest) ≡ inner = j.same ∙ whole end rest in
    record {
      starts = starts;
      sets = sets;
      first = opens;
      wrong = (λ i. sets_flaw (opens i) 0 (long i) (begin i) inner)
          ∙ right_among first 0 end 0 later inner rest right same;
      many = subst (λ (l : List Sight). 4 ≤ length l) all
          (four_readings (parts_at end (0 ∷ later) rest) (omega arith) j.each);
      long = long;
      last = last;
    }
