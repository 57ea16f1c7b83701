-- What is marked is what is stated.
use Rattle.std.proofs.Common.{◌≡◌, ℕ, zero, suc, ◌+◌, ◌-◌, ◌≤◌, Bool, true, false, ◌&&◌, ◌||◌}
use Rattle.std.proofs.Common.{not, List, [], ◌∷◌, length, take, Option, Some, None}
use Rattle.std.proofs.Common.{refl, sym, ap, subst, ◌∙◌, arith, All}
use Rattle.std.specs.Prelude.{◌==◌, IfSome, is_some}
use Rattle.std.proofs.lemmas.Bool.{not-false, eqb-true, eq-eqb}
use Rattle.std.proofs.lemmas.List.{length-take}
use Rattle.std.proofs.lemmas.List.Elements.{All-nil, All-cons, All-head, All-tail}
use Rattle.gsi_file.specs.FileAnswers.{FileAnswers}
use Rattle.adjust_kernel.specs.declared.bounds.TheConstants.{MOST_TARGETS}
use Rattle.station_book.specs.Faults.{first_of}
use Rattle.job_statements.specs.declared.beginnings.Beginnings.{Beginnings}
use Rattle.set_marks.specs.declared.division.Divided.{Divided}
use Rattle.set_marks.specs.declared.division.Divided.TheVariants.{NoSets, Sets, Flawed}
use Rattle.set_marks.specs.declared.recognized.Recognized.{Recognized}
use Rattle.set_marks.specs.declared.marked.Marked.{Marked}
use Rattle.set_marks.specs.declared.sight.Sight.{Sight}
use Rattle.set_marks.specs.declared.span.Span.{Span}
use Rattle.job_statements.specs.Numbers.{Said, is_asked, is_another, number_of, numbers_of}
use Rattle.set_marks.specs.Stations.{Occupation, stations_of}
use Rattle.set_marks.specs.WrittenAgain.{written_again_of}
use Rattle.set_marks.specs.Divisions.{sets_of, starts_of, in_span, first_set, parts_at, targets_of}
use Rattle.set_marks.specs.Divisions.{part, next_of}
use Rattle.set_marks.specs.Divisions.{is_by_faces, is_by_targets}
use Rattle.set_marks.specs.Divisions.{are_by_targets, begins_with_pair, first_part}
use Rattle.set_marks.specs.Searching.{starts_from}
use Rattle.set_marks.specs.SetsInWords.{ReadsEachOnce}
use Rattle.set_marks.specs.Judging.{Before, called, judged, judged_called, judged_from, judged_of}
use Rattle.set_marks.specs.Judging.{names_past, none_before}
use Rattle.set_marks.specs.Marking.{recognized, recognized_from, first_fault}
use Rattle.set_marks.specs.Marking.{no_sets_fault, unfound_fault}
use Rattle.set_marks.specs.Markings.{IsMarking}
use Rattle.set_marks.specs.Stated.{IsAsStated, AreAsStated, IsByFaces}
use Rattle.set_marks.proofs.BeginsAndEnds.{first_start}
use Rattle.set_marks.proofs.EachTargetOnce.{IsOrdered, all_ordered}
use Rattle.set_marks.proofs.Few.{none_of_two, none_of_three}
use Rattle.set_marks.proofs.FewTargets.{all_few}
use Rattle.set_marks.proofs.Judged.{has_no_fault}
use Rattle.set_marks.proofs.SetsInWords.{sets_in_words}
use Rattle.set_marks.proofs.Spans.{are_taken}

-- A number that is not another one is this.
is_this : (o : Option ℕ) (n : ℕ) → is_another o n ≡ false → IfSome o (λ m. n ≡ m)
is_this None n e = tt
is_this (Some m) n e = sym (eqb-true m n (not-false (m == n) e))

-- Where a needed number is not asked for, and isn't stated, it isn't needed.
unasked : (t : Bool) (o : Option ℕ) → is_asked t o ≡ false → o ≡ None → t ≡ false
unasked true None e is = cc
unasked true (Some n) e is = cc
unasked false o e is = refl

-- Where it is needed, it is stated.
asked : (t : Bool) (o : Option ℕ) → is_asked t o ≡ false → t ≡ true → is_some o ≡ true
asked true None e is = cc
asked true (Some n) e is = refl
asked false o e is = cc

both_hold : (t : Bool) (n : ℕ) → t ≡ true → n ≡ 1 → (t && (n == 1)) ≡ true
both_hold t n is one = rw (is, eq-eqb n 1 one) refl

-- Sets that are not read by targets where no number of them is stated.
not_by_targets : (stated : Said) (before : Before) (line : List ℕ) (s : Occupation) (span : Span)
    → judged stated before line s ≡ Sets span → number_of stated.sets s.name ≡ None
    → are_by_targets (in_span span s.sights) ≡ false
not_by_targets stated before line s span is none =
    let numbers = numbers_of stated s.name in
    let taken = are_taken numbers s.sights span (has_no_fault stated before line s span is).divides
    in unasked (are_by_targets (in_span span s.sights)) numbers.sets taken.by_faces none

-- What is told of a station with sets is what is stated.
one_as_stated : (stated : Said) (before : Before) (line : List ℕ) (s : Occupation) (span : Span)
    → judged stated before line s ≡ Sets span
    → (written : ℕ) → IsAsStated (numbers_of stated s.name) (recognized written s (Sets span))
one_as_stated stated before line s span is written =
    let numbers = numbers_of stated s.name in
    let inner = in_span span s.sights in
    let taken = are_taken numbers s.sights span (has_no_fault stated before line s span is).divides
    in let count = length (starts_of inner) in
    let by = are_by_targets inner in
    record {
      sets = is_this numbers.sets count taken.sets;
      targets = is_this numbers.targets (length (targets_of inner)) taken.targets;
      by_faces = not_by_targets stated before line s span is;
      single = λ is_by one. asked (by && (count == 1)) numbers.targets taken.single
          (both_hold by count is_by one);
    }

-- What is told of a station, if it has sets, is what is stated.
abbrev AsStated : Said → Recognized → Type 0
AsStated stated r = (r.sets == 0) ≡ false → IsAsStated (numbers_of stated r.name) r

station_as_stated : (stated : Said) (before : Before) (line : List ℕ) (s : Occupation)
    (d : Divided) (written : ℕ) → judged stated before line s ≡ d
    → AsStated stated (recognized written s d)
station_as_stated stated before line s NoSets written is some = cc
station_as_stated stated before line s (Flawed f) written is some = cc
station_as_stated stated before line s (Sets span) written is some =
    one_as_stated stated before line s span is written

-- So it is with a station before such ones.
one_more_as_stated : (stated : Said) (before : Before) (s : Occupation) (written : ℕ)
    (later : List Recognized) → AreAsStated stated later
    → AreAsStated stated
    (recognized written (called stated.again before s) (judged_called stated before s) ∷ later)
one_more_as_stated stated before s written later are =
    let c = called stated.again before s in
    let d = judged_called stated before s in
    All-cons (AsStated stated) (recognized written c d) later
    (station_as_stated stated before s.name c d written refl) are

-- So it is of all stations.
all_as_stated : (stated : Said) (before : Before) (counts : List ℕ) (ss : List Occupation)
    → AreAsStated stated (recognized_from counts (judged_from stated before ss))
all_as_stated stated before counts [] = All-nil (AsStated stated)
all_as_stated stated before [] (s ∷ ss) =
    let after = names_past stated before s in
    one_more_as_stated stated before s 0 (recognized_from [] (judged_from stated after ss))
    (all_as_stated stated after [] ss)
all_as_stated stated before (n ∷ counts) (s ∷ ss) =
    let after = names_past stated before s in
    one_more_as_stated stated before s n (recognized_from counts (judged_from stated after ss))
    (all_as_stated stated after counts ss)

-- Readings that begin with no pair aren't read by targets.
no_pair : (n : ℕ) (rs : List Sight) → begins_with_pair rs ≡ false → 2 ≤ length (take n rs)
    → is_by_targets (take n rs) ≡ false
no_pair zero rs e many = absurd (omega (arith, many))
no_pair (suc n) [] e many = absurd (omega (arith, many))
no_pair (suc n) (a ∷ []) e many =
    absurd (let few = length-take (suc n) (a ∷ []) in omega (arith, many, few))
no_pair (suc zero) (a ∷ b ∷ rs) e many = absurd (omega (arith, many))
no_pair (suc (suc n)) (a ∷ b ∷ rs) e many = rw e refl

-- So isn't the first of sets that begin so.
first_by_faces : (rs : List Sight) → begins_with_pair rs ≡ false → 1 ≤ length (sets_of rs)
    → All ReadsEachOnce (sets_of rs) → is_by_targets (first_set rs) ≡ false
first_by_faces [] e some each = absurd (omega (arith, some))
first_by_faces (r ∷ rs) e some each =
    let all = r ∷ rs in
    let end = length all in
    let later = starts_from r.target false 1 rs in
    let at : starts_of all ≡ 0 ∷ later = first_start r rs in
    let only : All ReadsEachOnce (parts_at end (0 ∷ later) all) =
    subst (λ (ps : List ℕ). All ReadsEachOnce (parts_at end ps all)) at each in
    let many = (All-head ReadsEachOnce (part 0 (next_of end later) all)
    (parts_at end later all) only).many in
    ap (λ (ps : List ℕ). is_by_targets (first_part end ps all)) at
    ∙ no_pair (next_of end later - 0) all e (omega (arith, many))

-- What is read as the first, which isn't read by targets, is read by faces.
by_faces : (a b c d : Bool) → ((a && b) || (c && d)) ≡ true → c ≡ false → b ≡ true
by_faces true true c d e is = refl
by_faces true false true d e is = cc
by_faces true false false d e is = cc
by_faces false b true d e is = cc
by_faces false b false d e is = cc

all_by_faces : (first : List Sight) (sets : List (List Sight)) → is_by_targets first ≡ false
    → All (IsOrdered first) sets → All (λ set. is_by_faces set ≡ true) sets
all_by_faces first [] is all = All-nil (λ (set : List Sight). is_by_faces set ≡ true)
all_by_faces first (set ∷ sets) is all =
    All-cons (λ (s : List Sight). is_by_faces s ≡ true) set sets
    (by_faces (is_by_faces first) (is_by_faces set) (is_by_targets first) (is_by_targets set)
    (All-head (IsOrdered first) set sets all).alike is)
    (all_by_faces first sets is (All-tail (IsOrdered first) set sets all))

-- A station with sets of which no number is stated is read by faces.
station_by_faces : (stated : Said) (before : Before) (line : List ℕ) (s : Occupation)
    → IsByFaces stated (record { station = s; division = judged stated before line s })
station_by_faces stated before line s none span is =
    let inner = in_span span s.sights in
    let numbers = numbers_of stated s.name in
    let divides = (has_no_fault stated before line s span is).divides in
    let are = sets_in_words numbers s.sights span divides in
    let taken = are_taken numbers s.sights span divides in
    all_by_faces (first_set inner) (sets_of inner)
    (first_by_faces inner (not_by_targets stated before line s span is none) are.some are.each)
    (all_ordered (first_set inner) 0 (length inner) (starts_of inner) inner taken.wrong)

-- So are all stations.
stations_by_faces : (stated : Said) (before : Before) (ss : List Occupation)
    → All (IsByFaces stated) (judged_from stated before ss)
stations_by_faces stated before [] = All-nil (IsByFaces stated)
stations_by_faces stated before (s ∷ ss) =
    let c = called stated.again before s in
    let after = names_past stated before s in
    All-cons (IsByFaces stated) (record { station = c; division = judged_called stated before s })
    (judged_from stated after ss)
    (station_by_faces stated before s.name c) (stations_by_faces stated after ss)

-- Where none of these stations is the first with a fault, none has one.
all_faultless : (rs : List Recognized) → first_fault rs ≡ None → All (λ r. r.fault ≡ None) rs
all_faultless [] e = All-nil (λ (r : Recognized). r.fault ≡ None)
all_faultless (r ∷ rs) e =
    let none = none_of_two r.fault (first_fault rs) e in
    All-cons (λ (s : Recognized). s.fault ≡ None) r rs none.0 (all_faultless rs none.1)

-- Of a marked file.
pub marked_as_stated : (beginnings : Beginnings) (stated : Said) (bytes : List ℕ)
    (answers : FileAnswers) (m : Marked) → IsMarking beginnings stated bytes answers m
    → AreAsStated stated m.stations.items
marked_as_stated beginnings stated bytes answers m marking =
    subst (λ (rs : List Recognized). AreAsStated stated rs) (sym marking.told)
    (all_as_stated stated none_before (written_again_of beginnings marking.blocks)
    (stations_of beginnings marking.blocks))

pub marked_by_faces : (beginnings : Beginnings) (stated : Said) (bytes : List ℕ)
    (answers : FileAnswers) (m : Marked)
    → (marking : IsMarking beginnings stated bytes answers m)
    → All (IsByFaces stated) (judged_of beginnings stated marking.blocks)
marked_by_faces beginnings stated bytes answers m marking =
    stations_by_faces stated none_before (stations_of beginnings marking.blocks)

pub marked_few_targets : (beginnings : Beginnings) (stated : Said) (bytes : List ℕ)
    (answers : FileAnswers) (m : Marked) → IsMarking beginnings stated bytes answers m
    → All (λ r. r.targets ≤ MOST_TARGETS) m.stations.items
marked_few_targets beginnings stated bytes answers m marking =
    subst (λ (rs : List Recognized). All (λ r. r.targets ≤ MOST_TARGETS) rs) (sym marking.told)
    (all_few stated none_before (written_again_of beginnings marking.blocks)
    (stations_of beginnings marking.blocks))

pub marked_faultless : (beginnings : Beginnings) (stated : Said) (bytes : List ℕ)
    (answers : FileAnswers) (m : Marked) → IsMarking beginnings stated bytes answers m
    → stated.others ≡ false → All (λ r. r.fault ≡ None) m.stations.items
marked_faultless beginnings stated bytes answers m marking whole =
    let rs = m.stations.items in
    let end = length marking.blocks + 1 in
    let e : first_of (first_fault rs ∷ no_sets_fault end rs ∷ unfound_fault stated end rs ∷ [])
    ≡ None = rw whole at marking.unrefused in
    all_faultless rs (none_of_three (first_fault rs) (no_sets_fault end rs)
    (unfound_fault stated end rs) e).0
