-- What the laws need of the rule: where the sets of a station stand, and that they are sets.
use Rattle.std.proofs.Common.{◌≡◌, ℕ, zero, suc, ◌+◌, ◌<◌, ◌≤◌, Bool, true, false, ◌&&◌, not}
use Rattle.std.proofs.Common.{List, [], ◌∷◌, ◌++◌, length, take, drop, Option, Some, None, is_none}
use Rattle.std.proofs.Common.{refl, sym, ap, subst, ◌∙◌, inl, inr, arith, All, append_assoc}
use Rattle.std.specs.Prelude.{◌==◌, nat_lt, nat_le, slice_get, slice_index_or, is_some, Any}
use Rattle.std.specs.List.{list_any}
use Rattle.std.proofs.Math.Seq.{take-append_seam, take-append-add}
use Rattle.std.proofs.lemmas.Bool.{cases_Bool, false≢true, leb-false, or_left, not-true, not-false}
use Rattle.std.proofs.lemmas.Bool.{le-ltb}
use Rattle.std.proofs.lemmas.List.{length-drop, length-append, drop-drop, drop_all, drop_at}
use Rattle.std.proofs.lemmas.List.{take-take, length-take, take-append-le, take-append-drop}
use Rattle.std.proofs.lemmas.List.Elements.{All-nil, All-cons, All-head, All-tail, All-take}
use Rattle.std.proofs.lemmas.List.Elements.{All-append, filter-append}
use Rattle.std.proofs.lemmas.List.Folds.{Any-from_list_any}
use Rattle.station_book.proofs.readings.CleanBlocks.{all_none}
use Rattle.set_marks.specs.declared.fault.MarkKind.TheVariants as kinds
use Rattle.set_marks.specs.declared.flaw.Flaw.{Flaw}
use Rattle.set_marks.specs.declared.division.Divided.TheVariants.{NoSets, Sets}
use Rattle.set_marks.specs.declared.sight.Sight.{Sight}
use Rattle.set_marks.specs.declared.span.Span.{Span}
use Rattle.job_statements.specs.declared.stated.Numbers.{Numbers}
use Rattle.set_marks.specs.declared.outside.Ending.{Ending}
use Rattle.set_marks.specs.declared.outside.Ending.TheVariants.{Nothing, CheckSights, CheckPair}
use Rattle.set_marks.specs.Divisions.{sets_flaw, starts_of, sets_of, first_set, in_span, is_of}
use Rattle.set_marks.specs.Divisions.{seconds_of, rest_of, place_of, cut_end, cut_of}
use Rattle.set_marks.specs.Divisions.{first_cut, last_place, last_target, end_of, known_in, later}
use Rattle.set_marks.specs.Divisions.{is_some_known, unknown_in}
use Rattle.set_marks.specs.Divisions.{flaw_at, flaw_when, flaw_found, are_by_targets, part}
use Rattle.set_marks.specs.Divisions.{begins_with_pair, divided_unless, has_no_sets, span_from}
use Rattle.set_marks.specs.Divisions.{targets_of, is_read_in_two, first_target, are_in_face}
use Rattle.set_marks.specs.Outside.{is_ended, in_ending, may_precede, may_end, may_follow}
use Rattle.set_marks.specs.Doubts.{may_be_shifted, may_go_on, may_have_gone_on, numbers_flaw}
use Rattle.set_marks.specs.Doubts.{stranger_among}
use Rattle.set_marks.specs.Ways.{Way, detail_between, cut_flaw, is_no_end, flaw_after, flaw_of}
use Rattle.set_marks.specs.Ways.{is_division, most_leading, leading_of, is_given_up, kept}
use Rattle.set_marks.specs.Ways.{given_up, with_way}
use Rattle.set_marks.specs.Ways.{gives, ways_of, latest_flaw, no_way_flaw, after_leading, sets_by}
use Rattle.set_marks.specs.Ways.{doubt_by, span_by, divided_by, divided}
use Rattle.job_statements.specs.Numbers.{is_asked, is_another}
use Rattle.set_marks.specs.BeginsAndEnds.{are_checks, was_read, without_details, AreEven}
use Rattle.set_marks.specs.BeginsAndEnds.{EndsLastSet}
use Rattle.set_marks.proofs.EachTargetOnce.{none_found, no_flaw, none_is}
use Rattle.set_marks.proofs.AmongDetails.{is_known, first_place, known_after, none_kept}
use Rattle.set_marks.proofs.AmongDetails.{strange_too, all_kept, next_known, none_unknown}
use Rattle.set_marks.proofs.BeginsAndEnds.{last_known, opening_read, several_above}
use Rattle.set_marks.proofs.BeginsAndEnds.{in_two, known_two, none_pass}
use Rattle.set_marks.proofs.SameSets.{none_among, HasSets, has_sets, cut_within, whole, all_so}
use Rattle.set_marks.proofs.SameSets.{detail_among}
use Rattle.set_marks.proofs.Fewest.{fewest}
use Rattle.set_marks.proofs.Parted.{parted, checks, checks_first, even_before}
use Rattle.set_marks.proofs.Tries.{least_at}

-- Of the readings that are sets (`inner`, which is `in_span span rs`): they are readings of the
-- station; nothing is wrong with them as sets; of none of these most targets are others than those
-- of the first; and they are those that are stated, if they have to be.
pub record AreTaken (stated : Numbers) (span : Span) (rs inner : List Sight) : Type 0 where
  pub order : span.from < span.to
  pub within : span.to ≤ length rs
  pub wrong : sets_flaw (first_set inner) 0 (length inner) (starts_of inner) inner ≡ None
  pub known : stranger_among (first_set inner) (sets_of inner) ≡ None
  pub sets : is_another stated.sets (length (starts_of inner)) ≡ false
  pub targets : is_another stated.targets (length (targets_of inner)) ≡ false
  pub by_faces : is_asked (are_by_targets inner) stated.sets ≡ false
  pub single : is_asked (are_by_targets inner && (length (starts_of inner) == 1)) stated.targets
      ≡ false

pub stays_some : (a b : Option Flaw) → is_none a ≡ false → is_none (later a b) ≡ false
stays_some None b e = cc
stays_some (Some a) None e = refl
stays_some (Some a) (Some b) e = elim (cases_Bool (nat_lt a.block b.block)) [
  | inl h ↦ rw h refl
  | inr h ↦ rw h refl
]

-- Nothing is wrong with a way.
abbrev IsRight : List Sight → Way → Type 0
IsRight rs way = flaw_of way.ending rs way.leading ≡ None

pub kept_is : (rest : List Sight) (o : Option ℕ) (n : ℕ) → kept rest o ≡ Some n → o ≡ Some n
kept_is rest None n e = cc
kept_is rest (Some m) n e = elim (cases_Bool (is_given_up rest m)) [
  | inl h ↦ let f : None ≡ Some n = rw h at e in cc
  | inr h ↦ rw h at e
]

with_right : (rs : List Sight) (ending : Ending) (o : Option ℕ) (ways : List Way)
    → gives ending rs ≡ o → All (IsRight rs) ways → All (IsRight rs) (with_way ending o ways)
with_right rs ending None ways e all = all
with_right rs ending (Some n) ways e all =
    All-cons (IsRight rs) (record { ending = ending; leading = n }) ways
    (none_is (flaw_of ending rs n)
    (fewest ending rs n (kept_is (rest_of rs) (leading_of ending rs) n e)).divides) all

ways_right : (rs : List Sight) → All (IsRight rs) (ways_of rs)
ways_right rs =
    let pair = with_way CheckPair (gives CheckPair rs) [] in
    with_right rs Nothing (gives Nothing rs) (with_way CheckSights (gives CheckSights rs) pair) refl
    (with_right rs CheckSights (gives CheckSights rs) pair refl
    (with_right rs CheckPair (gives CheckPair rs) [] refl (All-nil (IsRight rs))))

some_way : (ending : Ending) (o : Option ℕ) (n : ℕ) (ways : List Way) → o ≡ Some n
    → with_way ending o ways ≡ [] → ⊥
some_way ending None n ways is e = cc
some_way ending (Some m) n ways is e = cc

-- Where there is no way, something is wrong.
something_wrong : (rs : List Sight) → ways_of rs ≡ [] → no_way_flaw rs ≡ None → ⊥
something_wrong rs e f = elim (cases_Bool (is_division Nothing rs 0)) [
  | inl h ↦
      let first : leading_of Nothing rs ≡ Some 0 =
      least_at (is_division Nothing rs) (most_leading rs) 0 (omega arith)
      (λ k lt. absurd (omega (arith, lt))) h in
      some_way Nothing (gives Nothing rs) 0 (with_way CheckSights (gives CheckSights rs)
      (with_way CheckPair (gives CheckPair rs) []))
      (ap (λ (o : Option ℕ). kept (rest_of rs) o) first) e
  | inr h ↦
      let latest = (all_none (given_up (rest_of rs) (leading_of CheckPair rs)
      ∷ given_up (rest_of rs) (leading_of CheckSights rs)
      ∷ given_up (rest_of rs) (leading_of Nothing rs) ∷ latest_flaw rs ∷ []) f).1.1.1.0 in
      let none : is_none (latest_flaw rs) ≡ true = ap (λ (o : Option Flaw). is_none o) latest in
      let some = stays_some (later (later (flaw_of Nothing rs 0) (flaw_of Nothing rs 1))
      (flaw_of Nothing rs 2)) (flaw_of Nothing rs 3)
      (stays_some (later (flaw_of Nothing rs 0) (flaw_of Nothing rs 1)) (flaw_of Nothing rs 2)
      (stays_some (flaw_of Nothing rs 0) (flaw_of Nothing rs 1) h)) in
      false≢true (sym some ∙ none)
]

-- The way in which the sets of readings are found, which is the only one, and nothing is wrong.
pub record Found (stated : Numbers) (rs : List Sight) (span : Span) : Type 0 where
  pub way : Way
  pub only : ways_of rs ≡ way ∷ []
  pub right : flaw_of way.ending rs way.leading ≡ None
  pub stand : span_by rs way ≡ span
  pub sure : doubt_by stated rs way ≡ None

by_ways : (stated : Numbers) (rs : List Sight) (span : Span) (ways : List Way) → ways_of rs ≡ ways
    → All (IsRight rs) ways → divided_by stated rs ways ≡ Sets span → Found stated rs span
by_ways stated rs span [] is all e = by (no_way_flaw rs) refl e where
  by : (o : Option Flaw) → no_way_flaw rs ≡ o → divided_unless o (span_from 0 []) ≡ Sets span
      → Found stated rs span
  by None none f = absurd (something_wrong rs is none)
  by (Some flaw) none f = cc
by_ways stated rs span (way ∷ []) is all e = by (doubt_by stated rs way) refl e where
  by : (o : Option Flaw) → doubt_by stated rs way ≡ o
      → divided_unless o (span_by rs way) ≡ Sets span → Found stated rs span
  by None sure f = let g : span_by rs way ≡ span = cc in
      record {
        way = way;
        only = is;
        right = All-head (IsRight rs) way [] all;
        stand = g;
        sure = sure;
      }
  by (Some flaw) sure f = cc
by_ways stated rs span (way ∷ another ∷ ways) is all e = cc

pub found_in : (stated : Numbers) (rs : List Sight) (span : Span) → divided stated rs ≡ Sets span
    → Found stated rs span
found_in stated rs span e = elim (cases_Bool (has_no_sets rs)) [
  | inl h ↦ let f : NoSets ≡ Sets span = rw h at e in cc
  | inr h ↦ by_ways stated rs span (ways_of rs) refl (ways_right rs) (rw h at e)
]

no_fault : (f : Flaw) → Some f ≡ None → ⊥
no_fault f e = cc

-- Where nothing is wrong with a way: the readings after the leading ones end so, nothing is wrong
-- with the sets before the ending, and it may stand after them.
pub record AreRight (rs : List Sight) (way : Way) : Type 0 where
  pub some : 1 ≤ length (after_leading rs way)
  pub ended : is_ended way.ending (after_leading rs way) ≡ true
  pub cut : cut_flaw rs (take way.leading (rest_of rs)) (place_of (seconds_of rs) way.leading rs)
      (starts_of (sets_by rs way)) (sets_by rs way) ≡ None
  pub ends : may_end way.ending (sets_by rs way) (in_ending way.ending (after_leading rs way))
      ≡ true
  pub follows : may_follow way.ending (first_cut (starts_of (sets_by rs way)) (sets_by rs way))
      (is_some (detail_between rs (place_of (seconds_of rs) way.leading rs)
      (place_of (seconds_of rs) way.leading rs + suc (length (sets_by rs way))))) ≡ true

both_then : (a b : Bool) → not (a && b) ≡ false → (a ≡ true) × (b ≡ true)
both_then true true e = (refl, refl)
both_then true false e = cc
both_then false b e = cc

right_after : (rs : List Sight) (way : Way) → 1 ≤ length (after_leading rs way)
    → flaw_after way.ending rs (take way.leading (rest_of rs))
    (place_of (seconds_of rs) way.leading rs) (after_leading rs way) ≡ None → AreRight rs way
right_after rs way some e =
    let after = after_leading rs way in
    let sets = sets_by rs way in
    let at = place_of (seconds_of rs) way.leading rs in
    elim (cases_Bool (is_ended way.ending after)) [
      | inr h ↦
          let f : Some (flaw_at kinds.OneTarget None) ≡ None = rw h at e in
          absurd (no_fault (flaw_at kinds.OneTarget None) f)
      | inl h ↦
          let ending = in_ending way.ending after in
          let none = all_none (cut_flaw rs (take way.leading (rest_of rs)) at (starts_of sets) sets
          ∷ flaw_when (is_no_end rs at way.ending sets ending) kinds.OneTarget (slice_get ending 0)
          ∷ []) (rw h at e) in
          let may = both_then (may_end way.ending sets ending)
          (may_follow way.ending (first_cut (starts_of sets) sets)
          (is_some (detail_between rs at (at + suc (length sets)))))
          (no_flaw (is_no_end rs at way.ending sets ending) kinds.OneTarget
          (slice_get ending 0) none.1.0) in
          record { some = some; ended = h; cut = none.0; ends = may.0; follows = may.1 }
    ]

pub are_right : (rs : List Sight) (way : Way) → flaw_of way.ending rs way.leading ≡ None
    → AreRight rs way
are_right rs way e = elim (cases_Bool (nat_le (length (rest_of rs)) way.leading)) [
  | inl h ↦
      let f : Some (flaw_at kinds.OneSet None) ≡ None = rw h at e in
      absurd (no_fault (flaw_at kinds.OneSet None) f)
  | inr h ↦
      let more = leb-false (length (rest_of rs)) way.leading h in
      let long = length-drop way.leading (rest_of rs) in
      right_after rs way (omega (arith, more, long)) (rw h at e)
]

-- the doubts about readings, one by one
abbrev pub doubts : Numbers → List Sight → List Sight → List Sight → List (Option Flaw)
doubts stated leading sets rs =
    flaw_when (may_be_shifted leading (first_cut (starts_of sets) sets)
    (part 0 (cut_end (starts_of sets) sets) sets)) kinds.MayBeShifted
    (slice_get sets 0)
    ∷ flaw_when (is_asked (are_by_targets sets) stated.sets) kinds.ByTargets (slice_get sets 0)
    ∷ flaw_when (may_go_on sets rs) kinds.PairAfter
    (slice_get rs (cut_end (starts_of sets) sets))
    ∷ flaw_when (may_have_gone_on sets rs) kinds.MayBeShifted (slice_get sets 0)
    ∷ numbers_flaw stated sets
    ∷ flaw_found kinds.OtherTargets
    (stranger_among (first_cut (starts_of sets) sets) (cut_of sets))
    ∷ []

-- Whether readings begin with a pair is seen in the first two.
pub first_two : (n : ℕ) (rs : List Sight) → 2 ≤ length (take n rs)
    → begins_with_pair (take n rs) ≡ begins_with_pair rs
first_two zero rs two = absurd (omega (arith, two))
first_two (suc n) [] two = refl
first_two (suc zero) (a ∷ rs) two = absurd (omega (arith, two))
first_two (suc (suc n)) (a ∷ []) two = refl
first_two (suc (suc n)) (a ∷ b ∷ rs) two = refl

first_one : (n : ℕ) (rs : List Sight) → 1 ≤ length (take n rs)
    → first_target (take n rs) ≡ first_target rs
first_one zero rs some = absurd (omega (arith, some))
first_one (suc n) [] some = refl
first_one (suc n) (r ∷ rs) some = refl

-- What is known of the sets of a way (`sets`), of which the last ends at this place: the first of
-- them are sets of the station, and after these stand, beside details, the others and the ending.
pub record IsCut (rs : List Sight) (way : Way) (sets : List Sight) (end : ℕ) : Type 0 where
  pub known : All (λ r. is_known (seconds_of rs) r ≡ true)
      (take end (drop (place_of (seconds_of rs) way.leading rs) rs))
  pub same : take end (drop (place_of (seconds_of rs) way.leading rs) rs) ≡ take end sets
  pub after : known_in (seconds_of rs)
      (drop end (drop (place_of (seconds_of rs) way.leading rs) rs))
      ≡ drop end sets ++ in_ending way.ending (after_leading rs way)
  pub left : known_in (seconds_of rs)
      (drop end (drop (place_of (seconds_of rs) way.leading rs) rs))
      ≡ drop end (after_leading rs way)
  pub read : are_by_targets (take end sets) ≡ are_by_targets sets
  pub checks : are_checks (in_span (span_by rs way) rs)
      (in_ending way.ending (after_leading rs way)) ≡ true
  pub precede : may_precede (starts_of sets) sets (take way.leading (rest_of rs))
      (place_of (seconds_of rs) way.leading rs) ≡ true
  pub has : HasSets (take end sets) sets
  pub inner : in_span (span_by rs way) rs ≡ take end sets

pub cut_sets : (rs : List Sight) (way : Way) → flaw_of way.ending rs way.leading ≡ None
    → IsCut rs way (sets_by rs way) (cut_end (starts_of (sets_by rs way)) (sets_by rs way))
cut_sets rs way e =
    let after = after_leading rs way in
    let sets = sets_by rs way in
    let ending = in_ending way.ending after in
    let twos = seconds_of rs in
    let right = are_right rs way e in
    let at = place_of twos way.leading rs in
    let end = cut_end (starts_of sets) sets in
    let none = all_none (sets_flaw (first_cut (starts_of sets) sets) 0 end (starts_of sets) sets
    ∷ flaw_found kinds.FaceMissing (detail_between rs at (at + end))
    ∷ flaw_when (not (may_precede (starts_of sets) sets (take way.leading (rest_of rs)) at))
    kinds.OneSet (slice_get sets 0) ∷ []) right.cut in
    let clean = detail_among rs at end
    ∙ none_found kinds.FaceMissing (detail_between rs at (at + end)) none.1.0 in
    let parts = parted way.ending after right.some right.ended in
    let within = cut_within sets (starts_of sets) in
    let long : length after ≡ length sets + length ending =
    ap length parts.split ∙ length-append sets ending in
    let among = none_among twos (drop at rs) after end (known_after twos way.leading rs) clean
    (omega (arith, within, long)) in
    let same : take end (drop at rs) ≡ take end sets = among.same
    ∙ ap (λ (l : List Sight). take end l) parts.split ∙ take-append-le end sets ending within in
    let has = has_sets sets none.0 parts.some in
    let many = has.many in
    let read = first_two end sets (omega (arith, many)) in
    let inner : in_span (span_by rs way) rs ≡ take end sets =
    ap (λ (k : ℕ). take k (drop at rs)) (omega arith) ∙ same in
    record {
      known = among.known;
      same = same;
      after = among.after ∙ ap (λ (l : List Sight). drop end l) parts.split
          ∙ dropped end sets ending within;
      left = among.after;
      read = read;
      checks = ap (λ (l : List Sight). are_checks l ending) inner
          ∙ checks_first sets (take end sets) ending
          (first_one end sets (omega (arith, many))) read
          (checks way.ending sets after right.ended right.ends);
      precede = not-false (may_precede (starts_of sets) sets (take way.leading (rest_of rs)) at)
          (no_flaw (not (may_precede (starts_of sets) sets (take way.leading (rest_of rs)) at))
          kinds.OneSet (slice_get sets 0) none.1.1.0);
      has = has;
      inner = inner;
    }
  where
    dropped : (k : ℕ) (xs ys : List Sight) → k ≤ length xs
        → drop k (xs ++ ys) ≡ drop k xs ++ ys
    dropped zero xs ys le = refl
    dropped (suc k) [] ys le = absurd (omega (arith, le))
    dropped (suc k) (x ∷ xs) ys le = dropped k xs ys (omega (arith, le))

-- What stands before the reading after so many of the others' targets.
pub known_before : (others : List Sight) (count : ℕ) (rs : List Sight)
    → known_in others (take (place_of others count rs) rs) ≡ take count (known_in others rs)
known_before others zero [] = refl
known_before others (suc count) [] = refl
known_before others zero (r ∷ rs) = elim (cases_Bool (is_known others r)) [
  | inl h ↦ ap (λ (k : ℕ). known_in others (take k (r ∷ rs))) (first_place others r rs h)
  | inr h ↦ rw h (rw h (known_before others zero rs))
]
known_before others (suc count) (r ∷ rs) = elim (cases_Bool (is_known others r)) [
  | inl h ↦ rw h (rw h (ap (λ (l : List Sight). r ∷ l) (known_before others count rs)))
  | inr h ↦ rw h (rw h (known_before others (suc count) rs))
]

-- Readings of which these are the others' targets, in two parts.
record InParts (others rs before after : List Sight) : Type 0 where
  pub front : List Sight
  pub back : List Sight
  pub split : rs ≡ front ++ back
  pub in_front : known_in others front ≡ before
  pub in_back : known_in others back ≡ after
  pub next : All (λ r. is_known others r ≡ true) (take 1 back)

in_parts : (others rs before after : List Sight) → known_in others rs ≡ before ++ after
    → InParts others rs before after
in_parts others rs before after e =
    let at = place_of others (length before) rs in
    record {
      front = take at rs;
      back = drop at rs;
      split = sym (take-append-drop at rs);
      in_front = known_before others (length before) rs
          ∙ ap (λ (l : List Sight). take (length before) l) e ∙ take-append_seam before after;
      in_back = known_after others (length before) rs
          ∙ ap (λ (l : List Sight). drop (length before) l) e
          ∙ drop_at before after (length before) refl;
      next = next_known others (length before) rs;
    }

-- What stands after the sets: others, and the ending.
abbrev AfterSets : List Sight → Way → Type 0
AfterSets rs way = InParts (seconds_of rs)
    (drop (cut_end (starts_of (sets_by rs way)) (sets_by rs way))
    (drop (place_of (seconds_of rs) way.leading rs) rs))
    (drop (cut_end (starts_of (sets_by rs way)) (sets_by rs way)) (sets_by rs way))
    (in_ending way.ending (after_leading rs way))

after_sets : (rs : List Sight) (way : Way) → flaw_of way.ending rs way.leading ≡ None
    → AfterSets rs way
after_sets rs way e =
    let rest = sets_by rs way in
    let end = cut_end (starts_of rest) rest in
    in_parts (seconds_of rs) (drop end (drop (place_of (seconds_of rs) way.leading rs) rs))
    (drop end rest) (in_ending way.ending (after_leading rs way)) (cut_sets rs way e).after

-- The ending is what is no detail after these others.
ending_is : (rs : List Sight) (way : Way) (parts : AfterSets rs way)
    → without_details rs parts.back ≡ in_ending way.ending (after_leading rs way)
ending_is rs way parts = sym (known_two rs parts.back) ∙ parts.in_back

-- With check sights as many of the readings before them are in face I as in face II.
even_after : (rs : List Sight) (way : Way) → flaw_of way.ending rs way.leading ≡ None
    → (parts : AfterSets rs way) → 1 ≤ length (without_details rs parts.back)
    → are_in_face false (without_details rs parts.back) ≡ true
    → AreEven (without_details rs (in_span (span_by rs way) rs ++ parts.front))
even_after rs way e parts some one =
    let rest = sets_by rs way in
    let twos = seconds_of rs in
    let at = place_of twos way.leading rs in
    let end = cut_end (starts_of rest) rest in
    let inner = in_span (span_by rs way) rs in
    let cut = cut_sets rs way e in
    let right = are_right rs way e in
    let is = ending_is rs way parts in
    let kept : known_in twos inner ≡ take end rest =
    ap (λ (l : List Sight). known_in twos l) (cut.inner ∙ sym cut.same)
    ∙ all_kept twos (take end (drop at rs)) cut.known ∙ cut.same in
    let all : without_details rs (inner ++ parts.front) ≡ rest =
    sym (known_two rs (inner ++ parts.front))
    ∙ filter-append (λ r. is_known twos r) inner parts.front
    ∙ (λ i. kept i ++ parts.in_front i) ∙ take-append-drop end rest in
    subst (λ (l : List Sight). AreEven l) (sym all)
    (even_before way.ending (after_leading rs way) right.ended
    (subst (λ (l : List Sight). 1 ≤ length l) is some)
    (sym (ap (λ (l : List Sight). are_in_face false l) is) ∙ one))

-- Where an ending may follow sets of two targets, something stands between.
stands_apart : (ending : Ending) (first after : List Sight) (apart : Bool)
    → may_follow ending first apart ≡ true → 1 ≤ length (in_ending ending after)
    → length first ≤ 4 → apart ≡ true
stands_apart Nothing first after apart e some two = absurd (omega (arith, some))
stands_apart CheckSights first after apart e some two = rw (le-ltb 4 (length first) two) at e
stands_apart CheckPair first after apart e some two = rw (le-ltb 4 (length first) two) at e

-- After sets of two targets a detail stands before the ending.
apart_after : (rs : List Sight) (way : Way) → flaw_of way.ending rs way.leading ≡ None
    → (parts : AfterSets rs way) → 1 ≤ length (without_details rs parts.back)
    → length (first_set (in_span (span_by rs way) rs)) ≤ 4
    → Any (λ r. is_read_in_two rs r.target ≡ false) parts.front
apart_after rs way e parts some two =
    let rest = sets_by rs way in
    let twos = seconds_of rs in
    let at = place_of twos way.leading rs in
    let end = cut_end (starts_of rest) rest in
    let cut = cut_sets rs way e in
    elim (cases_Bool (list_any (λ r. not (is_read_in_two rs r.target)) parts.front)) [
      | inl h ↦
          let found = Any-from_list_any (λ r. not (is_read_in_two rs r.target)) parts.front h in
          (found.0, found.1, found.2, found.3, not-true (is_read_in_two rs found.1.target) found.4)
      | inr h ↦
          let front = parts.front in
          let known_front : All (λ r. is_known twos r ≡ true) front = λ k d lt.
          in_two (slice_index_or front k d).target rs
          ∙ not-false (is_read_in_two rs (slice_index_or front k d).target)
          (none_pass (λ r. not (is_read_in_two rs r.target)) front h k d lt) in
          let before = take end (drop at rs) ++ front in
          let kept = all_kept twos front known_front in
          let many : length before ≡ length rest =
          length-append (take end (drop at rs)) front
          ∙ (λ i. length (cut.same i) + length ((sym kept ∙ parts.in_front) i))
          ∙ sym (length-append (take end rest) (drop end rest))
          ∙ ap length (take-append-drop end rest) in
          let stand : drop at rs ≡ before ++ parts.back =
          sym (take-append-drop end (drop at rs))
          ∙ ap (λ (l : List Sight). take end (drop at rs) ++ l) parts.split
          ∙ sym (append_assoc (take end (drop at rs)) front parts.back) in
          let tried : take (suc (length rest)) (drop at rs) ≡ before ++ take 1 parts.back =
          (λ i. take (one_more (length rest) (length before) (sym many) i) (stand i))
          ∙ take-append-add before parts.back 1 in
          let all = All-append (λ (r : Sight). is_known twos r ≡ true) before (take 1 parts.back)
          (All-append (λ (r : Sight). is_known twos r ≡ true) (take end (drop at rs)) front
          cut.known known_front) parts.next in
          let none : detail_between rs at (at + suc (length rest)) ≡ None =
          sym (detail_among rs at (suc (length rest)))
          ∙ ap (λ (l : List Sight). unknown_in twos l) tried
          ∙ none_unknown twos (before ++ take 1 parts.back) all in
          absurd (false≢true (sym (ap (λ (o : Option Sight). is_some o) none)
          ∙ stands_apart way.ending (first_cut (starts_of rest) rest) (after_leading rs way)
          (is_some (detail_between rs at (at + suc (length rest)))) (are_right rs way e).follows
          (subst (λ (l : List Sight). 1 ≤ length l) (ending_is rs way parts) some)
          (subst (λ (l : List Sight). length l ≤ 4)
          (ap (λ (l : List Sight). first_set l) cut.inner ∙ cut.has.first) two)))
    ] where
      one_more : (m n : ℕ) → m ≡ n → suc m ≡ n + 1
      one_more m n is = omega (arith, is)

taken_after : (stated : Numbers) (rs : List Sight) (way : Way)
    → flaw_of way.ending rs way.leading ≡ None → doubt_by stated rs way ≡ None
    → AreTaken stated (span_by rs way) rs (in_span (span_by rs way) rs)
taken_after stated rs way e sure =
    let rest = sets_by rs way in
    let at = place_of (seconds_of rs) way.leading rs in
    let starts = starts_of rest in
    let end = cut_end starts rest in
    let inner = take end rest in
    let cut = cut_sets rs way e in
    let has = cut.has in
    let first = slice_get rest 0 in
    let by = are_by_targets rest in
    let targets = length (targets_of (part 0 end rest)) in
    let none = all_none (doubts stated (take way.leading (rest_of rs)) rest (after_leading rs way))
    sure in
    let numbers = all_none (flaw_when (is_another stated.sets (length starts)) kinds.SetCount first
    ∷ flaw_when (is_asked (by && (length starts == 1)) stated.targets) kinds.ByTargets first
    ∷ flaw_when (is_another stated.targets targets) kinds.TargetCount first ∷ [])
    none.1.1.1.1.0 in
    let many = has.many in
    let long = has.long in
    let read : are_by_targets inner ≡ by = cut.read in
    let same_targets : targets_of inner ≡ targets_of (part 0 end rest) =
    ap targets_of (sym (whole end rest)) in
    let all : length (take end (drop at rs)) ≡ end = ap length cut.same ∙ long in
    let beyond = length-drop at rs in
    let fewer = length-take end (drop at rs) in
    subst (λ (l : List Sight). AreTaken stated (span_by rs way) rs l) (sym cut.inner)
    (record {
      order = omega (arith, many, long);
      within = omega (arith, many, long, all, beyond, fewer);
      wrong = has.wrong;
      known = (λ i. stranger_among (has.first i) (has.sets i))
          ∙ none_found kinds.OtherTargets
          (stranger_among (first_cut starts rest) (cut_of rest)) none.1.1.1.1.1.0;
      sets = ap (λ (ps : List ℕ). is_another stated.sets (length ps)) has.starts
          ∙ no_flaw (is_another stated.sets (length starts)) kinds.SetCount first numbers.0;
      targets = ap (λ (names : List (List ℕ)). is_another stated.targets (length names)) same_targets
          ∙ no_flaw (is_another stated.targets targets) kinds.TargetCount first numbers.1.1.0;
      by_faces = ap (λ (b : Bool). is_asked b stated.sets) read
          ∙ no_flaw (is_asked by stated.sets) kinds.ByTargets first none.1.0;
      single = (λ i. is_asked (read i && (length (has.starts i) == 1)) stated.targets)
          ∙ no_flaw (is_asked (by && (length starts == 1)) stated.targets) kinds.ByTargets first
          numbers.1.0;
    })

-- Of readings that are sets.
pub are_taken : (stated : Numbers) (rs : List Sight) (span : Span) → divided stated rs ≡ Sets span
    → AreTaken stated span rs (in_span span rs)
are_taken stated rs span e =
    let found = found_in stated rs span e in
    subst (λ (s : Span). AreTaken stated s rs (in_span s rs)) found.stand
    (taken_after stated rs found.way found.right found.sure)

-- the target of the last of readings
last_is : (front : List Sight) (r : Sight) → last_target (front ++ r ∷ []) ≡ r.target
last_is [] r = refl
last_is (f ∷ []) r = refl
last_is (f ∷ g ∷ front) r = last_is (g ∷ front) r

-- It is known where all are.
last_of_known : (others rs : List Sight) → All (λ r. is_known others r ≡ true) rs → 1 ≤ length rs
    → list_any (is_of (last_target rs)) others ≡ true
last_of_known others [] all some = absurd (omega (arith, some))
last_of_known others (r ∷ []) all some =
    All-head (λ (s : Sight). is_known others s ≡ true) r [] all
last_of_known others (r ∷ s ∷ rs) all some = last_of_known others (s ∷ rs)
    (All-tail (λ (s : Sight). is_known others s ≡ true) r (s ∷ rs) all) (omega arith)

-- Where the last of several sets ends, by the readings that stand before it.
pub several_by : (rs : List Sight) (starts : List ℕ) → 2 ≤ length starts
    → cut_end starts rs ≡ end_of (take (last_place starts) rs) rs
several_by rs [] many = absurd (omega (arith, many))
several_by rs (from ∷ []) many = absurd (omega (arith, many))
several_by rs (from ∷ to ∷ later) many = refl

-- The opening target is one that a set before the last has.
opens_known : (rs : List Sight) → 2 ≤ length (starts_of rs)
    → is_some_known (take (last_place (starts_of rs)) rs) rs ≡ true
opens_known [] many = absurd (omega (arith, many))
opens_known (r ∷ rs) many =
    let known = take (last_place (starts_of (r ∷ rs))) (r ∷ rs) in
    or_left (is_known known r) (is_some_known known rs)
    (opening_read r rs (last_place (starts_of (r ∷ rs))) (several_above r rs many))

several_after : (rs : List Sight) (way : Way) → flaw_of way.ending rs way.leading ≡ None
    → 2 ≤ length (starts_of (in_span (span_by rs way) rs))
    → EndsLastSet (was_read (in_span (span_by rs way) rs)) (span_by rs way) rs
several_after rs way e two =
    let rest = sets_by rs way in
    let twos = seconds_of rs in
    let at = place_of twos way.leading rs in
    let end = cut_end (starts_of rest) rest in
    let place = last_place (starts_of rest) in
    let cut = cut_sets rs way e in
    let has = cut.has in
    let inner = take end rest in
    let beyond = drop end (drop at rs) in
    let many : 2 ≤ length (starts_of rest) = subst (λ (ps : List ℕ). 2 ≤ length ps)
    (ap starts_of cut.inner ∙ has.starts) two in
    let before = take place rest in
    let found = last_known before rest (opens_known rest many) in
    let sets = found.front ++ found.last ∷ [] in
    let split : rest ≡ sets ++ found.after =
    found.readings ∙ sym (append_assoc found.front (found.last ∷ []) found.after) in
    let long : length sets ≡ end = length-append found.front (found.last ∷ [])
    ∙ sym (several_by rest (starts_of rest) many ∙ found.here) in
    let is_sets : inner ≡ sets = ap (λ (l : List Sight). take end l) split
    ∙ ap (λ (k : ℕ). take k (sets ++ found.after)) (sym long) ∙ take-append_seam sets found.after in
    let is_after : drop end rest ≡ found.after = ap (λ (l : List Sight). drop end l) split
    ∙ drop_at sets found.after end long in
    let last = has.last in
    let in_sets : take place inner ≡ before = take-take place end rest (omega (arith, last)) in
    let read : (name : List ℕ) → was_read inner name ≡ list_any (is_of name) before =
    λ name. (λ i. list_any (is_of name) (take (last_place (has.starts i)) inner))
    ∙ ap (λ (l : List Sight). list_any (is_of name) l) in_sets in
    let known : All (λ y. is_known twos y ≡ true) before =
    subst (λ (l : List Sight). All (λ y. is_known twos y ≡ true) l)
    (ap (λ (l : List Sight). take place l) cut.same ∙ in_sets)
    (All-take (λ (y : Sight). is_known twos y ≡ true) place (take end (drop at rs))
    cut.known) in
    let parts = after_sets rs way e in
    let none : All (λ r. is_known before r ≡ false) (known_in twos parts.front) =
    subst (λ (l : List Sight). All (λ r. is_known before r ≡ false) l)
    (sym (parts.in_front ∙ is_after)) found.strange in
    let strange : All (λ r. was_read inner r.target ≡ false) parts.front =
    all_so (λ r. is_known before r ≡ false) (λ r. was_read inner r.target ≡ false)
    (λ r f. read r.target ∙ f) parts.front (strange_too twos before parts.front known none) in
    record {
      last = (λ i. was_read (cut.inner i) (last_target (cut.inner i)))
          ∙ ap (λ (l : List Sight). was_read inner (last_target l)) is_sets
          ∙ ap (λ (name : List ℕ). was_read inner name) (last_is found.front found.last)
          ∙ read found.last.target ∙ found.known;
      after = parts.front;
      ended = parts.back;
      split = sym (drop-drop end at rs) ∙ parts.split;
      strange = subst (λ (l : List Sight). All (λ r. was_read l r.target ≡ false) parts.front)
          (sym cut.inner) strange;
      checks = ap (λ (l : List Sight). are_checks (in_span (span_by rs way) rs) l)
          (ending_is rs way parts) ∙ cut.checks;
      even = even_after rs way e parts;
      apart = apart_after rs way e parts;
    }

-- The last of several sets ends with the last reading of a target that a set before it has.
pub several_end : (stated : Numbers) (rs : List Sight) (span : Span)
    → divided stated rs ≡ Sets span → 2 ≤ length (starts_of (in_span span rs))
    → EndsLastSet (was_read (in_span span rs)) span rs
several_end stated rs span e =
    let found = found_in stated rs span e in
    subst (λ (s : Span). 2 ≤ length (starts_of (in_span s rs))
    → EndsLastSet (was_read (in_span s rs)) s rs) found.stand
    (several_after rs found.way found.right)

pub single_by : (rs : List Sight) (starts : List ℕ) → length starts ≡ 1
    → cut_end starts rs ≡ length rs
single_by rs [] one = refl
single_by rs (from ∷ []) one = refl
single_by rs (from ∷ to ∷ later) one = absurd (omega (arith, one))

single_after : (rs : List Sight) (way : Way) → flaw_of way.ending rs way.leading ≡ None
    → length (starts_of (in_span (span_by rs way) rs)) ≡ 1
    → EndsLastSet (is_read_in_two rs) (span_by rs way) rs
single_after rs way e one =
    let rest = sets_by rs way in
    let twos = seconds_of rs in
    let at = place_of twos way.leading rs in
    let end = cut_end (starts_of rest) rest in
    let cut = cut_sets rs way e in
    let has = cut.has in
    let many = has.many in
    let sets = take end (drop at rs) in
    let beyond = drop end (drop at rs) in
    let some : 1 ≤ length sets = subst (λ (l : List Sight). 1 ≤ length l) (sym cut.same)
    (omega (arith, many)) in
    let all : end ≡ length rest = single_by rest (starts_of rest)
    (sym (ap length (ap starts_of cut.inner ∙ has.starts)) ∙ one) in
    let parts = after_sets rs way e in
    let none = none_kept twos parts.front
    (parts.in_front ∙ drop_all end rest (omega (arith, all))) in
    let strange : All (λ r. is_read_in_two rs r.target ≡ false) parts.front =
    all_so (λ r. is_known twos r ≡ false) (λ r. is_read_in_two rs r.target ≡ false)
    (λ r f. sym (in_two r.target rs) ∙ f) parts.front none in
    record {
      last = ap (λ (l : List Sight). is_read_in_two rs (last_target l))
          (cut.inner ∙ sym cut.same)
          ∙ sym (in_two (last_target sets) rs) ∙ last_of_known twos sets cut.known some;
      after = parts.front;
      ended = parts.back;
      split = sym (drop-drop end at rs) ∙ parts.split;
      strange = strange;
      checks = ap (λ (l : List Sight). are_checks (in_span (span_by rs way) rs) l)
          (ending_is rs way parts) ∙ cut.checks;
      even = even_after rs way e parts;
      apart = apart_after rs way e parts;
    }

-- A single set ends with the last reading of a target that is read in face II.
pub single_ends : (stated : Numbers) (rs : List Sight) (span : Span)
    → divided stated rs ≡ Sets span → length (starts_of (in_span span rs)) ≡ 1
    → EndsLastSet (is_read_in_two rs) span rs
single_ends stated rs span e =
    let found = found_in stated rs span e in
    subst (λ (s : Span). length (starts_of (in_span s rs)) ≡ 1
    → EndsLastSet (is_read_in_two rs) s rs) found.stand (single_after rs found.way found.right)
