-- A station has at most 100 targets where none is one too many.
use Rattle.std.proofs.Common.{◌≡◌, ℕ, suc, ◌≤◌, false, ◌&&◌, not, List, []}
use Rattle.std.proofs.Common.{◌∷◌, length, Option, Some, None, refl, sym}
use Rattle.std.proofs.Common.{inl, inr, arith, All, subst}
use Rattle.std.specs.Prelude.{nat_le, IfNone}
use Rattle.std.proofs.lemmas.Bool.{cases_Bool, leb-false, and_parts, leb-true, not-true}
use Rattle.std.proofs.lemmas.List.{length-append}
use Rattle.std.proofs.lemmas.List.Elements.{All-nil, All-cons}
use Rattle.adjust_kernel.specs.declared.bounds.TheConstants.{MOST_TARGETS}
use Rattle.station_book.specs.Places.{is_among, with_new}
use Rattle.set_marks.specs.declared.fault.MarkKind.TheVariants as kinds
use Rattle.set_marks.specs.declared.division.Divided.{Divided}
use Rattle.set_marks.specs.declared.division.Divided.TheVariants.{NoSets, Sets, Flawed}
use Rattle.set_marks.specs.declared.recognized.Recognized.{Recognized}
use Rattle.set_marks.specs.declared.sight.Sight.{Sight}
use Rattle.set_marks.specs.Stations.{Occupation}
use Rattle.job_statements.specs.Numbers.{Said}
use Rattle.set_marks.specs.declared.flaw.Flaw.{Flaw}
use Rattle.set_marks.specs.Divisions.{flaw_found, names_with, targets_of, one_too_many, in_span}
use Rattle.set_marks.specs.Judging.{Before, called, judged, judged_called, judged_from, names_past}
use Rattle.set_marks.specs.Marking.{recognized, recognized_from}
use Rattle.set_marks.proofs.EachTargetOnce.{none_found}
use Rattle.set_marks.proofs.Judged.{has_no_fault}

-- With a name more there are no fewer.
more_names : (names : List (List ℕ)) (name : List ℕ) → length names ≤ length (with_new names name)
more_names names name = elim (cases_Bool (is_among names name)) [
  | inl h ↦ rw h (omega arith)
  | inr h ↦ let e = length-append names (name ∷ []) in rw (h, e) (omega arith)
]

more_with : (names : List (List ℕ)) (rs : List Sight) → length names ≤ length (names_with names rs)
more_with names [] = omega arith
more_with names (r ∷ rs) =
    let one = more_names names r.target in
    let rest = more_with (with_new names r.target) rs in omega (arith, one, rest)

-- A new name is one more.
one_more : (names : List (List ℕ)) (name : List ℕ) → is_among names name ≡ false
    → length (with_new names name) ≡ suc (length names)
one_more names name new = let e = length-append names (name ∷ []) in rw (new, e) (omega arith)

-- Where there are few names, none is one too many.
pub none_too_many : (names : List (List ℕ)) (rs : List Sight)
    → length (names_with names rs) ≤ MOST_TARGETS → one_too_many names rs ≡ None
none_too_many names [] few = refl
none_too_many names (r ∷ rs) few =
    elim (cases_Bool (not (is_among names r.target) && nat_le MOST_TARGETS (length names))) [
      | inl h ↦
          let parts = and_parts (not (is_among names r.target)) (nat_le MOST_TARGETS (length names)) h
          in let grown = one_more names r.target (not-true (is_among names r.target) parts.0) in
          let many = leb-true MOST_TARGETS (length names) parts.1 in
          let rest = more_with (with_new names r.target) rs in
          absurd (omega (arith, few, grown, many, rest))
      | inr h ↦ rw h (none_too_many (with_new names r.target) rs few)
    ]

still_few : (names : List (List ℕ)) (name : List ℕ)
    → (not (is_among names name) && nat_le MOST_TARGETS (length names)) ≡ false
    → length names ≤ MOST_TARGETS → length (with_new names name) ≤ MOST_TARGETS
still_few names name h few = elim (cases_Bool (is_among names name)) [
  | inl among ↦ rw among few
  | inr new ↦
      let room = leb-false MOST_TARGETS (length names) (rw new at h) in
      let grown = one_more names name new in omega (arith, room, grown)
]

-- Where none is one too many, there are few.
few_with : (names : List (List ℕ)) (rs : List Sight) → length names ≤ MOST_TARGETS
    → one_too_many names rs ≡ None → length (names_with names rs) ≤ MOST_TARGETS
few_with names [] few none = few
few_with names (r ∷ rs) few none =
    elim (cases_Bool (not (is_among names r.target) && nat_le MOST_TARGETS (length names))) [
      | inl h ↦ let f : Some r ≡ None = rw h at none in cc
      | inr h ↦ few_with (with_new names r.target) rs (still_few names r.target h few) (rw h at none)
    ]

-- So it is, where no fault of them is found.
pub few_unless : (n : ℕ) (rs : List Sight) (o : Option Flaw) → n ≡ length (targets_of rs)
    → o ≡ flaw_found kinds.TooManyTargets (one_too_many [] rs) → IfNone o (n ≤ MOST_TARGETS)
few_unless n rs None is e =
    subst (λ (m : ℕ). m ≤ MOST_TARGETS) (sym is)
    (few_with [] rs (omega arith) (none_found kinds.TooManyTargets (one_too_many [] rs) (sym e)))
few_unless n rs (Some f) is e = tt

-- What is told of a station has few targets.
abbrev HasFew : Recognized → Type 0
HasFew r = r.targets ≤ MOST_TARGETS

station_few : (stated : Said) (before : Before) (line : List ℕ) (s : Occupation) (d : Divided)
    (written : ℕ) → judged stated before line s ≡ d → HasFew (recognized written s d)
station_few stated before line s NoSets written is = omega arith
station_few stated before line s (Flawed f) written is = omega arith
station_few stated before line s (Sets span) written is =
    few_with [] (in_span span s.sights) (omega arith)
    (none_found kinds.TooManyTargets (one_too_many [] (in_span span s.sights))
    (has_no_fault stated before line s span is).targets)

-- So it is with a station before such ones.
one_more_few : (stated : Said) (before : Before) (s : Occupation) (written : ℕ)
    (later : List Recognized) → All HasFew later
    → All HasFew
    (recognized written (called stated.again before s) (judged_called stated before s) ∷ later)
one_more_few stated before s written later few =
    let c = called stated.again before s in
    let d = judged_called stated before s in
    All-cons HasFew (recognized written c d) later
    (station_few stated before s.name c d written refl) few

-- What is told of stations that are judged.
pub all_few : (stated : Said) (before : Before) (counts : List ℕ) (ss : List Occupation)
    → All HasFew (recognized_from counts (judged_from stated before ss))
all_few stated before counts [] = All-nil HasFew
all_few stated before [] (s ∷ ss) =
    let after = names_past stated before s in
    one_more_few stated before s 0 (recognized_from [] (judged_from stated after ss))
    (all_few stated after [] ss)
all_few stated before (n ∷ counts) (s ∷ ss) =
    let after = names_past stated before s in
    one_more_few stated before s n (recognized_from counts (judged_from stated after ss))
    (all_few stated after counts ss)
