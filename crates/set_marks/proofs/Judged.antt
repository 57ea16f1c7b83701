-- What holds of the stations that are judged to have sets.
use Rattle.std.proofs.Common.{◌≡◌, ℕ, Bool, true, false, ◌&&◌, ◌||◌, not, inl, inr, List, [], ◌∷◌, ◌++◌, Option, Some}
use Rattle.std.proofs.Common.{None, refl, sym, ap, subst, ◌∙◌}
use Rattle.std.specs.Prelude.{slice_get, nat_le, length, ⊤}
use Rattle.std.proofs.lemmas.Bool.{cases_Bool}
use Rattle.std.proofs.lemmas.List.Elements.{All-head, All-tail}
use Rattle.station_book.specs.declared.bounds.TheConstants.{MOST_STATIONS}
use Rattle.station_book.specs.Places.{is_among}
use Rattle.set_marks.specs.declared.fault.MarkKind.TheVariants as kinds
use Rattle.set_marks.specs.declared.flaw.Flaw.{Flaw}
use Rattle.set_marks.specs.declared.division.Divided.{Divided}
use Rattle.set_marks.specs.declared.division.Divided.TheVariants.{NoSets, Sets, Flawed}
use Rattle.set_marks.specs.declared.span.Span.{Span}
use Rattle.job_statements.specs.Numbers.{Said, numbers_of}
use Rattle.set_marks.specs.Stations.{Occupation}
use Rattle.set_marks.specs.Divisions.{flaw_when, has_no_sets}
use Rattle.set_marks.specs.Ways.{divided}
use Rattle.set_marks.specs.SetsInWords.{AreSets}
use Rattle.set_marks.specs.Judging.{Before, Judged, was_before, twice_fault, own_name_fault}
use Rattle.set_marks.specs.Judging.{is_too_long, name_fault, targets_fault, sets_fault}
use Rattle.set_marks.specs.Judging.{division_fault, station_fault, settled, judged, names_after}
use Rattle.set_marks.specs.Judging.{called, judged_called, judged_from, names_past}
use Rattle.set_marks.specs.Visits.{times}
use Rattle.set_marks.proofs.BareNames.{IsBareName, HaveBareNames}
use Rattle.set_marks.proofs.EachTargetOnce.{no_flaw}
use Rattle.set_marks.proofs.VisitNames.{bare_visit}
use Rattle.set_marks.proofs.Few.{none_of_two, none_of_three}
use Rattle.set_marks.proofs.SetsInWords.{sets_in_words}

-- A station whose sets stand here, and whose name is none of these.
pub record IsSound (names : List (List ℕ)) (s : Occupation) (span : Span) : Type 0 where
  pub are : AreSets s.sights span
  pub bare : IsBareName s.name
  pub new : is_among names s.name ≡ false
  pub short : is_too_long s.name (slice_get s.sights span.from) ≡ false

-- It is so where a station is judged to have sets.
abbrev pub IsSoundAs : List (List ℕ) → Occupation → Divided → Type 0
IsSoundAs names s (Sets span) = IsSound names s span
IsSoundAs names s d = ⊤

-- the names, and that of a station that has sets
abbrev pub names_then : List (List ℕ) → Occupation → Divided → List (List ℕ)
names_then names s (Sets span) = names ++ s.name ∷ []
names_then names s d = names

-- It is so of these stations, one after another.
abbrev pub AreSound : List (List ℕ) → List Judged → Type 0
AreSound names [] = ⊤
AreSound names (j ∷ js) = IsSoundAs names j.station j.division
    × AreSound (names_then names j.station j.division) js

neither : (a b : Bool) → (a || b) ≡ false → a ≡ false
neither true b e = cc
neither false b e = refl

-- A station that is judged to have sets has no fault, and its readings are sets.
pub settled_sets : (o : Option Flaw) (d : Divided) (span : Span) → settled o d ≡ Sets span
    → (o ≡ None) × (d ≡ Sets span)
settled_sets None d span e = (refl, e)
settled_sets (Some f) d span e = cc

-- What is judged of a station that has sets.
pub record HasNoFault (stated : Said) (before : Before) (line : List ℕ) (s : Occupation)
    (span : Span)
    : Type 0 where
  pub divides : divided (numbers_of stated s.name) s.sights ≡ Sets span
  pub new : twice_fault before s ≡ None
  pub sights : own_name_fault line s ≡ None
  pub named : name_fault before s span ≡ None
  pub targets : targets_fault s span ≡ None

pub has_no_fault : (stated : Said) (before : Before) (line : List ℕ) (s : Occupation) (span : Span)
    → judged stated before line s ≡ Sets span → HasNoFault stated before line s span
has_no_fault stated before line s span is =
    let both = settled_sets (station_fault stated before line s)
    (divided (numbers_of stated s.name) s.sights) span is in
    let faultless : division_fault before line s (Sets span) ≡ None =
    ap (λ (d : Divided). division_fault before line s d) (sym both.1) ∙ both.0 in
    let two = none_of_two (sets_fault before line s span) (targets_fault s span) faultless in
    let three = none_of_three (twice_fault before s) (own_name_fault line s)
    (name_fault before s span) two.0 in
    record {
      divides = both.1;
      new = three.0;
      sights = three.1;
      named = three.2;
      targets = two.1;
    }

-- A name that no station with sets or a fault had is none of a station with sets.
is_new : (before : Before) (s : Occupation) → twice_fault before s ≡ None
    → is_among before.marked s.name ≡ false
is_new before s none = neither (is_among before.marked s.name) (is_among before.faulty s.name)
    (no_flaw (was_before before s.name) kinds.StationTwice (slice_get s.sights 0) none)

-- Where the name of a station has no fault, it has room.
pub is_short : (before : Before) (s : Occupation) (span : Span) → name_fault before s span ≡ None
    → is_too_long s.name (slice_get s.sights span.from) ≡ false
is_short before s span none =
    let two = none_of_two
    (flaw_when (nat_le MOST_STATIONS (length before.marked)) kinds.TooManyStations
    (slice_get s.sights 0))
    (flaw_when (is_too_long s.name (slice_get s.sights span.from)) kinds.NameTooLong
    (slice_get s.sights span.from)) none in
    no_flaw (is_too_long s.name (slice_get s.sights span.from)) kinds.NameTooLong
    (slice_get s.sights span.from)
    two.1

sound_as : (stated : Said) (before : Before) (line : List ℕ) (s : Occupation) (d : Divided)
    → IsBareName s.name → judged stated before line s ≡ d → IsSoundAs before.marked s d
sound_as stated before line s NoSets bare is = tt
sound_as stated before line s (Flawed f) bare is = tt
sound_as stated before line s (Sets span) bare is =
    let none = has_no_fault stated before line s span is in
    record {
      are = sets_in_words (numbers_of stated s.name) s.sights span none.divides;
      bare = bare;
      new = is_new before s none.new;
      short = is_short before s span none.named;
    }

same_names : (before : Before) (line : List ℕ) (s : Occupation) (d : Divided)
    → IsSoundAs before.marked s d
    → (names_after before line s d).marked ≡ names_then before.marked s d
same_names before line s NoSets is = refl
same_names before line s (Flawed f) is = refl
same_names before line s (Sets span) is = rw is.new refl

-- What a station is called is such a name as well.
bare_call : (again : Bool) (before : Before) (s : Occupation) → IsBareName s.name
    → IsBareName (called again before s).name
bare_call again before s bare = elim (cases_Bool (again && not (has_no_sets s.sights))) [
  | inl h ↦ rw h (bare_visit s.name (times before.visits s.name) bare)
  | inr h ↦ rw h bare
]

-- Stations of which each is judged.
pub all_sound : (stated : Said) (before : Before) (ss : List Occupation) → HaveBareNames ss
    → AreSound before.marked (judged_from stated before ss)
all_sound stated before [] bare = tt
all_sound stated before (s ∷ ss) bare =
    let c = called stated.again before s in
    let d = judged_called stated before s in
    let after = names_past stated before s in
    let here = sound_as stated before s.name c d (bare_call stated.again before s
    (All-head (λ (o : Occupation). IsBareName o.name) s ss bare)) refl in (
      here,
      subst (λ (names : List (List ℕ)). AreSound names (judged_from stated after ss))
          (same_names before s.name c d here)
          (all_sound stated after ss
          (All-tail (λ (o : Occupation). IsBareName o.name) s ss bare)),
    )
