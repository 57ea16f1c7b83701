-- A station more is judged, and taken.
use Rattle.std.proofs.Common.{◌≡◌, ℕ, false, ◌&&◌, List, [], ◌∷◌, ◌++◌}
use Rattle.std.proofs.Common.{Option, Some, None, refl, ap, ◌∙◌}
use Rattle.std.specs.Prelude.{slice_get}
use Rattle.station_book.specs.Faults.{first_of}
use Rattle.station_book.specs.Places.{is_empty}
use Rattle.set_marks.specs.declared.flaw.Flaw.{Flaw}
use Rattle.set_marks.specs.declared.division.Divided.{Divided}
use Rattle.set_marks.specs.declared.division.Divided.TheVariants.{NoSets, Sets, Flawed}
use Rattle.set_marks.specs.declared.marking.Marking.{Marking}
use Rattle.set_marks.specs.declared.span.Span.{Span}
use Rattle.job_statements.specs.Numbers.{Said, numbers_of}
use Rattle.set_marks.specs.Stations.{Occupation}
use Rattle.set_marks.specs.Divisions.{divided_unless}
use Rattle.set_marks.specs.Ways.{divided}
use Rattle.set_marks.specs.Judging.{Before, twice_fault, own_name_fault, name_fault, targets_fault}
use Rattle.set_marks.specs.Judging.{is_too_long, sets_fault, division_fault, settled, judged}
use Rattle.set_marks.specs.Judging.{names_after}
use Rattle.set_marks.specs.Marking.{close_mark, outside}
use Rattle.set_marks.specs.Keeping.{TakesStation, before_in}
use Rattle.set_marks.proofs.Few.{few_sets, none_of_three}
use Rattle.set_marks.proofs.Judged.{is_short}

-- A station without sets stays outside.
pub takes_none : (line : List ℕ) (written : ℕ) (s : Occupation) (old new : Marking)
    → new.stated ≡ old.stated
    → new.marks.items ≡ old.marks.items ++ close_mark old.in_set s.sights
    → new.stations.items ≡ old.stations.items ++ outside written s None ∷ []
    → new.names ≡ old.names → new.in_set ≡ (old.in_set && is_empty s.sights)
    → TakesStation line written s NoSets old new
takes_none line written s old new stated marks stations names in_set = record {
  stated = stated;
  marks = marks;
  stations = stations;
  names = ap before_in names;
  in_set = in_set;
}

-- So does one with a fault.
pub takes_fault : (line : List ℕ) (written : ℕ) (s : Occupation) (f : Flaw) (old new : Marking)
    → new.stated ≡ old.stated
    → new.marks.items ≡ old.marks.items ++ close_mark old.in_set s.sights
    → new.stations.items ≡ old.stations.items ++ outside written s (Some f) ∷ []
    → before_in new.names ≡ names_after (before_in old.names) line s (Flawed f)
    → new.in_set ≡ (old.in_set && is_empty s.sights)
    → TakesStation line written s (Flawed f) old new
takes_fault line written s f old new stated marks stations names in_set = record {
  stated = stated;
  marks = marks;
  stations = stations;
  names = names;
  in_set = in_set;
}

-- One with sets, of few targets, is marked.
pub takes_sets : (line : List ℕ) (written : ℕ) (s : Occupation) (span : Span) (old new : Marking)
    → targets_fault s span ≡ None
    → TakesStation line written s (Sets span) old new
    → TakesStation line written s (divided_unless (targets_fault s span) span) old new
takes_sets line written s span old new none takes = rw none takes

-- What a station with sets is judged to be.
unless_more : (o : Option Flaw) (span : Span)
    → settled (first_of (o ∷ [])) (Sets span) ≡ divided_unless o span
unless_more None span = refl
unless_more (Some f) span = refl

pub with_sets : (stated : Said) (before : Before) (line : List ℕ) (s : Occupation) (span : Span)
    → divided (numbers_of stated s.name) s.sights ≡ Sets span → sets_fault before line s span ≡ None
    → judged stated before line s ≡ divided_unless (targets_fault s span) span
with_sets stated before line s span is none =
    ap (λ (d : Divided). settled (division_fault before line s d) d) is
    ∙ ap (λ (o : Option Flaw). settled (first_of (o ∷ targets_fault s span ∷ [])) (Sets span)) none
    ∙ unless_more (targets_fault s span) span

-- The name of a station without a fault has room where the first set begins.
pub has_room : (before : Before) (line : List ℕ) (s : Occupation) (span : Span)
    → sets_fault before line s span ≡ None
    → is_too_long s.name (slice_get s.sights span.from) ≡ false
has_room before line s span none = is_short before s span
    (none_of_three (twice_fault before s) (own_name_fault line s) (name_fault before s span)
    none).2

-- What is known of a station whose sets are taken.
pub ruleset is_judged = (few_sets, has_room)

pub ruleset stays_outside = (takes_none, takes_fault)
