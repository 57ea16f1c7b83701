-- What is so of a file that is marked as is stated.
use Rattle.std.specs.Prelude.{◌≡◌, true, false, ◌==◌, List, None, IfSome, is_some, All}
use Rattle.set_marks.specs.declared.division.Divided.TheVariants.{Sets}
use Rattle.set_marks.specs.declared.recognized.Recognized.{Recognized}
use Rattle.set_marks.specs.declared.span.Span.{Span}
use Rattle.job_statements.specs.declared.stated.Numbers.{Numbers}
use Rattle.job_statements.specs.Numbers.{Said, number_of, numbers_of}
use Rattle.set_marks.specs.Divisions.{sets_of, in_span, is_by_faces}
use Rattle.set_marks.specs.Judging.{Judged}

-- What is told of a station that has sets is what is stated; where no number of sets is stated it
-- is not read by targets, and a single set that is has its number of targets stated.
pub record IsAsStated (stated : Numbers) (r : Recognized) : Type 0 where
  pub sets : IfSome stated.sets (λ n. r.sets ≡ n)
  pub targets : IfSome stated.targets (λ n. r.targets ≡ n)
  pub by_faces : stated.sets ≡ None → r.by_targets ≡ false
  pub single : r.by_targets ≡ true → r.sets ≡ 1 → is_some stated.targets ≡ true

-- Of each of these stations, if it has sets, what is told is what is stated of it.
abbrev pub AreAsStated : Said → List Recognized → Type 0
AreAsStated stated rs =
    All (λ r. (r.sets == 0) ≡ false → IsAsStated (numbers_of stated r.name) r) rs

-- Where no number of sets is stated of a station, each of its sets is read by faces: the first half
-- of its readings is in one face.
abbrev pub IsByFaces : Said → Judged → Type 0
IsByFaces stated j = number_of stated.sets j.station.name ≡ None
    → (span : Span) → j.division ≡ Sets span
    → All (λ set. is_by_faces set ≡ true) (sets_of (in_span span j.station.sights))
