-- How the bytes of a file in memory are passed, part by part: what is left is as of a source that
-- gives the bytes that are left.
use Rattle.std.specs.Prelude.{◌≡◌, ℕ, ◌+◌, ◌*◌, ◌-◌, ◌≤◌, Bool, true, false, List, [], ◌∷◌}
use Rattle.std.specs.Prelude.{length, if◌then◌else◌, Option, Some, None, Result, Ok, Err}
use Rattle.gsi_file.specs.declared.bounds.TheConstants.{LONGEST_FILE}
use Rattle.gsi_file.specs.declared.file_fault.FileKind.{FileKind}
use Rattle.gsi_file.specs.declared.rest.Part.{Part}
use Rattle.gsi_file.specs.declared.rest.Rest.{Rest}
use Rattle.gsi_file.specs.Parts.{parts, is_line}
use Rattle.gsi_file.specs.FileAnswers.{FileAnswers, answers_within}
use Rattle.gsi_file.specs.LinePlaces.{places_from, with_place}
use Rattle.gsi_file.specs.PartEnds.{IsTested}
use Rattle.gsi_file.specs.ToCome.{only}

-- A part, where it is a line, and then these answers.
abbrev pub with_line : List ℕ → FileAnswers → FileAnswers
with_line part a = record {
  lines = if is_line part then part ∷ a.lines else a.lines;
  last = a.last;
}

-- The answers of the bytes that are left.
abbrev pub answers_left : Rest → FileAnswers
answers_left r = answers_within (LONGEST_FILE - r.place) r.bytes.now r.fails

-- The places where the lines of the bytes that are left begin.
abbrev pub places_left : Rest → List ℕ
places_left r = places_from r.place (parts r.bytes.now)

-- So many lines may have come before these bytes: each took two bytes, or all that were left.
abbrev pub MayFollow : ℕ → Rest → Type 0
MayFollow count r =
    (2 * count ≤ r.place + 1) × (1 ≤ length r.bytes.now → 2 * count ≤ r.place)

-- One more, where it is a line.
abbrev pub counted : Bool → ℕ → ℕ
counted true count = count + 1
counted false count = count

-- A part is passed: it comes first, where it is a line, and then what is left comes.
pub record PassesPart (old : Rest) (part : Part) (new : Rest) : Type 0 where
  pub answers : answers_left old ≡ with_line part.bytes.now (answers_left new)
  pub places : places_left old ≡ with_place (is_line part.bytes.now) part.place (places_left new)
  pub counts : (count : ℕ) → MayFollow count old
      → MayFollow (counted (is_line part.bytes.now) count) new
  pub tested : IsTested part.tested part.bytes.now

-- Nothing that is to come has come.
pub record SameLeft (old new : Rest) : Type 0 where
  pub answers : answers_left old ≡ answers_left new
  pub places : places_left old ≡ places_left new
  pub counts : (count : ℕ) → MayFollow count old → MayFollow count new

-- The next part that is a line is passed, or nothing comes but the end or a fault.
abbrev pub FindsPart : Rest → Result (Option Part) FileKind → Rest → Type 0
FindsPart old (Ok (Some part)) new = (is_line part.bytes.now ≡ true) × PassesPart old part new
FindsPart old (Ok None) new =
    SameLeft old new × ((answers_left new ≡ only None) × (places_left new ≡ []))
FindsPart old (Err kind) new = SameLeft old new × (answers_left new ≡ only (Some kind))
