-- Where a numbered line of a field file stands.
use Rattle.std.specs.Prelude.{◌≡◌, ◌⊎◌, ℕ, ◌-◌, ◌<◌, ◌≤◌, List, Some, None, drop, length}
use Rattle.std.specs.Prelude.{slice_get, take}
use Rattle.gsi_file.specs.LinePlaces.{line_places}
use Rattle.gsi_file.specs.Parts.{numbered_lines}
use Rattle.refusal_places.specs.declared.span.Span.{Span}

-- The bytes of a part of a file.
abbrev pub bytes_of : List ℕ → Span → List ℕ
bytes_of bytes span = take (span.end - span.first) (drop span.first bytes)

-- It is a part of a file of so many bytes.
abbrev pub IsWithin : ℕ → Span → Type 0
IsWithin size span = (span.first ≤ span.end) × (span.end ≤ size)

-- Here stands the line of this number, the first of which has number 1: it begins where that line
-- begins, and has just its bytes.
pub record IsLineAt (bytes : List ℕ) (number : ℕ) (span : Span) : Type 0 where
  pub counted : 1 ≤ number
  pub within : IsWithin (length bytes) span
  pub begins : slice_get (line_places bytes) (number - 1) ≡ Some span.first
  pub bytes_are : slice_get (numbered_lines bytes) (number - 1) ≡ Some (bytes_of bytes span)

-- The file has no line of this number.
abbrev pub HasNoLine : List ℕ → ℕ → Type 0
HasNoLine bytes number =
    (number < 1) ⊎ (slice_get (numbered_lines bytes) (number - 1) ≡ None)
