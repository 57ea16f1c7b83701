-- Where the book finds the readings of a file, and which faults come of code lines.
use Rattle.std.specs.Prelude.{◌≡◌, ℕ, Bool, true, false, ◌==◌, List, [], ◌∷◌, ◌++◌}
use Rattle.std.specs.Prelude.{if◌then◌else◌, Option, Some, None, IfSome, ⊤}
use Rattle.gsi_word.specs.declared.index.TheConstants.{CODE_INFORMATION}
use Rattle.station_book.specs.declared.fault.BookKind.{BookKind}
use Rattle.station_book.specs.declared.fault.BookKind.TheVariants as kinds
use Rattle.station_book.specs.Limits.{FaceLimits}
use Rattle.station_book.specs.Blocks.{has_direction}
use Rattle.station_book.specs.Places.{History, number_at, opening, station, is_open}
use Rattle.station_book.specs.Faults.{name_at, fault_after}

-- where a reading is found: at the station of this name, in its set of this number
pub record Found : Type 0 where
  pub station : Option (List ℕ)
  pub set : Option ℕ

-- where the book finds a reading that comes after these blocks; in no set where none is open
abbrev pub found_after : History → Option Found
found_after past =
    if is_open past then Some (record {
      station = name_at (station past);
      set = number_at (opening past);
    }) else None

-- where the book finds each reading of a file, in the file's order
abbrev pub found_in : History → List (Option Found)
found_in [] = []
found_in (b ∷ past) = found_in past ++ (if has_direction b then found_after past ∷ [] else [])

-- whether a fault comes of the code lines: of where they stand, of what they say, or of what they
-- make a set
abbrev pub is_of_codes : BookKind → Bool
is_of_codes kinds.EmptySet = true
is_of_codes kinds.OneFace = true
is_of_codes (kinds.WordTwice index) = index == CODE_INFORMATION
is_of_codes kinds.StationName = true
is_of_codes kinds.SetOutside = true
is_of_codes kinds.SetNumber = true
is_of_codes kinds.StationTwice = true
is_of_codes kinds.SetTwice = true
is_of_codes kinds.FaceTwice = true
is_of_codes kind = false

-- No block of a file has such a fault.
abbrev pub HasNoFaultOfCodes : FaceLimits → History → Type 0
HasNoFaultOfCodes limits [] = ⊤
HasNoFaultOfCodes limits (b ∷ past) =
    IfSome (fault_after limits past b) (λ kind. is_of_codes kind ≡ false)
    × HasNoFaultOfCodes limits past
