-- What is promised where a check accepts, of the bytes of a field file and of a sheet alone: the
-- sheet's observations are exactly the two-face directions of its station in the field file, every
-- face difference is within the limits, and no other directions and orientations, over any
-- denominator, give with the sheet's full turns a smaller sum of squared residuals; where a residual
-- limit is stated, no residual is above it, and no other full turns give a smaller sum.
use Rattle.std.specs.Prelude.{◌≡◌, ◌≢◌, ◌↔◌, ℕ, List, map, All, AllPairs, Contains}
use Rattle.std.specs.Prelude.{Option, IfSome}
use Rattle.std.specs.List.{AllZip}
use Rattle.gsi_word.specs.Blocks.{GsiBlock, IsBlock}
use Rattle.gsi_file.specs.Parts.{numbered_lines}
use Rattle.adjust_kernel.specs.Sheets.{SheetValue}
use Rattle.station_book.specs.Limits.{FaceLimits, AreLimits}
use Rattle.sheet_promise.specs.SheetRows.{AreOfSheet}
use Rattle.sheet_promise.specs.LeastByNames.{IsLeastByNames, IsOnlyLeast, IsLeastOverAllTurns}
use Rattle.sheet_promise.specs.LeastByNames.{AreResidualsWithin, IsSizeOfOne}
use Rattle.adjust_kernel.specs.declared.accepted.Accepted.{Accepted}
use Rattle.std.specs.Prelude.{◌*◌, pos, length}
use Rattle.sheet_promise.specs.Readings.{IsOnly, FileBlock, IsSetOf, IsSetUp, IsReadingOfSet}
use Rattle.sheet_promise.specs.Readings.{IsTwoFaceRow, IsOfRow}

-- The first list has what the second has, and nothing else, each once.
pub record HasEachOnce {X : Type 0} (once every : List X) : Type 0 where
  pub different : AllPairs (λ a b. a ≢ b) once
  pub each : (x : X) → Contains once x ↔ Contains every x

-- The rows of a sheet are the two-face directions of the station that was set up there.
pub record AreItsDirections (limits : FaceLimits) (blocks : List GsiBlock) (setup : FileBlock)
    (sheet : SheetValue) : Type 0 where
  -- Each row is one; no set and target has two rows; and no reading in a set of the station is left
  -- out.
  pub rows : All (IsTwoFaceRow limits blocks setup) sheet.rows
  pub once : AllPairs (λ a b. a.set ≡ b.set → a.target ≢ b.target) sheet.rows
  pub whole : (set r : FileBlock) (target : List ℕ) → IsSetOf blocks setup set
      → IsReadingOfSet blocks set target r → IsOfRow limits blocks setup sheet.rows r
  -- The sheet states one direction for each target of the rows and one orientation for each set,
  -- and no others.
  pub targets : HasEachOnce (map (λ d. d.name) sheet.directions) (map (λ r. r.target) sheet.rows)
  pub sets : HasEachOnce (map (λ o. o.set) sheet.orientations) (map (λ r. r.set) sheet.rows)

-- The answer on a sheet: the name of its station, how many sets, targets and observations it has,
-- its denominator, and the size of its greatest residual, times the denominator.
pub record IsAnswerOn (sheet : SheetValue) (a : Accepted) : Type 0 where
  pub name : a.name ≡ sheet.name
  pub sets : a.sets ≡ length sheet.orientations
  pub targets : a.targets ≡ length sheet.directions
  pub directions : a.directions ≡ length sheet.rows
  pub denominator : a.denominator ≡ sheet.denominator
  pub no_larger : AreResidualsWithin a.greatest sheet
  pub as_large : IsSizeOfOne a.greatest sheet

-- This is promised where a field file and a sheet of these bytes are accepted with this answer,
-- under these limits of face differences, and under a residual limit in half units where one is
-- stated.
pub record IsPromised (limits : FaceLimits) (limit : Option ℕ) (gsi stated : List ℕ)
    (a : Accepted) : Type 0 where
  -- No limit is above the largest, so that two readings have one 2c, one 2i and one direction.
  pub are_limits : AreLimits limits
  -- The numbered lines of the field file are these blocks.
  pub blocks : List GsiBlock
  pub lines : AllZip IsBlock (numbered_lines gsi) blocks
  -- The bytes of the sheet are those of this sheet.
  pub sheet : SheetValue
  pub states : AreOfSheet stated sheet
  -- The station of its name was set up, with sets, once.
  pub setup : FileBlock
  pub its_station : IsOnly (IsSetUp blocks sheet.name) setup
  -- The sheet's observations are exactly its two-face directions, and every face difference is
  -- within the limits.
  pub exactly : AreItsDirections limits blocks setup sheet
  -- No other directions and orientations, over any denominator, give with the sheet's full turns a
  -- smaller sum of squared residuals; and only those as small that differ by one rotation.
  pub least : IsLeastByNames sheet
  pub only : IsOnlyLeast sheet
  -- Where a residual limit is stated, no residual is above it, and no other full turns give a
  -- smaller sum.
  pub limited : IfSome limit (λ n. AreResidualsWithin (pos (n * sheet.denominator)) sheet)
  pub over_turns : IfSome limit (λ n. IsLeastOverAllTurns sheet)
  -- What is answered.
  pub answer : IsAnswerOn sheet a
