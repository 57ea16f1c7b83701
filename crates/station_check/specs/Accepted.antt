-- What the acceptance of a sheet says, in the order of the sentence: the sheet's observations are
-- exactly the two-face directions of its station in the field file, every face difference is within
-- the limits, and no other directions and orientations, over any denominator, give with the sheet's
-- full turns a smaller sum of squared residuals.
use Rattle.std.specs.Prelude.{◌≡◌, ◌↔◌, ℕ, List, length, reverse, Option, None, IfSome}
use Rattle.std.specs.List.{AllZip, Contains}
use Rattle.byte_ends.specs.Source.{Told}
use Rattle.byte_ends.specs.Input.{input_within, Ended}
use Rattle.gsi_word.specs.Blocks.{IsBlock}
use Rattle.gsi_file.specs.FileAnswers.{file_answers}
use Rattle.adjust_kernel.specs.Least.{IsLeast, IsUnique}
use Rattle.adjust_kernel.specs.Matching.{Key, Matches, keys_of}
use Rattle.adjust_kernel.specs.Pairs.{choice_stated_by}
use Rattle.adjust_kernel.specs.Promises.{IsAdjustedOverTurns}
use Rattle.adjust_kernel.specs.Sheets.{SheetValue}
use Rattle.adjust_kernel.specs.Verdict.{KeepsLimit, IsAcceptance, observations}
use Rattle.adjust_kernel.specs.declared.accepted.Accepted.{Accepted}
use Rattle.sheet_format.specs.Rows.{IsSheetText}
use Rattle.sheet_format.specs.declared.reading.TheConstants.{LONGEST_SHEET}
use Rattle.station_book.specs.Faults.{fault_at_end, IsWithoutFault}
use Rattle.station_book.specs.Limits.{FaceLimits}
use Rattle.station_book.specs.Places.{History}
use Rattle.station_book.specs.Recorded.{IsRecorded, IsRecordedWith}
use Rattle.station_book.specs.Stations.{SurveyedStation, AreStations}

-- A source gives bytes, no more than a sheet may have, and then ends; and they state this sheet.
pub record StatesSheet (source : Told) (sheet : SheetValue) : Type 0 where
  pub bytes : List ℕ
  pub whole : input_within LONGEST_SHEET source ≡ Ended bytes
  pub states : IsSheetText bytes sheet

-- Of these bytes of a field file and of a sheet, and how they end, this is the acceptance; `limit`
-- is the residual limit in half units, where one is stated.
pub record IsAccepted (limits : FaceLimits) (limit : Option ℕ) (gsi source : Told)
    (a : Accepted) : Type 0 where
  -- The field file was read to its end, and the numbered lines of its bytes are these blocks, the
  -- newest first.
  pub blocks : History
  pub ended : (file_answers gsi).last ≡ None
  pub lines : AllZip IsBlock (file_answers gsi).lines (reverse blocks)
  -- No fault stands at any of them, nor at the end.
  pub faultless : IsWithoutFault limits blocks
  pub closed : fault_at_end blocks ≡ None
  -- The sheet was read to its end, and its bytes state this sheet.
  pub sheet : SheetValue
  pub states : StatesSheet source sheet
  -- Its station: of the stations of these blocks the one that has the sheet's name.
  pub stations : List SurveyedStation
  pub surveyed : AreStations limits blocks stations
  pub its : SurveyedStation
  pub listed : Contains stations its
  pub named : its.station.name ≡ sheet.name
  pub only : (other : SurveyedStation) → Contains stations other
      → other.station.name ≡ sheet.name → other ≡ its
  -- The sheet's observations are exactly its two-face directions: those that the blocks recorded in
  -- both faces, and no others; place by place, none missing, added, moved or altered.
  pub exactly : (k : Key) → Contains (keys_of sheet) k ↔ IsRecorded limits blocks sheet.name k
  pub matches : Matches its.station sheet
  -- Every face difference is within the limits: beside each observation stand those of its two
  -- readings.
  pub within : AllZip (IsRecordedWith limits blocks sheet.name) (keys_of sheet) its.faces
  -- With the sheet's full turns no other directions and orientations, over any denominator, have a
  -- smaller sum of squared residuals; and those that have the same differ by one rotation.
  pub least : IsLeast (choice_stated_by sheet) (observations its.station sheet)
  pub unique : IsUnique (length its.station.sets) (length its.station.targets)
      (choice_stated_by sheet) (observations its.station sheet)
  -- Where a residual limit is stated, no residual is above it, and no other full turns do better.
  pub limited : IfSome limit (KeepsLimit its.station sheet)
  pub over_turns : IfSome limit (λ n.
      IsAdjustedOverTurns (choice_stated_by sheet) (observations its.station sheet))
  -- What is answered: its name and numbers, its greatest residual and its denominator.
  pub says : IsAcceptance its.station sheet a
