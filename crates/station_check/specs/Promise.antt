-- What a check promises of its answer.
use Rattle.std.specs.Prelude.{ℕ, List, Option, Result, IfOk, IfErr}
use Rattle.byte_ends.specs.Came.{Leaves}
use Rattle.byte_ends.specs.Source.{Told, ReaderChange, MayGive, HasGiven, given_then}
use Rattle.gsi_file.specs.FileAnswers.{file_answers}
use Rattle.adjust_kernel.specs.declared.accepted.Accepted.{Accepted}
use Rattle.station_book.specs.Limits.{FaceLimits}
use Rattle.station_check.specs.declared.fault.Fault.{Fault}
use Rattle.station_check.specs.Accepted.{IsAccepted}
use Rattle.station_check.specs.Answerable.{IsOfCheck, file_left}
use Rattle.station_check.specs.Refused.{TellsOfRefusal, IsFileFirst}
use Rattle.station_check.specs.SheetInput.{sheet_left}
use Rattle.station_check.specs.Verdicts.{AnswersVerdict, IsOnlyVerdict}

-- The answer on a field file and a sheet of these bytes. `limit` is the residual limit in half
-- units, where one is stated.
pub record KeepsPromise (limits : FaceLimits) (limit : Option ℕ) (gsi source : Told)
    (r : Result Accepted Fault) : Type 0 where
  -- What an acceptance says, and what each refusal says.
  pub accepted : IfOk r (IsAccepted limits limit gsi source)
  pub refused : IfErr r (TellsOfRefusal limits limit (file_answers gsi) source)
  -- The answer is the whole verdict, and no other verdict stands, unless memory runs out.
  pub verdict : AnswersVerdict limits limit (file_answers gsi) source r
  pub no_other : IsOnlyVerdict limits limit (file_answers gsi) source r
  -- Where the field file comes to a fault, that is the answer, whatever the sheet is.
  pub file_first : IsFileFirst limits (file_answers gsi) r

-- The answer on what two readers gave, whatever they are, and how both are left.
pub record IsAnswer (limits : FaceLimits) (limit : Option ℕ) (gsi sheet : ReaderChange)
    (r : Result Accepted Fault) : Type 0 where
  -- The field file's reader gave these bytes, and the sheet's reader these.
  pub gsi_bytes : List ℕ
  pub gsi_reads : HasGiven gsi gsi_bytes
  pub sheet_bytes : List ℕ
  pub sheet_reads : HasGiven sheet sheet_bytes
  -- Of these bytes, and whatever may be left in the readers after them, the whole promise is kept.
  pub promise : (gsi_left sheet_left : Told) → MayGive gsi.told' gsi_left
      → MayGive sheet.told' sheet_left
      → KeepsPromise limits limit (given_then gsi_bytes gsi_left)
      (given_then sheet_bytes sheet_left) r
  -- The kernel is never given a sheet for another station.
  pub of_check : IfErr r IsOfCheck
  -- A failed read is never passed over; the sheet's reader is not asked where the field file has a
  -- fault; and at an acceptance both readers have ended, so that nothing is left of them and the
  -- bytes that they gave are all.
  pub gsi_reader : Leaves file_left r gsi
  pub sheet_reader : Leaves sheet_left r sheet
