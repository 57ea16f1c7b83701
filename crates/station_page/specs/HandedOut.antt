-- What a call hands out: its status, and a text at the front of the room that it was given.
use Rattle.std.specs.Prelude.{◌≡◌, ◌<◌, ◌≤◌, ◌⊎◌, ℕ, List, [], length, take, drop}
use Rattle.std.specs.Prelude.{Result, Ok, Err}
use Rattle.adjust_kernel.specs.declared.accepted.Accepted.{Accepted}
use Rattle.station_check.specs.declared.fault.Fault.{Fault}
use Rattle.station_check.specs.declared.fault.Fault.TheVariants.{Memory}
use Rattle.station_check.specs.declared.runs.TheConstants.{ACCEPTED, REFUSED}
use Rattle.station_check.specs.VerdictLines.{accepted_line, refusal_line}
use Rattle.station_compare.specs.AgreementTexts.{agreement_line}
use Rattle.station_compare.specs.FaultTexts as compare
use Rattle.station_compare.specs.declared.agreement.Agreement.{Agreement}
use Rattle.station_compare.specs.declared.fault.CompareFault.{CompareFault}
use Rattle.station_page.specs.declared.hand_out.TheConstants.{OUT_OF_RANGE, TOO_LITTLE_ROOM}

-- The text is handed out whole, with this status, exactly where there is room for it; else nothing
-- is, and the status says so.
pub record HandsOut (status : ℕ) (text : List ℕ) (room answered : ℕ) (shown : List ℕ) : Type 0 where
  pub fits : length text ≤ room → (answered ≡ status) × (shown ≡ text)
  pub too_little : room < length text → (answered ≡ TOO_LITTLE_ROOM) × (shown ≡ [])

-- A text of which this is so is handed out; or memory ran out, and the line says so.
abbrev pub HandsOutMade : (List ℕ → Type 0) → ℕ → ℕ → List ℕ → Type 0
HandsOutMade IsSo room answered shown =
    ((text : List ℕ) × IsSo text × HandsOut ACCEPTED text room answered shown)
    ⊎ HandsOut REFUSED (refusal_line Memory) room answered shown

-- A call leaves its room as it was after so many bytes at the front.
pub record Leaves (old new : List ℕ) (written : ℕ) : Type 0 where
  pub fits : written ≤ length old
  pub rest : drop written new ≡ drop written old

-- It is so of the room that a call was given, of what it answered, and of the bytes that it handed
-- out, which stand at the front.
pub record Shows (IsSo : ℕ → ℕ → List ℕ → Type 0) (old new : List ℕ) (written answered : ℕ)
    : Type 0 where
  pub shows : IsSo (length old) answered (take written new)
  pub leaves : Leaves old new written

-- The same where what is stated is in its range; else nothing is handed out, and the status says
-- so.
pub record ShowsInRange (InRange : Type 0) (IsSo : ℕ → ℕ → List ℕ → Type 0) (old new : List ℕ)
    (written answered : ℕ) : Type 0 where
  pub shows : InRange → IsSo (length old) answered (take written new)
  pub beyond : ¬ InRange → (answered ≡ OUT_OF_RANGE) × (written ≡ 0)
  pub leaves : Leaves old new written

-- A call leaves its room so; where what is stated is out of its range, nothing stands at the front.
pub record LeavesInRange (InRange : Type 0) (old new : List ℕ) (written : ℕ) : Type 0 where
  pub beyond : ¬ InRange → written ≡ 0
  pub leaves : Leaves old new written

-- the line of a verdict
abbrev pub verdict_line : Result Accepted Fault → List ℕ
verdict_line (Ok accepted) = accepted_line accepted
verdict_line (Err fault) = refusal_line fault

-- the text of an answer, or the line of the refusal in its place
abbrev pub text_or : {F : Type 0} → (F → List ℕ) → Result (List ℕ) F → List ℕ
text_or line (Ok text) = text
text_or line (Err fault) = line fault

-- the text of an answer; of a refusal its line, in the place of any text
abbrev pub text_or_refusal : {A : Type 0} → List ℕ → Result A Fault → List ℕ
text_or_refusal text (Ok x) = text
text_or_refusal text (Err fault) = refusal_line fault

-- the line of a refusal, where the answer is one
abbrev pub refusal_text : {A : Type 0} → Result A Fault → List ℕ
refusal_text (Ok x) = []
refusal_text (Err fault) = refusal_line fault

-- the line of a comparison: that of the agreement, or of the refusal
abbrev pub comparison_line : Result Agreement CompareFault → List ℕ
comparison_line (Ok agreement) = agreement_line agreement
comparison_line (Err fault) = compare.refusal_line fault
