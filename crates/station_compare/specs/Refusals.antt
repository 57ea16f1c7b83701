-- A refusal: a fault, and what is told after its line.
use Rattle.std.specs.Prelude.{ℕ, List, [], ◌++◌, Result, Ok, Err}
use Rattle.adjust_kernel.specs.Stations.{StationValue}
use Rattle.station_compare.specs.FaultTexts.{refusal_line}
use Rattle.station_compare.specs.HintTexts.{station_hint}
use Rattle.station_compare.specs.declared.fault.CompareFault.{CompareFault}
use Rattle.station_compare.specs.declared.refusal.Refusal.{Refusal}

-- The text of a refusal: its line, and its hint.
abbrev pub refusal_text : Refusal → List ℕ
refusal_text refusal = refusal_line refusal.fault ++ refusal.hint

-- a refusal without a hint
abbrev pub unhinted : CompareFault → Refusal
unhinted fault = record { fault = fault; hint = [] }

-- an answer, or the fault of its refusal alone
abbrev pub by_fault : {A : Type 0} → Result A Refusal → Result A CompareFault
by_fault (Ok x) = Ok x
by_fault (Err refusal) = Err refusal.fault

-- an answer of a station whose residuals are held to a limit, in half units, with the hint of its
-- fault
abbrev pub hinted : {A : Type 0} → StationValue → ℕ → Result A CompareFault → Result A Refusal
hinted station residual (Ok x) = Ok x
hinted station residual (Err fault) =
    Err (record { fault = fault; hint = station_hint station residual fault })
