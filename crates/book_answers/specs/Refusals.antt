-- The refusal of all stations of a file.
use Rattle.std.specs.Prelude.{ℕ, List, [], ◌++◌, codes, Option, Some, None, Result, Ok, Err}
use Rattle.book_answers.specs.declared.refusal.StationRefusal.{StationRefusal}
use Rattle.station_book.specs.Stations.{SurveyedStation}
use Rattle.station_check.specs.declared.fault.Fault.TheVariants.{NoStation}
use Rattle.station_compare.specs.HintTexts.{stations_hint}
use Rattle.station_compare.specs.Refusals.{refusal_text}
use Rattle.station_compare.specs.declared.fault.CompareFault.{CompareFault}
use Rattle.station_compare.specs.declared.fault.CompareFault.TheVariants.{File}

-- the line that names the station of a refusal
abbrev pub station_note : Option (List ℕ) → List ℕ
station_note None = []
station_note (Some name) = codes "note: station " ++ (name ++ codes "\n")

-- The text of a refusal: what the station alone is refused with, and the line that names it.
abbrev pub named_refusal_text : StationRefusal → List ℕ
named_refusal_text refused = refusal_text refused.refusal ++ station_note refused.station

-- an answer, or the fault of its refusal alone
abbrev pub fault_of : {A : Type 0} → Result A StationRefusal → Result A CompareFault
fault_of (Ok x) = Ok x
fault_of (Err refused) = Err refused.refusal.fault

-- a refusal of no one station, without a hint
abbrev pub of_no_one : CompareFault → StationRefusal
of_no_one fault = record { refusal = record { fault = fault; hint = [] }; station = None }

-- the refusal of a file without stations, of so many unchecked readings
abbrev pub no_station : List SurveyedStation → ℕ → StationRefusal
no_station stations unchecked = record {
  refusal = record { fault = File NoStation; hint = stations_hint stations unchecked };
  station = None;
}
