-- From what is said of a station and a table's input to what is answered, and how the readers are
-- left.
use Rattle.std.proofs.Common.{◌≡◌, inl, inr, ℕ, List, Some, Result, Ok, Err, refl, subst, sym}
use Rattle.std.specs.Prelude.{MatchResult, OnOk}
use Rattle.byte_ends.proofs.Coming.{given_as_told, some_left}
use Rattle.byte_ends.specs.Came.{IsReadOut, Leaves}
use Rattle.byte_ends.specs.Input.{Input, Ended, BrokeOff, RanPast, input_within}
use Rattle.byte_ends.specs.Source.{Told, ReaderChange, given_then}
use Rattle.direction_table.specs.declared.fault.TableFault.TheVariants as table
use Rattle.direction_table.specs.declared.reading.TheConstants.{LONGEST_TABLE}
use Rattle.exact_adjustment.specs.LeastOf.{HasResidualsWithin}
use Rattle.gsi_file.specs.FileAnswers.{FileAnswers, file_answers}
use Rattle.station_book.specs.Limits.{FaceLimits}
use Rattle.station_book.specs.Stations.{SurveyedStation}
use Rattle.station_book.specs.declared.result_limits.ResultLimits.{ResultLimits}
use Rattle.station_check.specs.Answerable.{IsOfFile}
use Rattle.station_check.specs.NotedSurveys.{NotesSurvey}
use Rattle.station_check.specs.StationOfFile.{IsStationOfFile}
use Rattle.station_check.specs.Surveys.{Surveys}
use Rattle.station_check.specs.declared.fault.Fault.{Fault}
use Rattle.station_check.specs.declared.fault.Fault.TheVariants as check
use Rattle.station_compare.proofs.Hinting.{IsOfNoFile, fault_of_hinted, hinted_by_station}
use Rattle.station_compare.specs.Answers.{field_file_left, table_left}
use Rattle.station_compare.specs.Faults.{of_file}
use Rattle.station_compare.specs.Hints.{IsHinted}
use Rattle.station_compare.specs.Refusals.{by_fault, hinted}
use Rattle.station_compare.specs.declared.fault.CompareFault.{CompareFault}
use Rattle.station_compare.specs.declared.fault.CompareFault.TheVariants.{File, TableRead, Table}
use Rattle.station_compare.specs.declared.fault.CompareFault.TheVariants.{Adjust, Apart, Write}
use Rattle.station_compare.specs.declared.fault.CompareFault.TheVariants.{Memory}
use Rattle.table_answers.specs.Answers.{ReadsBoth, StatesBeside}
use Rattle.table_answers.specs.OfInput.{SaysOfInput}
use Rattle.table_answers.specs.Refusing.{HasNoAnswer, IsOfBytes, RefusesInput}

-- What is answered, where the station was found, has the hint of a refusal.
module _ {V : Type 0} (Says : SurveyedStation → List ℕ → V → Type 0)
    (Refuses : SurveyedStation → List ℕ → CompareFault → Type 0)
    (of_bytes : (its : SurveyedStation) (bytes : List ℕ) (fault : CompareFault)
    → Refuses its bytes fault → IsOfBytes fault)
  where
    -- An answer comes of an input that ended.
    ended_by : (its : SurveyedStation) (input : Input) (value : V)
        → SaysOfInput (Says its) input value
        → (bytes : List ℕ) × (input ≡ Ended bytes) × Says its bytes value
    ended_by its (Ended bytes) value h = (bytes, refl, h)
    ended_by its (BrokeOff bytes) value h = absurd h
    ended_by its RanPast value h = absurd h

    -- No fault of the field file comes of the table.
    no_file_fault : (its : SurveyedStation) (fault : Fault) (input : Input)
        → RefusesInput (Refuses its) input (File fault) → ⊥
    no_file_fault its fault (Ended bytes) h = of_bytes its bytes (File fault) h
    no_file_fault its fault (BrokeOff bytes) (inl h) = cc
    no_file_fault its fault (BrokeOff bytes) (inr h) = cc
    no_file_fault its fault RanPast (inl h) = cc
    no_file_fault its fault RanPast (inr h) = cc

    -- So none is answered of it.
    of_no_file : {T : Type 0} (So : T → Type 0) (its : SurveyedStation) (input : Input)
        (r : Result T CompareFault) → MatchResult r So (RefusesInput (Refuses its) input)
        → IsOfNoFile r
    of_no_file So its input (Ok t) h = tt
    of_no_file So its input (Err (File fault)) h = no_file_fault its fault input h
    of_no_file So its input (Err fault) h = tt

    refused_by_input : (limits : ResultLimits) (file : FileAnswers) (stated : Told)
        (name : List ℕ) (its : SurveyedStation) (fault : CompareFault)
        → IsStationOfFile limits.faces file name its
        → RefusesInput (Refuses its) (input_within LONGEST_TABLE stated) fault
        → HasNoAnswer Refuses limits file stated name fault
    refused_by_input limits file stated name its (File fault) station h =
        absurd (no_file_fault its fault (input_within LONGEST_TABLE stated) h)
    refused_by_input limits file stated name its Memory station h = tt
    refused_by_input limits file stated name its fault station h =
        record { its = its; station = station; by_input = h }

    pub tells_by_input : {T : Type 0} (value : T → V) (limits : ResultLimits) (file : FileAnswers)
        (stated : Told) (name : List ℕ) (its : SurveyedStation) (r : Result T CompareFault)
        → IsStationOfFile limits.faces file name its
        → MatchResult r
        (λ t. SaysOfInput (Says its) (input_within LONGEST_TABLE stated) (value t))
        (RefusesInput (Refuses its) (input_within LONGEST_TABLE stated))
        → OnOk r (HasResidualsWithin its.station limits.residual)
        → MatchResult r (λ t. StatesBeside Says limits file stated name (value t))
        (HasNoAnswer Refuses limits file stated name)
    tells_by_input value limits file stated name its (Ok t) station h held =
        let ended = ended_by its (input_within LONGEST_TABLE stated) (value t) h in
        record {
          its = its;
          station = station;
          bytes = ended.0;
          whole = ended.1;
          held = held;
          said = ended.2;
        }
    tells_by_input value limits file stated name its (Err fault) station h held =
        refused_by_input limits file stated name its fault station h

    pub answers_by_input : {T : Type 0} (value : T → V) (limits : ResultLimits)
        (file : FileAnswers) (stated : Told) (name : List ℕ) (its : SurveyedStation)
        (r : Result T CompareFault) → IsStationOfFile limits.faces file name its
        → MatchResult r
        (λ t. SaysOfInput (Says its) (input_within LONGEST_TABLE stated) (value t))
        (RefusesInput (Refuses its) (input_within LONGEST_TABLE stated))
        → OnOk r (HasResidualsWithin its.station limits.residual)
        → MatchResult (by_fault (hinted its.station limits.residual r))
        (λ t. StatesBeside Says limits file stated name (value t))
        (HasNoAnswer Refuses limits file stated name)
        × IsHinted limits file name (hinted its.station limits.residual r)
    answers_by_input value limits file stated name its r station h held = (
      rw (fault_of_hinted its.station limits.residual r)
          (tells_by_input value limits file stated name its r station h held),
      hinted_by_station limits file name its r station
          (of_no_file
          (λ t. SaysOfInput (Says its) (input_within LONGEST_TABLE stated) (value t))
          its (input_within LONGEST_TABLE stated) r h),
    )

    -- How what is answered of a table's input leaves the field file's reader, which has ended before.
    pub left_by_input : {T : Type 0} (So : T → Type 0) (its : SurveyedStation) (input : Input)
        (r : Result T CompareFault) (gsi : ReaderChange)
        → MatchResult r So (RefusesInput (Refuses its) input)
        → IsReadOut gsi → Leaves field_file_left r gsi
    left_by_input So its input (Ok text) gsi h out = out
    left_by_input So its input (Err (File fault)) gsi h out = absurd
        (no_file_fault its fault input h)
    left_by_input So its input (Err TableRead) gsi h out = out
    left_by_input So its input (Err (Table fault)) gsi h out = out
    left_by_input So its input (Err (Adjust fault)) gsi h out = out
    left_by_input So its input (Err (Apart apart)) gsi h out = out
    left_by_input So its input (Err Write) gsi h out = out
    left_by_input So its input (Err Memory) gsi h out = out.unfailed

-- A fault of the field file that is noted is one of its survey.
pub fault_of_survey : (limits : FaceLimits) (file : FileAnswers) (fault : Fault)
    → NotesSurvey limits file (Err fault) → Surveys limits file (Err fault)
fault_of_survey limits file check.Memory h = tt
fault_of_survey limits file fault h = h

-- What is answered of a fault of the field file.
pub refused_by_file : (Refuses : SurveyedStation → List ℕ → CompareFault → Type 0)
    (limits : ResultLimits) (file : FileAnswers) (stated : Told) (name : List ℕ) (fault : Fault)
    → IsOfFile fault → Surveys limits.faces file (Err fault)
    → HasNoAnswer Refuses limits file stated name (of_file fault)
refused_by_file Refuses limits file stated name check.NoStation own h = absurd own
refused_by_file Refuses limits file stated name check.Memory own h = tt
refused_by_file Refuses limits file stated name fault own h = h

-- What is answered of bytes is answered of an input that ended with them.
pub by_ended : {T V : Type 0} (Says : List ℕ → V → Type 0) (value : T → V)
    (Refuses : List ℕ → CompareFault → Type 0) (bytes : List ℕ) (input : Input)
    (r : Result T CompareFault) → input ≡ Ended bytes
    → MatchResult r (λ t. Says bytes (value t)) (Refuses bytes)
    → MatchResult r (λ t. SaysOfInput Says input (value t)) (RefusesInput Refuses input)
by_ended Says value Refuses bytes input r ended h =
    subst (λ (i : Input). MatchResult r (λ t. SaysOfInput Says i (value t))
    (RefusesInput Refuses i)) (sym ended) h

-- How what is answered of a table's bytes leaves its reader, which has ended.
pub left_by_bytes : {T : Type 0} (So : T → Type 0) (Refuses : CompareFault → Type 0)
    (of_bytes : (fault : CompareFault) → Refuses fault → IsOfBytes fault)
    (r : Result T CompareFault) (reader : ReaderChange) → MatchResult r So Refuses
    → IsReadOut reader → Leaves table_left r reader
left_by_bytes So Refuses of_bytes (Ok text) reader h out = out
left_by_bytes So Refuses of_bytes (Err (File fault)) reader h out =
    absurd (of_bytes (File fault) h)
left_by_bytes So Refuses of_bytes (Err TableRead) reader h out = absurd (of_bytes TableRead h)
left_by_bytes So Refuses of_bytes (Err (Table table.TooLong)) reader h out = out.unfailed
left_by_bytes So Refuses of_bytes (Err (Table (table.Columns first second))) reader h out = out
left_by_bytes So Refuses of_bytes (Err (Table (table.Row number kind))) reader h out = out
left_by_bytes So Refuses of_bytes (Err (Table (table.Missing target))) reader h out = out
left_by_bytes So Refuses of_bytes (Err (Table table.Memory)) reader h out = out.unfailed
left_by_bytes So Refuses of_bytes (Err (Adjust fault)) reader h out = out
left_by_bytes So Refuses of_bytes (Err (Apart apart)) reader h out = out
left_by_bytes So Refuses of_bytes (Err Write) reader h out = out.unfailed
left_by_bytes So Refuses of_bytes (Err Memory) reader h out = out.unfailed

-- What is so with another thing is so alone.
pub so_alone : {A : Type 0} (gsi table : ReaderChange) (r : Result A CompareFault)
    (So Also : FileAnswers → Told → Type 0)
    → ReadsBoth gsi table r (λ file stated. So file stated × Also file stated)
    → ReadsBoth gsi table r So
so_alone gsi table r So Also a = record {
  gsi_bytes = a.gsi_bytes;
  gsi_reads = a.gsi_reads;
  table_bytes = a.table_bytes;
  table_reads = a.table_reads;
  so = λ gsi_left table_left gsi_may table_may.
      (a.so gsi_left table_left gsi_may table_may).0;
  gsi_reader = a.gsi_reader;
  table_reader = a.table_reader;
}

-- Of two readers that tell, what is so is so of what they tell.
pub both_as_told : {A : Type 0} (gsi table : ReaderChange) (r : Result A CompareFault)
    (So : FileAnswers → Told → Type 0) → ReadsBoth gsi table r So → (file stated : Told)
    → gsi.told ≡ Some file → table.told ≡ Some stated → So (file_answers file) stated
both_as_told gsi table r So a file stated e f =
    let gsi_left = some_left gsi.told' in
    let table_left = some_left table.told' in
    subst (So (file_answers file))
    (given_as_told table a.table_bytes a.table_reads stated f table_left.0 table_left.1)
    (subst (λ (t : Told). So (file_answers t) (given_then a.table_bytes table_left.0))
    (given_as_told gsi a.gsi_bytes a.gsi_reads file e gsi_left.0 gsi_left.1)
    (a.so gsi_left.0 table_left.0 gsi_left.1 table_left.1))
