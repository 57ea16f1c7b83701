-- From what is answered of stations and of the bytes of a table to what is answered of the file.
use Rattle.std.proofs.Common.{◌≡◌, ◌≤◌, ◌∙◌, ℕ, List, None, Option, Some, Ok, Err, Result, inl, inr}
use Rattle.std.proofs.Common.{length}
use Rattle.std.proofs.Common.{ap, refl, subst, sym}
use Rattle.std.proofs.Common.{arith, false, true}
use Rattle.std.specs.Prelude.{Bool, IfOk, MatchResult, if◌then◌else◌, nat_lt}
use Rattle.std.proofs.lemmas.Bool.Decides.{nat_tests}
use Rattle.station_answers.proofs.AnswerLaws.{none_by_file}
use Rattle.station_check.specs.Answerable.{IsOfFile}
use Rattle.station_check.specs.NotedSurveys.{NotesSurvey}
use Rattle.station_check.specs.declared.fault.Fault.{Fault}
use Rattle.station_check.specs.declared.fault.Fault.TheVariants as check
use Rattle.station_compare.proofs.Hinting.{unhinted_file}
use Rattle.station_compare.specs.Faults.{of_file}
use Rattle.book_answers.proofs.FileLaws.{first_of_each, states_each}
use Rattle.book_answers.proofs.PartLaws.{file_left_by, no_file_part, refuses_part, table_left_by}
use Rattle.book_answers.proofs.PartLaws.{tells_part}
use Rattle.book_answers.specs.Notes.{AreNotes, IsPartNote}
use Rattle.book_answers.specs.OfStations.{IsFirstAt, IsOneText, IsWhyNoText}
use Rattle.book_answers.specs.PartTexts.{RefusesPart, SaysPart}
use Rattle.book_answers.specs.Refusals.{fault_of, of_no_one}
use Rattle.book_answers.specs.TableTexts.{IsOfBytes, IsOfInput, IsWhyOfLines, stray_refusal}
use Rattle.book_answers.specs.Tables.{IsRefusedPart, IsWhyNoTextOf, IsWhyNoTexts, StatesTexts}
use Rattle.book_answers.specs.Tables.{TellsPart}
use Rattle.book_answers.specs.Tables.{TellsTexts, arrangement_of}
use Rattle.book_answers.specs.declared.answering.NotedText.{NotedText}
use Rattle.book_answers.specs.declared.part.PartAsked.{PartAsked}
use Rattle.book_answers.specs.declared.refusal.StationRefusal.{StationRefusal}
use Rattle.byte_ends.specs.Came.{ExplainsInput, IsLeftAs, IsReadOut, Leaves}
use Rattle.byte_ends.specs.declared.input.InputFault.{InputFault}
use Rattle.byte_ends.specs.declared.input.InputFault.TheVariants as input
use Rattle.station_compare.specs.Faults.{of_input as of_input_fault}
use Rattle.byte_ends.specs.Input.{BrokeOff, Ended, Input, RanPast, input_within}
use Rattle.byte_ends.specs.Source.{ReaderChange, Told}
use Rattle.gsi_file.specs.FileAnswers.{FileAnswers}
use Rattle.station_book.specs.Limits.{AreLimits}
use Rattle.station_book.specs.Stations.{SurveyedStation}
use Rattle.station_book.specs.declared.result_limits.ResultLimits.{ResultLimits}
use Rattle.station_check.specs.NotedSurveys.{IsNotedSurvey}
use Rattle.station_check.specs.Surveys.{IsSurvey}
use Rattle.station_compare.specs.Answers.{field_file_left, table_left}
use Rattle.station_compare.specs.declared.fault.CompareFault.TheVariants.{Memory, Table, TableRead}
use Rattle.direction_table.specs.declared.fault.TableFault.TheVariants.{TooLong}
use Rattle.station_tables.specs.Lines.{lines_of}
use Rattle.station_tables.specs.Strays.{first_stray}
use Rattle.station_tables.specs.declared.line.TheConstants.{LONGEST_TABLES}

module _ (asked : PartAsked) (limits : ResultLimits) (file : FileAnswers)
    (stations : List SurveyedStation) (unchecked : ℕ)
    (noted : IsNotedSurvey limits.faces file stations unchecked) (small : AreLimits limits.faces)
    (some : 1 ≤ length stations) (stated : Told)
  where
    survey : IsSurvey limits.faces file stations
    survey = record {
      blocks = noted.blocks;
      file = noted.file;
      stations_are = noted.stations_are;
    }

    module _ (table : List ℕ) (whole : input_within LONGEST_TABLES stated ≡ Ended table) where
      why : (stray : Option ℕ) → first_stray stations (lines_of table) ≡ stray
          → (refused : StationRefusal)
          → IsWhyOfLines asked limits stations unchecked (lines_of table) stray refused
          → IsWhyNoTexts asked limits file stated refused
      why (Some number) e refused is = rw is (record {
        table = table;
        whole = whole;
        stations = stations;
        unchecked = unchecked;
        survey = noted;
        stray = e;
        hint_is = refl;
      })
      why None e refused first =
          subst (λ station. IsWhyNoTextOf asked limits file stated station refused.refusal)
          (sym first.at.named) (record {
            table = table;
            whole = whole;
            no_stray = record { stations = stations; survey = survey; none = e };
            first = first_of_each limits file stations survey small
                (λ its. SaysPart asked limits its (lines_of table))
                (λ its. RefusesPart asked limits its (lines_of table))
                (TellsPart asked limits file table) (IsRefusedPart asked limits file table)
                (tells_part limits file table asked) (refuses_part limits file table asked) refused
                first;
          })

      of_bytes : (r : Result NotedText StationRefusal)
          → IsOfBytes asked limits stations unchecked table r
          → TellsTexts asked limits file stated r
      of_bytes (Ok told) h = record {
        table = table;
        whole = whole;
        no_stray = record { stations = stations; survey = survey; none = h.0 };
        states = states_each limits file stations survey small
            (λ its. SaysPart asked limits its (lines_of table))
            (λ its. RefusesPart asked limits its (lines_of table))
            (TellsPart asked limits file table) (IsRefusedPart asked limits file table)
            (tells_part limits file table asked) (refuses_part limits file table asked)
            (arrangement_of asked.text) told.text.items some h.1;
        noted = record { stations = stations; survey = survey; notes_are = h.2 };
      }
      of_bytes (Err refused) (inl memory) = rw memory refl
      of_bytes (Err refused) (inr h) = why (first_stray stations (lines_of table)) refl refused h

    of_input : (input : Input) → input_within LONGEST_TABLES stated ≡ input
        → (r : Result NotedText StationRefusal) → IsOfInput asked limits stations unchecked input r
        → TellsTexts asked limits file stated r
    of_input (Ended table) e r h = of_bytes table e r h
    of_input (BrokeOff bytes) e r (inl is) = rw is (bytes, e, refl)
    of_input (BrokeOff bytes) e r (inr is) = rw is refl
    of_input RanPast e r (inl is) = rw is (e, refl)
    of_input RanPast e r (inr is) = rw is refl

    -- What is answered of stations and of what comes of the table's reader is answered of the file.
    pub told_of_table : (r : Result NotedText StationRefusal)
        → IsOfInput asked limits stations unchecked (input_within LONGEST_TABLES stated) r
        → TellsTexts asked limits file stated r
    told_of_table r h = of_input (input_within LONGEST_TABLES stated) refl r h

module _ (asked : PartAsked) (limits : ResultLimits) (stations : List SurveyedStation)
    (unchecked : ℕ) where
  -- How a refusal of the bytes leaves the field file's reader,
  gsi_by_lines : (table : List ℕ) (stray : Option ℕ) (refused : StationRefusal) (gsi : ReaderChange)
      → IsReadOut gsi
      → IsWhyOfLines asked limits stations unchecked (lines_of table) stray refused
      → IsLeftAs (field_file_left refused.refusal.fault) gsi
  gsi_by_lines table (Some number) refused gsi out is = rw is out
  gsi_by_lines table None refused gsi out first =
      let why = first.at.refuses in
      rw why.told (file_left_by (lines_of table) first.its.station.name gsi out why.fault
      (no_file_part limits table asked first.its why.fault why.lacks))

  table_by_lines : (table : List ℕ) (stray : Option ℕ) (refused : StationRefusal)
      (reader : ReaderChange) → IsReadOut reader
      → IsWhyOfLines asked limits stations unchecked (lines_of table) stray refused
      → IsLeftAs (table_left refused.refusal.fault) reader
  table_by_lines table (Some number) refused reader out is = rw is out
  table_by_lines table None refused reader out first =
      let why = first.at.refuses in
      rw why.told (table_left_by (lines_of table) first.its.station.name reader out asked limits
      first.its table why.fault why.lacks)

  gsi_by_input : (input : Input) (refused : StationRefusal) (gsi : ReaderChange) → IsReadOut gsi
      → IsOfInput asked limits stations unchecked input (Err refused)
      → IsLeftAs (field_file_left refused.refusal.fault) gsi
  gsi_by_input (Ended table) refused gsi out (inl is) = rw is out.unfailed
  gsi_by_input (Ended table) refused gsi out (inr h) =
      gsi_by_lines table (first_stray stations (lines_of table)) refused gsi out h
  gsi_by_input (BrokeOff bytes) refused gsi out (inl is) = let e : refused ≡ of_no_one TableRead = cc in rw e out
  gsi_by_input (BrokeOff bytes) refused gsi out (inr is) = let e : refused ≡ of_no_one Memory = cc in rw e out.unfailed
  gsi_by_input RanPast refused gsi out (inl is) = let e : refused ≡ of_no_one (Table TooLong) = cc in rw e out
  gsi_by_input RanPast refused gsi out (inr is) = let e : refused ≡ of_no_one Memory = cc in rw e out.unfailed

  pub gsi_left : (input : Input) (r : Result NotedText StationRefusal) (gsi : ReaderChange)
      → IsReadOut gsi → IsOfInput asked limits stations unchecked input r
      → Leaves field_file_left (fault_of r) gsi
  gsi_left input (Ok told) gsi out h = out
  gsi_left input (Err refused) gsi out h = gsi_by_input input refused gsi out h

  -- and the table's.
  pub bytes_left : (table : List ℕ) (r : Result NotedText StationRefusal) (reader : ReaderChange)
      → IsReadOut reader → IsOfBytes asked limits stations unchecked table r
      → Leaves table_left (fault_of r) reader
  bytes_left table (Ok told) reader out h = out
  bytes_left table (Err refused) reader out (inl is) = rw is out.unfailed
  bytes_left table (Err refused) reader out (inr h) =
      table_by_lines table (first_stray stations (lines_of table)) refused reader out h

  -- What is answered of stations and of the lines of a table is answered of its bytes.
  pub of_lines : (table : List ℕ) (lines : List (List ℕ)) → lines ≡ lines_of table
      → first_stray stations lines ≡ None → (r : Result NotedText StationRefusal)
      → MatchResult r
      (λ told. IsOneText (λ its. SaysPart asked limits its lines) limits.residual
      (arrangement_of asked.text) stations told.text.items)
      (IsWhyNoText (λ its. SaysPart asked limits its lines)
      (λ its. RefusesPart asked limits its lines) limits.residual stations)
      → IfOk r (λ told. AreNotes (IsPartNote asked.form lines) stations told.notes.items)
      → IsOfBytes asked limits stations unchecked table r
  of_lines table lines is none (Ok told) one noted =
      let same : first_stray stations (lines_of table) ≡ None =
      ap (first_stray stations) (sym is) ∙ none in (
        same,
        subst (λ ls. IsOneText (λ its. SaysPart asked limits its ls) limits.residual
            (arrangement_of asked.text) stations told.text.items) is one,
        subst (λ ls. AreNotes (IsPartNote asked.form ls) stations told.notes.items) is noted,
      )
  of_lines table lines is none (Err refused) (inl memory) noted = inl memory
  of_lines table lines is none (Err refused) (inr first) noted =
      let same : first_stray stations (lines_of table) ≡ None =
      ap (first_stray stations) (sym is) ∙ none in
      inr (rw same (subst (λ ls. IsFirstAt (λ its. SaysPart asked limits its ls)
      (λ its. RefusesPart asked limits its ls) limits.residual stations refused) is first))

  -- A line that is of no one station is the refusal of the bytes.
  pub of_stray : (table : List ℕ) (lines : List (List ℕ)) (number : ℕ) (refused : StationRefusal)
      → lines ≡ lines_of table → first_stray stations lines ≡ Some number
      → refused ≡ stray_refusal stations unchecked number
      → IsOfBytes asked limits stations unchecked table (Err refused)
  of_stray table lines number refused is stray why =
      let same : first_stray stations (lines_of table) ≡ Some number =
      ap (first_stray stations) (sym is) ∙ stray in
      inr (rw same why)

  -- Why the bytes of the table aren't had whole is why there is no text.
  pub of_failed : (fault : InputFault) (input : Input) (refused : StationRefusal)
      → refused ≡ of_no_one (of_input_fault fault) → ExplainsInput input fault
      → IsOfInput asked limits stations unchecked input (Err refused)
  of_failed input.Read input refused is why = rw why.1 (inl (ap Err is))
  of_failed input.TooLong input refused is why = rw why (inl (ap Err is))
  of_failed input.Memory (Ended table) refused is why = inl is
  of_failed input.Memory (BrokeOff bytes) refused is why = inr (ap Err is)
  of_failed input.Memory RanPast refused is why = inr (ap Err is)

-- Bytes that ended within a limit are no more than that.
within : (limit : ℕ) (t : Told) (bytes : List ℕ) (past fails : Bool)
    → nat_lt limit (length t.bytes) ≡ past
    → (if past then RanPast else (if fails then BrokeOff t.bytes else Ended t.bytes)) ≡ Ended bytes
    → length bytes ≤ limit
within limit t bytes true fails e h = cc
within limit t bytes false true e h = cc
within limit t bytes false false e h =
    let same : t.bytes ≡ bytes = cc in
    let short : length t.bytes ≤ limit = grind (arith, nat_tests, e) in
    subst (λ (b : List ℕ). length b ≤ limit) same short

pub ended_within : (limit : ℕ) (t : Told) (bytes : List ℕ) → input_within limit t ≡ Ended bytes
    → length bytes ≤ limit
ended_within limit t bytes h =
    within limit t bytes (nat_lt limit (length t.bytes)) t.fails refl h

-- A fault of the field file is why no text is answered.
pub why_of_file : (asked : PartAsked) (limits : ResultLimits) (file : FileAnswers) (stated : Told)
    (fault : Fault) → IsOfFile fault → NotesSurvey limits.faces file (Err fault)
    → IsWhyNoTexts asked limits file stated (of_no_one (of_file fault))
why_of_file asked limits file stated check.NoStation own surveyed = absurd own
why_of_file asked limits file stated check.Memory own surveyed = refl
why_of_file asked limits file stated fault own surveyed = λ name. (
  none_by_file limits file name fault own surveyed,
  unhinted_file limits file name fault own,
)
