-- From what is said of a station and the bytes of its part to what is answered of both by name.
use Rattle.std.proofs.Common.{◌≡◌, ◌<◌, ℕ, Bool, List, Option, Ok, Err, Result, arith, false}
use Rattle.std.proofs.Common.{inl, inr}
use Rattle.std.proofs.Common.{length, refl, subst, sym, true}
use Rattle.std.specs.Prelude.{if◌then◌else◌, nat_lt}
use Rattle.std.proofs.lemmas.Bool.Decides.{nat_tests}
use Rattle.adjust_kernel.specs.Stations.{StationValue}
use Rattle.book_answers.specs.Columns.{form_in_part}
use Rattle.book_answers.specs.OfStations.{HasText}
use Rattle.book_answers.specs.PartTexts.{LacksPart, LacksText, RefusesPart, SaysPart}
use Rattle.book_answers.specs.PartTexts.{SaysText, in_whole}
use Rattle.book_answers.specs.Tables.{IsRefusedPart, TellsPart, TellsText, told_part}
use Rattle.book_answers.specs.declared.part.PartAsked.{PartAsked}
use Rattle.book_answers.specs.declared.part.PartText.{PartText}
use Rattle.book_answers.specs.declared.part.PartText.TheVariants.{Comparison, Differences}
use Rattle.byte_ends.specs.Came.{IsLeftAs, IsReadOut}
use Rattle.byte_ends.specs.Input.{Ended, RanPast}
use Rattle.byte_ends.specs.Source.{ReaderChange}
use Rattle.direction_table.specs.declared.fault.TableFault.TheVariants as table
use Rattle.direction_table.specs.declared.form.TableForm.{TableForm}
use Rattle.direction_table.specs.declared.reading.TheConstants.{LONGEST_TABLE}
use Rattle.exact_adjustment.specs.LeastOf.{HasResidualsWithin}
use Rattle.gsi_file.specs.FileAnswers.{FileAnswers}
use Rattle.row_forms.specs.declared.form.RowForm.{RowForm}
use Rattle.station_book.specs.Stations.{SurveyedStation}
use Rattle.station_book.specs.declared.result_limits.ResultLimits.{ResultLimits}
use Rattle.station_check.specs.StationOfFile.{IsStationOfFile}
use Rattle.station_compare.proofs.Comparisons.{compares_by_table}
use Rattle.station_compare.proofs.Hinting.{IsOfNoFile, hinted_by_station}
use Rattle.station_compare.specs.Answers.{field_file_left, table_left}
use Rattle.station_compare.specs.Comparing.{ByInput, ByTable, IsFaultOrMemory}
use Rattle.station_compare.specs.Hints.{IsHintOf}
use Rattle.station_compare.specs.declared.agreement.Agreement.{Agreement}
use Rattle.station_compare.specs.declared.fault.CompareFault.{CompareFault}
use Rattle.station_compare.specs.declared.fault.CompareFault.TheVariants.{Adjust, Apart, File}
use Rattle.station_compare.specs.declared.fault.CompareFault.TheVariants.{Memory, Table, TableRead}
use Rattle.station_compare.specs.declared.fault.CompareFault.TheVariants.{Write}
use Rattle.station_compare.specs.declared.refusal.Refusal.{Refusal}
use Rattle.station_differences.specs.Stating.{IsDifferencesText}
use Rattle.station_differences.specs.declared.line_form.LineForm.TheVariants.{Rows}
use Rattle.station_tables.specs.Lines.{lines_of}
use Rattle.station_tables.specs.Parts.{part_of}
use Rattle.table_answers.proofs.Given.{tells_by_input}
use Rattle.table_answers.specs.OfInput.{SaysOfInput}
use Rattle.table_answers.specs.OneDifferences.{differs_of_bytes}
use Rattle.table_answers.specs.Refusing.{HasNoAnswerOf, HasNoDifferences, IsOfBytes}
use Rattle.table_answers.specs.Refusing.{RefusesDifferences, RefusesInput}
use Rattle.table_answers.specs.Saying.{SaysDifferences}

module _ (form : TableForm) (station : StationValue) (residual : ℕ) (bytes : List ℕ) where
  -- Too many bytes have no other answer.
  too_long : (within : Option ℕ) (r : Result Agreement CompareFault)
      → LONGEST_TABLE < length bytes → ByTable form station residual within bytes r
      → IsFaultOrMemory r (Table table.TooLong)
  too_long within (Ok a) past h =
      absurd (omega (arith, past, h.how_far.compared.states.short))
  too_long within (Err (Table table.TooLong)) past h = inl refl
  too_long within (Err (Table (table.Columns first second))) past h = absurd (omega (arith, past, h.0))
  too_long within (Err (Table (table.Row number kind))) past h = absurd (omega (arith, past, h.0))
  too_long within (Err (Table (table.Missing target))) past h = absurd (omega (arith, past, h.0))
  too_long within (Err (Table table.Memory)) past h = absurd h
  too_long within (Err (Adjust fault)) past h = absurd (omega (arith, past, h.states.short))
  too_long within (Err (Apart how_far)) past h =
      absurd (omega (arith, past, h.1.compared.states.short))
  too_long within (Err Memory) past h = inr refl
  too_long within (Err fault) past h = absurd h

  by_input : (is_long : Bool) → nat_lt LONGEST_TABLE (length bytes) ≡ is_long → (within : Option ℕ)
      (r : Result Agreement CompareFault) → ByTable form station residual within bytes r
      → ByInput form station residual within (if is_long then RanPast else Ended bytes) r
  by_input false e within r h = h
  by_input true e within r h = too_long within r (grind (arith, nat_tests, e)) h

  too_long_for : (fault : CompareFault) → LONGEST_TABLE < length bytes
      → HasNoDifferences form station residual bytes fault
      → IsFaultOrMemory (Err fault) (Table table.TooLong)
  too_long_for (Table table.TooLong) past h = inl refl
  too_long_for (Table (table.Columns first second)) past h = absurd (omega (arith, past, h.0))
  too_long_for (Table (table.Row number kind)) past h = absurd (omega (arith, past, h.0))
  too_long_for (Table (table.Missing target)) past h = absurd (omega (arith, past, h.0.0))
  too_long_for (Table table.Memory) past h = absurd h
  too_long_for (Adjust fault) past h = absurd (omega (arith, past, h.states.short))
  too_long_for Memory past h = inr refl
  too_long_for fault past h = absurd h

  says_input : (rows : RowForm) (text : List ℕ) (is_long : Bool)
      → nat_lt LONGEST_TABLE (length bytes) ≡ is_long
      → IsDifferencesText form (Rows rows) station bytes text
      → SaysOfInput (λ b t. IsDifferencesText form (Rows rows) station b t)
      (if is_long then RanPast else Ended bytes) text
  says_input rows text false e h = h
  says_input rows text true e h =
      let past : LONGEST_TABLE < length bytes = grind (arith, nat_tests, e) in
      absurd (omega (arith, past, h.states.short))

  refuses_input : (fault : CompareFault) (is_long : Bool)
      → nat_lt LONGEST_TABLE (length bytes) ≡ is_long
      → HasNoDifferences form station residual bytes fault
      → RefusesInput (HasNoDifferences form station residual)
      (if is_long then RanPast else Ended bytes) fault
  refuses_input fault false e h = h
  refuses_input fault true e h = too_long_for fault (grind (arith, nat_tests, e)) h

-- Where bytes are no table, nothing is answered of them, whatever is asked for.
pub lacks_table : (form : TableForm) (text : PartText) (limits : ResultLimits)
    (its : SurveyedStation) (bytes : List ℕ) (fault : CompareFault)
    → ((residual : ℕ) → HasNoAnswerOf form its.station residual bytes fault)
    → ((residual : ℕ) → HasNoDifferences form its.station residual bytes fault)
    → LacksText form text limits its bytes fault
lacks_table form (Comparison within) limits its bytes fault none also =
    none limits.residual within
lacks_table form (Differences rows) limits its bytes fault none also = also limits.residual

module _ (limits : ResultLimits) (table : List ℕ) where
  no_file : (form : TableForm) (station : StationValue) (residual : ℕ) (bytes : List ℕ)
      (within : Option ℕ) (fault : CompareFault)
      → ByTable form station residual within bytes (Err fault) → IsOfNoFile {T = ℕ} (Err fault)
  no_file form station residual bytes within (File fault) h = h
  no_file form station residual bytes within fault h = tt

  no_file_of : (fault : CompareFault) → IsOfBytes fault → IsOfNoFile {T = ℕ} (Err fault)
  no_file_of (File fault) own = absurd own
  no_file_of fault own = tt

  -- No fault of the field file comes of a part.
  no_file_text : (form : TableForm) (text : PartText) (its : SurveyedStation) (bytes : List ℕ)
      (fault : CompareFault) → LacksText form text limits its bytes fault
      → IsOfNoFile {T = ℕ} (Err fault)
  no_file_text form (Comparison within) its bytes fault lacks =
      no_file form its.station limits.residual bytes within fault lacks
  no_file_text form (Differences rows) its bytes fault lacks =
      no_file_of fault (differs_of_bytes form limits its bytes fault lacks)

  pub no_file_part : (asked : PartAsked) (its : SurveyedStation) (fault : CompareFault)
      → LacksPart asked limits its (lines_of table) fault → IsOfNoFile {T = ℕ} (Err fault)
  no_file_part asked its fault lacks =
      no_file_text (form_in_part asked.form) asked.text its
      (part_of its.station.name (lines_of table)) fault lacks

module _ (limits : ResultLimits) (file : FileAnswers) (table : List ℕ) where
  -- What is said of a station and of its part is answered of both where they alone are asked for,
  tells_text : (form : TableForm) (text : PartText) (its : SurveyedStation) (own : List ℕ)
      → IsStationOfFile limits.faces file its.station.name its
      → SaysText form text limits its (part_of its.station.name (lines_of table)) own
      → HasResidualsWithin its.station limits.residual
      → TellsText form text limits file (told_part table its.station.name) its.station.name (Ok own)
  tells_text form (Comparison within) its own station says held =
      let bytes = part_of its.station.name (lines_of table) in (
        says.0,
        compares_by_table form limits file (told_part table its.station.name) its.station.name
            within its (Ok says.0) station
            (by_input form its.station limits.residual bytes (nat_lt LONGEST_TABLE (length bytes))
            refl within (Ok says.0) says.1),
        says.2,
      )
  tells_text form (Differences rows) its own station says held =
      let bytes = part_of its.station.name (lines_of table) in
      tells_by_input (SaysDifferences form (Rows rows)) (RefusesDifferences form limits)
      (differs_of_bytes form limits) {T = List ℕ} (λ t. t) limits file
      (told_part table its.station.name) its.station.name its (Ok own) station
      (says_input form its.station limits.residual bytes rows own
      (nat_lt LONGEST_TABLE (length bytes)) refl says) held

  pub tells_part : (asked : PartAsked) (its : SurveyedStation) (own : List ℕ)
      → IsStationOfFile limits.faces file its.station.name its
      → HasText (λ s. SaysPart asked limits s (lines_of table)) limits.residual its own
      → TellsPart asked limits file table its.station.name (Ok own)
  tells_part asked its own station has =
      tells_text (form_in_part asked.form) asked.text its own station has.0 has.1

  -- and so is why nothing is.
  lacks_text : (form : TableForm) (text : PartText) (its : SurveyedStation) (fault : CompareFault)
      → IsStationOfFile limits.faces file its.station.name its
      → LacksText form text limits its (part_of its.station.name (lines_of table)) fault
      → TellsText form text limits file (told_part table its.station.name) its.station.name
      (Err fault)
  lacks_text form (Comparison within) its fault station lacks =
      let bytes = part_of its.station.name (lines_of table) in
      compares_by_table form limits file (told_part table its.station.name) its.station.name within
      its (Err fault) station
      (by_input form its.station limits.residual bytes (nat_lt LONGEST_TABLE (length bytes)) refl
      within (Err fault) lacks)
  lacks_text form (Differences rows) its fault station lacks =
      let bytes = part_of its.station.name (lines_of table) in
      tells_by_input (SaysDifferences form (Rows rows)) (RefusesDifferences form limits)
      (differs_of_bytes form limits) {T = List ℕ} (λ t. t) limits file
      (told_part table its.station.name) its.station.name its (Err fault) station
      (refuses_input form its.station limits.residual bytes fault
      (nat_lt LONGEST_TABLE (length bytes)) refl lacks) tt

  pub refuses_part : (asked : PartAsked) (its : SurveyedStation) (refusal : Refusal)
      → IsStationOfFile limits.faces file its.station.name its
      → RefusesPart asked limits its (lines_of table) refusal
      → IsRefusedPart asked limits file table its.station.name refusal
  refuses_part asked its refusal station refuses = record {
    fault = refuses.fault;
    tells = lacks_text (form_in_part asked.form) asked.text its refuses.fault station
        refuses.lacks;
    hint = subst (λ hint. IsHintOf limits file its.station.name refuses.fault hint)
        (sym refuses.hint_is)
        (hinted_by_station limits file its.station.name {T = ℕ} its (Err refuses.fault) station
        (no_file_part limits table asked its refuses.fault refuses.lacks));
    told = refuses.told;
  }

-- A fault of a part, as it is told of the whole table, leaves both readers as they were: they have
-- ended.
module _ (lines : List (List ℕ)) (name : List ℕ) (reader : ReaderChange) (out : IsReadOut reader)
  where
    pub file_left_by : (fault : CompareFault) → IsOfNoFile {T = ℕ} (Err fault)
        → IsLeftAs (field_file_left (in_whole lines name fault)) reader
    file_left_by (File fault) own = absurd own
    file_left_by (Table (table.Row row kind)) own = out
    file_left_by (Table table.TooLong) own = out
    file_left_by (Table (table.Columns first second)) own = out
    file_left_by (Table (table.Missing target)) own = out
    file_left_by (Table table.Memory) own = out
    file_left_by TableRead own = out
    file_left_by (Adjust fault) own = out
    file_left_by (Apart how_far) own = out
    file_left_by Write own = out
    file_left_by Memory own = out.unfailed

    by_table : (form : TableForm) (station : StationValue) (residual : ℕ) (bytes : List ℕ)
        (within : Option ℕ) (fault : CompareFault)
        → ByTable form station residual within bytes (Err fault)
        → IsLeftAs (table_left (in_whole lines name fault)) reader
    by_table form station residual bytes within (File fault) h = absurd h
    by_table form station residual bytes within TableRead h = absurd h
    by_table form station residual bytes within (Table (table.Row row kind)) h = out
    by_table form station residual bytes within (Table table.TooLong) h = out.unfailed
    by_table form station residual bytes within (Table (table.Columns first second)) h = out
    by_table form station residual bytes within (Table (table.Missing target)) h = out
    by_table form station residual bytes within (Table table.Memory) h = out.unfailed
    by_table form station residual bytes within (Adjust fault) h = out
    by_table form station residual bytes within (Apart how_far) h = out
    by_table form station residual bytes within Write h = absurd h
    by_table form station residual bytes within Memory h = out.unfailed

    by_differences : (form : TableForm) (limits : ResultLimits) (its : SurveyedStation)
        (bytes : List ℕ) (fault : CompareFault) → RefusesDifferences form limits its bytes fault
        → IsLeftAs (table_left (in_whole lines name fault)) reader
    by_differences form limits its bytes (Table (table.Row row kind)) h = out
    by_differences form limits its bytes (Table table.TooLong) h = out.unfailed
    by_differences form limits its bytes (Table (table.Columns first second)) h = out
    by_differences form limits its bytes (Table (table.Missing target)) h = out
    by_differences form limits its bytes (Table table.Memory) h = out.unfailed
    by_differences form limits its bytes (Adjust fault) h = out
    by_differences form limits its bytes Memory h = out.unfailed
    by_differences form limits its bytes fault h = absurd h

    by_text : (form : TableForm) (text : PartText) (limits : ResultLimits) (its : SurveyedStation)
        (bytes : List ℕ) (fault : CompareFault) → LacksText form text limits its bytes fault
        → IsLeftAs (table_left (in_whole lines name fault)) reader
    by_text form (Comparison within) limits its bytes fault lacks =
        by_table form its.station limits.residual bytes within fault lacks
    by_text form (Differences rows) limits its bytes fault lacks =
        by_differences form limits its bytes fault lacks

    pub table_left_by : (asked : PartAsked) (limits : ResultLimits) (its : SurveyedStation)
        (table : List ℕ) (fault : CompareFault) → LacksPart asked limits its (lines_of table) fault
        → IsLeftAs (table_left (in_whole lines name fault)) reader
    table_left_by asked limits its table fault lacks =
        by_text (form_in_part asked.form) asked.text limits its
        (part_of its.station.name (lines_of table)) fault lacks
