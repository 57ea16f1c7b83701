-- From an answer, and the bytes that were kept for it, to what is said of their file.
use Rattle.std.proofs.Common.{◌≡◌, ◌∙◌, ℕ, List, [], Option, Some, None, Bool, Result, Ok, Err}
use Rattle.std.proofs.Common.{false}
use Rattle.std.proofs.Common.{ap, refl, reverse, subst, suc, sym}
use Rattle.std.specs.Prelude.{IfSome, MatchResult}
use Rattle.std.proofs.lemmas.List.{append-nil}
use Rattle.book_answers.specs.Answers.{IsRefusedOfAll, StatesAll}
use Rattle.book_answers.specs.Refusals.{fault_of, of_no_one}
use Rattle.book_answers.specs.declared.arrangement.Arrangement.{Arrangement}
use Rattle.book_answers.specs.declared.refusal.StationRefusal.{StationRefusal}
use Rattle.byte_ends.specs.Came.{Leaves}
use Rattle.byte_ends.specs.Source.{HasGiven, MayGive, ReaderChange, Told, ended, given_then}
use Rattle.byte_ends.specs.Source.{reader_change}
use Rattle.gsi_file.specs.FileAnswers.{FileAnswers, file_answers}
use Rattle.gsi_word.specs.Blocks.{GsiBlock}
use Rattle.instrument_words.proofs.Alike.{leaves_too}
use Rattle.instrument_reports.specs.Answers.{Putting, SaysTableReportOf, SaysWith, TellsInstrument}
use Rattle.instrument_reports.specs.Printing.{IsNotedOf}
use Rattle.instrument_reports.specs.Telling.{IsAnswerWith, IsWith}
use Rattle.instrument_words.specs.Below.{on_pages}
use Rattle.instrument_words.specs.Instrument.{AreBlocksOf}
use Rattle.instrument_words.specs.Rereading.{HasKept, histories, kept_by, reader_of}
use Rattle.instrument_words.specs.declared.rereading.Rereading.{Rereading}
use Rattle.station_answers.specs.Answers.{HasNone, StatesOf}
use Rattle.station_book.specs.Stations.{SurveyedStation}
use Rattle.station_book.specs.declared.result_limits.ResultLimits.{ResultLimits}
use Rattle.station_check.proofs.Acceptance.{came_well}
use Rattle.station_compare.specs.Answers.{field_file_left, table_left}
use Rattle.station_compare.specs.Hints.{IsHinted}
use Rattle.station_compare.specs.Refusals.{by_fault, unhinted}
use Rattle.station_compare.specs.Runs.{ReadsFieldFile}
use Rattle.station_compare.specs.declared.fault.CompareFault.{CompareFault}
use Rattle.station_compare.specs.declared.fault.CompareFault.TheVariants.{Memory}
use Rattle.station_compare.specs.declared.how_far.HowFar.{HowFar}
use Rattle.station_compare.specs.declared.refusal.Refusal.{Refusal}
use Rattle.table_answers.specs.Answers.{ReadsBoth, StatesBeside}
use Rattle.table_answers.specs.Noting.{IsNote, Noting}
use Rattle.table_answers.specs.Refusing.{HasNoAnswer, RefusesComparison}
use Rattle.table_answers.specs.Saying.{SaysTableReport}
use Rattle.table_answers.specs.declared.noted.Noted.{Noted}
use Rattle.table_report.specs.Stating.{ReportAsked}
use Rattle.table_report.specs.Values.{value_of}
use Rattle.table_report.specs.declared.beside.TableReport.{TableReport}

-- What a rereading source gave, the reader that it asks gave, and it has kept it.
pub kept : {R : Type 0} (told : R → Option Told) (failed : R → Bool)
    (gave : R → ℕ → List ℕ → Type 0) (old new : Rereading R) (bytes : List ℕ)
    → kept_by old ≡ Some []
    → HasGiven (reader_change (λ s. told (reader_of s)) (λ s. failed (reader_of s))
    (histories gave) old new) bytes
    → HasGiven (reader_change told failed gave (reader_of old) (reader_of new)) bytes
    × HasKept new bytes
kept told failed gave old new bytes none p = (
  record { adds = λ history given h. p.adds (suc history) given h; might = p.might },
  p.adds 0 [] (rw none refl),
)

-- Of bytes that were kept whole, a text with what they recorded tells it of their file.
pub tells : (put : Putting) (IsOwn : List ℕ → Type 0) (own whole given : List ℕ)
    (bytes : Option (List ℕ)) (left : Told) (blocks : List GsiBlock) → IsOwn own
    → IfSome bytes (λ b. given ≡ b) → IsWith put bytes own whole → left ≡ ended
    → AreBlocksOf (file_answers (given_then given left)) blocks
    → TellsInstrument put (file_answers (given_then given left)) IsOwn whole
tells put IsOwn own whole given None left blocks is_own same with over are = absurd with
tells put IsOwn own whole given (Some bytes) left blocks is_own same with over are = record {
  own = own;
  is_own = is_own;
  blocks = blocks;
  of_file = are;
  text_is = with blocks (subst (λ (t : Told). AreBlocksOf (file_answers t) blocks)
      (ap (λ (l : Told). given_then given l) over
      ∙ (λ i. let t : Told = record { bytes = (append-nil given ∙ same) i; fails = false } in t))
      are);
}

-- What came of a field file for one answer came of it for another, which leaves its reader so too.
pub retold : {A B : Type 0} {gsi : ReaderChange} {r : Result A CompareFault}
    {s : Result B CompareFault} {So So' : FileAnswers → Type 0} (a : ReadsFieldFile gsi r So)
    → ((left : Told) → MayGive gsi.told' left → So (file_answers (given_then a.came.given left))
    → So' (file_answers (given_then a.came.given left)))
    → (Leaves field_file_left r gsi → Leaves field_file_left s gsi) → ReadsFieldFile gsi s So'
retold a so leaves = record {
  came = record {
    given = a.came.given;
    by_reads = a.came.by_reads;
    so = λ left may. so left may (a.came.so left may);
  };
  left = leaves a.left;
}

-- The same of a field file and of a table.
pub both_retold : {A B : Type 0} {gsi table : ReaderChange} {r : Result A CompareFault}
    {s : Result B CompareFault} {So So' : FileAnswers → Told → Type 0}
    (a : ReadsBoth gsi table r So)
    → ((left stated : Told) → MayGive gsi.told' left
    → So (file_answers (given_then a.gsi_bytes left)) stated
    → So' (file_answers (given_then a.gsi_bytes left)) stated)
    → (Leaves field_file_left r gsi → Leaves field_file_left s gsi)
    → (Leaves table_left r table → Leaves table_left s table) → ReadsBoth gsi table s So'
both_retold a so leaves table_leaves = record {
  gsi_bytes = a.gsi_bytes;
  gsi_reads = a.gsi_reads;
  table_bytes = a.table_bytes;
  table_reads = a.table_reads;
  so = λ left table_left may table_may.
      so left (given_then a.table_bytes table_left) may (a.so left table_left may table_may);
  gsi_reader = leaves a.gsi_reader;
  table_reader = table_leaves a.table_reader;
}

-- What is so of a rereading source of a field file is so of the reader that it asks, of the same
-- bytes.
abbrev pub field_file_of : {R A : Type 0} (told : R → Option Told) (failed : R → Bool)
    (gave : R → ℕ → List ℕ → Type 0) (d d' : Rereading R) (r : Result A CompareFault)
    (So : FileAnswers → Type 0) → kept_by d ≡ Some []
    → ReadsFieldFile (reader_change (λ s. told (reader_of s)) (λ s. failed (reader_of s))
    (histories gave) d d') r So
    → ReadsFieldFile (reader_change told failed gave (reader_of d) (reader_of d')) r So
field_file_of told failed gave d d' r So none a = record {
  came = record {
    given = a.came.given;
    by_reads = (kept told failed gave d d' a.came.given none a.came.by_reads).0;
    so = a.came.so;
  };
  left = leaves_too field_file_left r _ _ (record {
    told = refl;
    failed = refl;
    failed' = refl;
    unasked = λ same. ap reader_of same;
  }) a.left;
}

-- What is so of a rereading source of a field file and of a table is so of the reader that it asks,
-- of the same bytes.
abbrev pub both_of : {R A : Type 0} (told : R → Option Told) (failed : R → Bool)
    (gave : R → ℕ → List ℕ → Type 0) (d d' : Rereading R) (table : ReaderChange)
    (r : Result A CompareFault) (So : FileAnswers → Told → Type 0) → kept_by d ≡ Some []
    → ReadsBoth (reader_change (λ s. told (reader_of s)) (λ s. failed (reader_of s))
    (histories gave) d d') table r So
    → ReadsBoth (reader_change told failed gave (reader_of d) (reader_of d')) table r So
both_of told failed gave d d' table r So none a = record {
  gsi_bytes = a.gsi_bytes;
  gsi_reads = (kept told failed gave d d' a.gsi_bytes none a.gsi_reads).0;
  table_bytes = a.table_bytes;
  table_reads = a.table_reads;
  so = a.so;
  gsi_reader = leaves_too field_file_left r _ _ (record {
    told = refl;
    failed = refl;
    failed' = refl;
    unasked = λ same. ap reader_of same;
  }) a.gsi_reader;
  table_reader = a.table_reader;
}

-- What was answered, and then told with what the bytes recorded, where those that came were kept.
pub answered : {T : Type 0} (items : T → List ℕ) (put : Putting)
    (Says : SurveyedStation → List ℕ → Type 0) (limits : ResultLimits) (name : List ℕ)
    (gsi : ReaderChange) (answer r : Result T Refusal) (bytes : Option (List ℕ))
    → (a : ReadsFieldFile gsi (by_fault answer) (λ file. MatchResult (by_fault answer)
    (λ text. StatesOf Says limits file name (items text)) (HasNone limits file name)
    × IsHinted limits file name answer))
    → IfSome bytes (λ b. a.came.given ≡ b)
    → IsAnswerWith put items (λ e. e ≡ unhinted Memory) bytes answer r
    → ReadsFieldFile gsi (by_fault r) (λ file. MatchResult (by_fault r)
    (λ text. StatesOf (SaysWith put Says file) limits file name (items text))
    (HasNone limits file name)
    × IsHinted limits file name r)
answered items put Says limits name gsi (Ok own) (Ok whole) bytes a same with =
    retold a (λ left may so. let st = so.0 in (
      record {
        its = st.its;
        station = st.station;
        held = st.held;
        said = tells put (Says st.its) (items own) (items whole) a.came.given bytes left
            (reverse st.station.blocks) st.said same with (rw a.left.ended at may)
            (record { ended = st.station.ended; lines = st.station.lines });
      },
      tt,
    )) (λ l. l)
answered items put Says limits name gsi (Ok own) (Err refusal) bytes a same with =
    rw with (retold a (λ left may so. (tt, refl)) (λ l. l.unfailed))
answered items put Says limits name gsi (Err refusal) r bytes a same with =
    rw with (retold a (λ left may so. so) (λ l. l))

-- The same of what is answered of all stations.
pub all_answered : {T : Type 0} (items : T → List ℕ) (put : Putting)
    (Says : SurveyedStation → List ℕ → Type 0) (limits : ResultLimits) (arrangement : Arrangement)
    (gsi : ReaderChange) (answer r : Result T StationRefusal) (bytes : Option (List ℕ))
    → (a : ReadsFieldFile gsi (fault_of answer) (λ file. MatchResult answer
    (λ text. StatesAll Says limits arrangement file (items text))
    (IsRefusedOfAll Says limits file)))
    → IfSome bytes (λ b. a.came.given ≡ b)
    → IsAnswerWith put items (λ e. e ≡ of_no_one Memory) bytes answer r
    → ReadsFieldFile gsi (fault_of r) (λ file. MatchResult r
    (λ text. TellsInstrument put file (StatesAll Says limits arrangement file) (items text))
    (IsRefusedOfAll Says limits file))
all_answered items put Says limits arrangement gsi (Ok own) (Ok whole) bytes a same with =
    retold a (λ left may st.
    let file = file_answers (given_then a.came.given left) in
    let well = came_well limits.faces [] file.lines file.last st.survey.blocks tt st.survey.file in
    tells put (StatesAll Says limits arrangement file) (items own) (items whole) a.came.given bytes
    left well.more st same with (rw a.left.ended at may)
    (record { ended = well.ended; lines = well.each })) (λ l. l)
all_answered items put Says limits arrangement gsi (Ok own) (Err refused) bytes a same with =
    rw with (retold a (λ left may so. λ name. (tt, refl)) (λ l. l.unfailed))
all_answered items put Says limits arrangement gsi (Err refused) r bytes a same with =
    rw with (retold a (λ left may so. so) (λ l. l))

-- The same of the report with a table.
pub table_answered : (asked : ReportAsked) (limits : ResultLimits) (name : List ℕ)
    (gsi table : ReaderChange) (answer r : Result (Noted TableReport) Refusal)
    (bytes : Option (List ℕ))
    → (a : ReadsBoth gsi table (by_fault answer) (λ file stated. MatchResult (by_fault answer)
    (λ noted. StatesBeside (Noting (SaysTableReport asked limits) asked.form) limits file stated
    name (value_of noted.answer, noted.note.items))
    (HasNoAnswer (RefusesComparison asked.form limits) limits file stated name)
    × IsHinted limits file name answer))
    → IfSome bytes (λ b. a.gsi_bytes ≡ b)
    → IsNotedOf (IsWith (on_pages asked.head.notes.language) bytes) answer r
    → ReadsBoth gsi table (by_fault r) (λ file stated. MatchResult (by_fault r)
    (λ noted. StatesBeside (Noting (SaysTableReportOf file asked limits) asked.form) limits file
    stated name (value_of noted.answer, noted.note.items))
    (HasNoAnswer (RefusesComparison asked.form limits) limits file stated name)
    × IsHinted limits file name r)
table_answered asked limits name gsi table (Ok own) (Ok whole) bytes a same with =
    both_retold a (λ left stated may so.
    let st = so.0 in
    let IsOwn : Option HowFar → List ℕ → Type 0 = λ beyond own.
    SaysTableReport asked limits st.its st.bytes (record { text = own; beyond = beyond }) in (
      record {
        its = st.its;
        station = st.station;
        bytes = st.bytes;
        whole = st.whole;
        held = st.held;
        said = (
          tells (on_pages asked.head.notes.language) (IsOwn whole.answer.beyond)
              own.answer.text.items whole.answer.text.items a.gsi_bytes bytes left
              (reverse st.station.blocks)
              (subst (λ (b : Option HowFar). IsOwn b own.answer.text.items) (sym with.1) st.said.0)
              same with.0 (rw a.gsi_reader.ended at may)
              (record { ended = st.station.ended; lines = st.station.lines }),
          subst (IsNote asked.form st.its.station st.bytes) (sym with.2) st.said.1,
        );
      },
      tt,
    )) (λ l. l) (λ l. l)
table_answered asked limits name gsi table (Ok own) (Err refusal) bytes a same with =
    rw with (both_retold a (λ left stated may so. (tt, refl)) (λ l. l.unfailed) (λ l. l.unfailed))
table_answered asked limits name gsi table (Err refusal) r bytes a same with =
    rw with (both_retold a (λ left stated may so. so) (λ l. l) (λ l. l))
