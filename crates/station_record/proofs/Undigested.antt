-- What is promised of digesting readers, of the readers that they ask.
use Rattle.std.proofs.Common.{◌≡◌, ℕ, List, [], Option, Bool, Result, Ok, Err, ap, refl}
use Rattle.std.specs.Prelude.{MatchResult, ⊤}
use Rattle.adjust_kernel.specs.declared.accepted.Accepted.{Accepted}
use Rattle.byte_digests.proofs.Histories.{digested}
use Rattle.byte_digests.specs.Digesting.{reader_of, hasher_of, histories}
use Rattle.byte_digests.specs.declared.digesting.Digesting.{Digesting}
use Rattle.byte_ends.specs.Came.{Leaves, Leaving}
use Rattle.byte_ends.specs.Sink.{WriterChange}
use Rattle.byte_ends.specs.Source.{Told, ReaderChange, reader_change}
use Rattle.direction_table.specs.declared.form.TableForm.{TableForm}
use Rattle.gsi_file.specs.FileAnswers.{FileAnswers}
use Rattle.instrument_words.proofs.Alike.{leaves_too}
use Rattle.sha2.specs.Hashers.{Holds256}
use Rattle.sha2.specs.Sha256.{sha256}
use Rattle.station_answers.specs.Answers.{HasNone, StatesOf}
use Rattle.station_book.specs.Limits.{FaceLimits}
use Rattle.station_book.specs.Stations.{SurveyedStation}
use Rattle.station_book.specs.declared.result_limits.ResultLimits.{ResultLimits}
use Rattle.station_check.specs.Answerable.{file_left}
use Rattle.station_check.specs.Promise.{IsAnswer}
use Rattle.station_check.specs.RunEndings.{PrintsAnswer}
use Rattle.station_check.specs.SheetInput.{sheet_left}
use Rattle.station_check.specs.VerdictLines.{accepted_line}
use Rattle.station_check.specs.declared.fault.Fault.{Fault}
use Rattle.station_check.specs.declared.fault.Fault.TheVariants as check
use Rattle.station_compare.specs.Answers.{field_file_left, table_left}
use Rattle.station_compare.specs.Hints.{IsHinted}
use Rattle.station_compare.specs.Refusals.{by_fault, unhinted}
use Rattle.station_compare.specs.Runs.{ReadsFieldFile}
use Rattle.station_compare.specs.declared.fault.CompareFault.{CompareFault}
use Rattle.station_compare.specs.declared.fault.CompareFault.TheVariants.{Memory, Write}
use Rattle.station_compare.specs.declared.refusal.Refusal.{Refusal}
use Rattle.station_record.specs.Made.{IsMadeOf}
use Rattle.station_record.specs.Parts.{ArePartsOf}
use Rattle.station_record.specs.Recorded.{IsRecordedBoth, IsRecordedCheck, IsRecordedOf}
use Rattle.station_record.specs.Recorded.{recorded_text}
use Rattle.table_answers.specs.Answers.{ReadsBoth, StatesBeside}
use Rattle.table_answers.specs.Noting.{Noting}
use Rattle.table_answers.specs.Refusing.{HasNoAnswer, RefusesComparison}
use Rattle.table_answers.specs.Runs.{PrintsBeside}
use Rattle.table_answers.specs.declared.noted.Noted.{Noted}

-- What is printed of a text is so of another, of which the same bytes are made.
printed_alike : {T A : Type 0} (items : T → List ℕ) (make : List ℕ → List ℕ) (whole : T)
    (own : List ℕ) → items whole ≡ make own → (r : Result A Refusal) (out : WriterChange)
    → PrintsAnswer items (unhinted Write) (Ok whole) r out
    → PrintsAnswer make (unhinted Write) (Ok own) r out
printed_alike items make whole own same (Ok x) out p = rw same at p
printed_alike items make whole own same (Err fault) out p = rw same at p

module _ {R : Type 0} (told : R → Option Told) (failed : R → Bool)
    (gave : R → ℕ → List ℕ → Type 0) (d d' : Digesting R)
  where
    -- What happened to a digesting reader,
    abbrev pub digesting : ReaderChange
    digesting =
        reader_change (λ d. told (reader_of d)) (λ d. failed (reader_of d)) (histories gave) d d'

    -- and to the reader that it asks.
    abbrev pub asked : ReaderChange
    asked = reader_change told failed gave (reader_of d) (reader_of d')

    -- However an answer leaves the one, it leaves the other.
    pub left_too : {A F : Type 0} (left_at : F → Leaving) (r : Result A F)
        → Leaves left_at r digesting → Leaves left_at r asked
    left_too left_at r = leaves_too left_at r digesting asked (record {
      told = refl;
      failed = refl;
      failed' = refl;
      unasked = λ same. ap reader_of same;
    })

    -- What was printed of a text that was made with a digest is a recorded run, where the digest is
    -- that of what the reader gave.
    pub recorded_of : {T A : Type 0} (items : T → List ℕ)
        (Says : FileAnswers → SurveyedStation → List ℕ → Type 0) (print : List ℕ → List ℕ → List ℕ)
        (limits : ResultLimits) (station : List ℕ) (answer all : Result T Refusal)
        → ReadsFieldFile digesting (by_fault answer) (λ file. MatchResult (by_fault answer)
        (λ text. StatesOf (Says file) limits file station (items text))
        (HasNone limits file station) × IsHinted limits file station answer)
        → Holds256 (hasher_of d) [] → (digest : List ℕ)
        → ((given : List ℕ) → Holds256 (hasher_of d') given → digest ≡ sha256 given)
        → IsMadeOf items (print digest) answer all → (r : Result A Refusal) (out : WriterChange)
        → PrintsAnswer items (unhinted Write) all r out
        → IsRecordedOf Says print limits asked station r out
    recorded_of items Says print limits station (Ok own) (Ok whole) a none digest of_given made r out
        p =
        let held = digested told failed gave d d' a.came.given none a.came.by_reads in record {
          answer = Ok (items own);
          tells = record {
            came = record { given = a.came.given; by_reads = held.0; so = a.came.so };
            left = left_too field_file_left (Ok own) a.left;
          };
          printed = printed_alike items (print (sha256 a.came.given)) whole (items own)
              (rw (of_given a.came.given held.1) at made) r out p;
        }
    recorded_of items Says print limits station (Ok own) (Err refusal) a none digest of_given made r
        out p =
        let held = digested told failed gave d d' a.came.given none a.came.by_reads in record {
          answer = Err (unhinted Memory);
          tells = record {
            came = record {
              given = a.came.given;
              by_reads = held.0;
              so = λ left may. (tt, refl);
            };
            left = a.left.unfailed;
          };
          printed = rw made at p;
        }
    recorded_of items Says print limits station (Err refusal) all a none digest of_given made r out p =
        let held = digested told failed gave d d' a.came.given none a.came.by_reads in record {
          answer = Err refusal;
          tells = record {
            came = record { given = a.came.given; by_reads = held.0; so = a.came.so };
            left = left_too field_file_left (by_fault {A = ⊤} (Err refusal)) a.left;
          };
          printed = rw made at p;
        }

-- The same of two digesting readers that held nothing, and whose digests these are.
module _ {R Q : Type 0} (told : R → Option Told) (failed : R → Bool)
    (gave : R → ℕ → List ℕ → Type 0) (told_q : Q → Option Told) (failed_q : Q → Bool)
    (gave_q : Q → ℕ → List ℕ → Type 0) (d d' : Digesting R) (e e' : Digesting Q)
    (none : Holds256 (hasher_of d) []) (none_q : Holds256 (hasher_of e) []) (first second : List ℕ)
    (of_given : (given : List ℕ) → Holds256 (hasher_of d') given → first ≡ sha256 given)
    (of_given_q : (given : List ℕ) → Holds256 (hasher_of e') given → second ≡ sha256 given)
  where
    -- What happened to both, and to the readers that they ask.
    abbrev gsi : ReaderChange
    gsi = digesting told failed gave d d'

    abbrev other : ReaderChange
    other = digesting told_q failed_q gave_q e e'

    abbrev gsi_asked : ReaderChange
    gsi_asked = asked told failed gave d d'

    abbrev other_asked : ReaderChange
    other_asked = asked told_q failed_q gave_q e e'

    -- What was printed of a verdict with both digests is a recorded check.
    pub recorded_check : {A : Type 0} (limits : FaceLimits) (limit : Option ℕ)
        (gsi_name sheet_name : List ℕ) (verdict : Result Accepted Fault)
        → IsAnswer limits limit gsi other verdict → (r : Result A Fault) (out : WriterChange)
        → PrintsAnswer (λ x. recorded_text (accepted_line x) first gsi_name second sheet_name)
        check.Write verdict r out
        → IsRecordedCheck limits limit gsi_asked gsi_name other_asked sheet_name r out
    recorded_check limits limit gsi_name sheet_name verdict a r out p =
        let held = digested told failed gave d d' a.gsi_bytes none a.gsi_reads in
        let held_q = digested told_q failed_q gave_q e e' a.sheet_bytes none_q a.sheet_reads in record {
          verdict = verdict;
          answers = record {
            gsi_bytes = a.gsi_bytes;
            gsi_reads = held.0;
            sheet_bytes = a.sheet_bytes;
            sheet_reads = held_q.0;
            promise = a.promise;
            of_check = a.of_check;
            gsi_reader = left_too told failed gave d d' file_left verdict a.gsi_reader;
            sheet_reader = left_too told_q failed_q gave_q e e' sheet_left verdict a.sheet_reader;
          };
          printed = rw (of_given a.gsi_bytes held.1, of_given_q a.sheet_bytes held_q.1) at p;
        }

    -- What is so of both is so of the readers that they ask, of the same bytes.
    abbrev both_asked : {A B : Type 0} {r : Result A CompareFault} {s : Result B CompareFault}
        {So So' : FileAnswers → Told → Type 0} → ReadsBoth gsi other r So
        → ((file : FileAnswers) (stated : Told) → So file stated → So' file stated)
        → Leaves field_file_left s gsi_asked → Leaves table_left s other_asked
        → ReadsBoth gsi_asked other_asked s So'
    both_asked a so gsi_left other_left = record {
      gsi_bytes = a.gsi_bytes;
      gsi_reads = (digested told failed gave d d' a.gsi_bytes none a.gsi_reads).0;
      table_bytes = a.table_bytes;
      table_reads = (digested told_q failed_q gave_q e e' a.table_bytes none_q a.table_reads).0;
      so = λ left table_left may table_may. so _ _ (a.so left table_left may table_may);
      gsi_reader = gsi_left;
      table_reader = other_left;
    }

    -- What was printed of an answer of both with the digests is a recorded run, and so is its note.
    pub recorded_both : {T V A : Type 0} (value : T → V)
        (Says : FileAnswers → SurveyedStation → List ℕ → V → Type 0)
        (Prints : List ℕ → List ℕ → V → Result A CompareFault → WriterChange → Type 0)
        (Made : T → T → Type 0) (Own : T → Result A CompareFault → WriterChange → Type 0)
        (form : TableForm) (limits : ResultLimits) (station : List ℕ)
        (noted : Result (Noted T) Refusal) (whole : Result T Refusal) (note : List ℕ)
        → ReadsBoth gsi other (by_fault noted) (λ file stated. MatchResult (by_fault noted)
        (λ noted. StatesBeside (Noting (Says file) form) limits file stated station
        (value noted.answer, noted.note.items))
        (HasNoAnswer (RefusesComparison form limits) limits file stated station)
        × IsHinted limits file station noted)
        → ArePartsOf Made noted whole note → (r : Result A Refusal) (out : WriterChange)
        → PrintsBeside Own whole r out
        → ((own whole : T) → Made own whole → Own whole (by_fault r) out
        → Prints first second (value own) (by_fault r) out)
        → IsRecordedBoth Says Prints form limits gsi_asked other_asked station r note out
    recorded_both value Says Prints Made Own form limits station (Ok noted) (Ok whole) note a parts r
        out p of_made =
        let held = digested told failed gave d d' a.gsi_bytes none a.gsi_reads in
        let held_q = digested told_q failed_q gave_q e e' a.table_bytes none_q a.table_reads in record {
          answer = Ok (value noted.answer, noted.note.items);
          tells = both_asked a (λ file stated h. h)
              (left_too told failed gave d d' field_file_left (Ok noted) a.gsi_reader)
              (left_too told_q failed_q gave_q e e' table_left (Ok noted) a.table_reader);
          printed = (
            rw (of_given a.gsi_bytes held.1, of_given_q a.table_bytes held_q.1)
                at (of_made noted.answer whole parts.0 p.0),
            p.1,
          );
          noted = parts.1;
        }
    recorded_both value Says Prints Made Own form limits station (Ok noted) (Err refusal) note a parts r
        out p of_made = record {
          answer = Err (unhinted Memory);
          tells = both_asked a (λ file stated h. (tt, refl)) a.gsi_reader.unfailed
              a.table_reader.unfailed;
          printed = rw parts.0 at p;
          noted = parts.1;
        }
    recorded_both value Says Prints Made Own form limits station (Err refusal) whole note a parts r out
        p of_made = let failed_so = by_fault {A = ⊤} (Err refusal) in record {
          answer = Err refusal;
          tells = both_asked a (λ file stated h. h)
              (left_too told failed gave d d' field_file_left failed_so a.gsi_reader)
              (left_too told_q failed_q gave_q e e' table_left failed_so a.table_reader);
          printed = rw parts.0 at p;
          noted = parts.1;
        }
