-- What the calls of the comparison promise, from what an answer is.
use Rattle.std.proofs.Common.{ℕ, List, Option, Result, Ok, Err, subst, sym}
use Rattle.std.specs.Prelude.{MatchResult}
use Rattle.byte_ends.specs.Input.{BrokeOff, Ended, Input, RanPast}
use Rattle.byte_ends.specs.Sink.{WriterChange}
use Rattle.byte_ends.specs.Source.{ReaderChange, Told}
use Rattle.direction_table.specs.declared.form.TableForm.{TableForm}
use Rattle.gsi_file.specs.FileAnswers.{FileAnswers}
use Rattle.station_book.specs.Stations.{SurveyedStation}
use Rattle.station_book.specs.declared.result_limits.ResultLimits.{ResultLimits}
use Rattle.station_check.specs.declared.fault.Fault.TheVariants.{NoStation}
use Rattle.station_compare.proofs.Comparisons.{compares_by_table}
use Rattle.station_compare.specs.Answers.{Compares}
use Rattle.station_compare.specs.Comparing.{ByInput}
use Rattle.station_compare.specs.Hints.{IsHinted}
use Rattle.station_compare.specs.Refusals.{by_fault}
use Rattle.station_compare.specs.declared.fault.CompareFault.{CompareFault}
use Rattle.station_compare.specs.declared.fault.CompareFault.TheVariants.{File, Memory}
use Rattle.station_compare.specs.declared.refusal.Refusal.{Refusal}
use Rattle.table_answers.proofs.Given.{so_alone}
use Rattle.table_answers.specs.Answers.{ReadsBoth, StatesBeside, TellsBeside}
use Rattle.table_answers.specs.Comparisons.{IsCompareRun, IsComparison, PrintsComparison}
use Rattle.table_answers.specs.Comparisons.{SaysComparison, noted_verdict, verdict, verdict_of}
use Rattle.table_answers.specs.Noting.{Noting}
use Rattle.table_answers.specs.Refusing.{HasNoAnswer, RefusesComparison, RefusesInput}
use Rattle.table_answers.specs.Runs.{IsTableRun}
use Rattle.table_answers.specs.declared.compared.Compared.{Compared}
use Rattle.table_answers.specs.declared.noted.Noted.{Noted}
use Rattle.table_answers.specs.declared.compared.Compared.TheVariants.{Agrees, Apart}

module _ (form : TableForm) (limits : ResultLimits) (within : Option ℕ) (name : List ℕ) where
  -- What is refused of a station and a table is what the comparison answers.
  of_input : (its : SurveyedStation) (input : Input) (fault : CompareFault)
      → RefusesInput (RefusesComparison form limits its) input fault
      → ByInput form its.station limits.residual within input (Err fault)
  of_input its (Ended bytes) fault h = h within
  of_input its (BrokeOff bytes) fault h = h
  of_input its RanPast fault h = h

  pub why_not : (fault : CompareFault) (file : FileAnswers) (stated : Told)
      → HasNoAnswer (RefusesComparison form limits) limits file stated name fault
      → Compares form limits file stated name within (Err fault)
  why_not (File NoStation) file stated h = h
  why_not (File fault) file stated h = h
  why_not Memory file stated h = tt
  why_not fault file stated h =
      compares_by_table form limits file stated name within h.its (Err fault) h.station
      (of_input h.its _ fault h.by_input)

module _ (form : TableForm) (limits : ResultLimits) (within : Option ℕ) (gsi table : ReaderChange)
    (name : List ℕ) where
  -- What an answer is of which the verdict is this, and whose table has this note.
  abbrev Says : SurveyedStation → List ℕ → Compared × List ℕ → Type 0
  Says = Noting (SaysComparison form within limits) form

  -- What is said of a table that was compared is what the comparison answers.
  told : (noted : Compared × List ℕ) (file : FileAnswers) (stated : Told)
      → StatesBeside Says limits file stated name noted
      → Compares form limits file stated name within (verdict noted.0)
  told noted file stated h =
      compares_by_table form limits file stated name within h.its (verdict noted.0) h.station
      (subst (λ (i : Input). ByInput form h.its.station limits.residual within i (verdict noted.0))
      (sym h.whole) h.said.0)

  -- It leaves both readers ended, whether the table agrees or not.
  compared_so : {T : Type 0} (t : T) (compared : Compared) (note : List ℕ)
      → ReadsBoth {A = T} gsi table (Ok t) (λ file stated.
      StatesBeside Says limits file stated name (compared, note))
      → IsComparison form limits within gsi table name (verdict compared)
  compared_so t (Agrees a) note r = record {
    gsi_bytes = r.gsi_bytes;
    gsi_reads = r.gsi_reads;
    table_bytes = r.table_bytes;
    table_reads = r.table_reads;
    so = λ gsi_left table_left gsi_may table_may.
        told (Agrees a, note) _ _ (r.so gsi_left table_left gsi_may table_may);
    gsi_reader = r.gsi_reader;
    table_reader = r.table_reader;
  }
  compared_so t (Apart h) note r = record {
    gsi_bytes = r.gsi_bytes;
    gsi_reads = r.gsi_reads;
    table_bytes = r.table_bytes;
    table_reads = r.table_reads;
    so = λ gsi_left table_left gsi_may table_may.
        told (Apart h, note) _ _ (r.so gsi_left table_left gsi_may table_may);
    gsi_reader = r.gsi_reader;
    table_reader = r.table_reader;
  }

  refused_so : {T : Type 0} (fault : CompareFault)
      → ReadsBoth {A = T} gsi table (Err fault) (λ file stated.
      HasNoAnswer (RefusesComparison form limits) limits file stated name fault)
      → IsComparison form limits within gsi table name (Err fault)
  refused_so fault r = record {
    gsi_bytes = r.gsi_bytes;
    gsi_reads = r.gsi_reads;
    table_bytes = r.table_bytes;
    table_reads = r.table_reads;
    so = λ gsi_left table_left gsi_may table_may.
        why_not form limits within name fault _ _ (r.so gsi_left table_left gsi_may table_may);
    gsi_reader = r.gsi_reader;
    table_reader = r.table_reader;
  }

  -- What is answered is the comparison.
  pub is_comparison : (answer : Result (Noted Compared) Refusal)
      → ReadsBoth gsi table (by_fault answer) (λ file stated. MatchResult (by_fault answer)
      (λ noted. StatesBeside Says limits file stated name (noted.answer, noted.note.items))
      (HasNoAnswer (RefusesComparison form limits) limits file stated name)
      × IsHinted limits file name answer)
      → IsComparison form limits within gsi table name (verdict_of answer)
  is_comparison (Ok noted) r =
      compared_so noted noted.answer noted.note.items (so_alone gsi table _ _ _ r)
  is_comparison (Err refusal) r =
      refused_so {T = Noted Compared} refusal.fault (so_alone gsi table _ _ _ r)

  -- So is the verdict of an answer and its note.
  by_answer : (answer : Result (Compared × List ℕ) Refusal)
      → ReadsBoth gsi table (by_fault answer) (λ file stated.
      TellsBeside Says (RefusesComparison form limits) limits file stated name (by_fault answer)
      × IsHinted limits file name answer)
      → IsComparison form limits within gsi table name (noted_verdict (by_fault answer))
  by_answer (Ok noted) r = compared_so noted noted.0 noted.1 (so_alone gsi table _ _ _ r)
  by_answer (Err refusal) r =
      refused_so {T = Compared × List ℕ} refusal.fault (so_alone gsi table _ _ _ r)

  -- And a run of it is one of the comparison.
  pub is_compare_run : {A : Type 0} (r : Result A Refusal) (note : List ℕ) (out : WriterChange)
      → IsTableRun (SaysComparison form within limits) (RefusesComparison form limits)
      PrintsComparison form limits gsi table name r note out
      → IsCompareRun form limits within gsi table name r note out
  is_compare_run r note out run =
      record { run = run; compares = by_answer run.answer run.tells }
