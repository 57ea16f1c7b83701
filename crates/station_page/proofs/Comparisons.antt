-- What is promised of a comparison, from what is told of it and of its note.
use Rattle.std.proofs.Common.{ℕ, List, Option, Result, Ok, Err, subst, sym}
use Rattle.byte_ends.specs.Input.{Input}
use Rattle.byte_ends.specs.Source.{Told}
use Rattle.direction_table.specs.declared.form.TableForm.{TableForm}
use Rattle.gsi_file.specs.FileAnswers.{FileAnswers}
use Rattle.station_book.specs.declared.result_limits.ResultLimits.{ResultLimits}
use Rattle.station_compare.proofs.Comparisons.{compares_by_table}
use Rattle.station_compare.specs.Answers.{Compares}
use Rattle.station_compare.specs.Comparing.{ByInput}
use Rattle.station_compare.specs.declared.fault.CompareFault.{CompareFault}
use Rattle.table_answers.proofs.ComparisonRuns.{why_not}
use Rattle.table_answers.specs.Answers.{TellsBeside}
use Rattle.table_answers.specs.Comparisons.{SaysComparison, noted_verdict, verdict}
use Rattle.table_answers.specs.Noting.{Noting}
use Rattle.table_answers.specs.Refusing.{RefusesComparison}
use Rattle.table_answers.specs.declared.compared.Compared.{Compared}

pub compares : (form : TableForm) (limits : ResultLimits) (within : Option ℕ) (file : FileAnswers)
    (stated : Told) (name : List ℕ) (answer : Result (Compared × List ℕ) CompareFault)
    → TellsBeside (Noting (SaysComparison form within limits) form)
    (RefusesComparison form limits) limits file stated name answer
    → Compares form limits file stated name within (noted_verdict answer)
compares form limits within file stated name (Ok noted) h =
    compares_by_table form limits file stated name within h.its (verdict noted.0) h.station
    (subst (λ (i : Input). ByInput form h.its.station limits.residual within i (verdict noted.0))
    (sym h.whole) h.said.0)
compares form limits within file stated name (Err fault) h =
    why_not form limits within name fault file stated h
