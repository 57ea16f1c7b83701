use Rattle.std.proofs.Common.{◌≡◌, Err, Ok, Result, rules, subst, sym}
use Rattle.std.specs.Prelude.{MatchResult}
use Rattle.std.specs.Result.{IsErr, IsErrAnd}
use Rattle.station_compare.specs.Faults.{of_adjust, of_table}
use Rattle.station_compare.specs.declared.fault.CompareFault.{CompareFault}
use Rattle.station_differences.proofs.LeastLaws.{are_lines}
use Rattle.table_answers.proofs.PartTables.{few_refused, unadjusted, whole_enough}
use Rattle.table_answers.proofs.PartTables.{whole_reads}
use Rattle.table_answers.proofs.part.lines_of_table.Goals as goal
use Rattle.table_answers.specs.Refusing.{RefusesDifferences}

-- A refusal that comes of a fault.
refused_by : {A : Type 0} (P : A → Type 0) (R : CompareFault → Type 0) (fault : CompareFault)
    (r : Result A CompareFault) → IsErr r → IsErrAnd r (λ why. why ≡ fault) → R fault
    → MatchResult r P R
refused_by P R fault (Ok a) is_err is refused = absurd is
refused_by P R fault (Err why) is_err is refused = subst R (sym is) refused

pub lines_by-requires-clause-enough : goal.lines_by-requires-clause-enough
lines_by-requires-clause-enough c =
    rw (← c.deref.ensures.value) at
    (whole_enough c.in_ok-part.part c.in_ok-whole.whole c.in_ok-whole.ensures.whole)

pub note_by-requires-clause-agrees : goal.note_by-requires-clause-agrees
note_by-requires-clause-agrees c =
    c.agrees.ensures c.args.form c.args.bytes.now
    (whole_reads c.args.form c.station-station.result.now c.args.bytes.now c.in_ok-part.part
    c.in_ok-whole.whole (search rules) (search rules) (search rules)
    c.in_ok-whole.ensures.whole)

pub returns-in_err-whole-clause-tells : goal.returns-in_err-whole-clause-tells
returns-in_err-whole-clause-tells c =
    let e = c.from_residual-in_err-whole.ensures in
    let its = c.args.surveyed.now in
    refused_by _ (RefusesDifferences c.args.form c.args.limits its c.args.bytes.now)
    (of_table c.in_err-whole.field-0.0) c.from_residual-in_err-whole.result e.0 e.1
    (few_refused c.args.form its.station c.args.limits.residual c.args.bytes.now
    c.in_ok-part.part.directions.items c.in_err-whole.field-0.0 (search rules)
    c.in_err-whole.ensures.few)

pub returns-in_err-adjustment-clause-tells : goal.returns-in_err-adjustment-clause-tells
returns-in_err-adjustment-clause-tells c =
    let e = c.from_residual-in_err-adjustment.ensures in
    let its = c.args.surveyed.now in
    let error = c.in_err-adjustment.field-0.0 in
    refused_by _ (RefusesDifferences c.args.form c.args.limits its c.args.bytes.now)
    (of_adjust error) c.from_residual-in_err-adjustment.result e.0 e.1
    (unadjusted c.args.form its.station c.args.limits.residual c.args.bytes.now
    c.in_ok-part.part.directions.items (search rules)
    (whole_enough c.in_ok-part.part c.in_ok-whole.whole c.in_ok-whole.ensures.whole) error
    (rw c.station-station.ensures at c.in_err-adjustment.ensures.fault))

pub returns-clause-tells : goal.returns-clause-tells
returns-clause-tells c =
    let station = c.args.surveyed.now.station in
    let stated = c.in_ok-part.part.directions.items in
    let e = rw c.station-station.ensures at c.in_ok-adjustment.ensures in (
      record {
        stated = stated;
        states = search rules;
        enough = whole_enough c.in_ok-part.part c.in_ok-whole.whole c.in_ok-whole.ensures.whole;
        are_lines = are_lines station c.in_ok-adjustment.adjustment stated
            c.in_ok-answer.answer.items (rw c.station-station.ensures at c.targets.ensures.valid)
            e.tied e.exact e.limited (search rules);
      },
      rw c.station-station.ensures at c.in_ok-note.ensures,
    )
