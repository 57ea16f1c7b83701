use Rattle.std.proofs.Common.{◌≡◌, ◌∙◌, Err, Ok, Result, ap, map, refl, rules}
use Rattle.std.specs.Result.{IsErr, IsErrAnd}
use Rattle.direction_table.specs.TableNotes.{columns_read}
use Rattle.station_compare.specs.declared.fault.CompareFault.{CompareFault}
use Rattle.station_compare.specs.declared.fault.CompareFault.TheVariants.{Memory}
use Rattle.row_forms.specs.declared.form.RowForm.TheVariants.{Commas}
use Rattle.station_differences.proofs.TextLaws.{text_of_rows}
use Rattle.station_differences.specs.DifferenceTexts.{differences_text}
use Rattle.station_differences.specs.declared.line.TargetLine.TheVariants.{Compared as InLine}
use Rattle.table_answers.proofs.ComparedBy.{by_how_far}
use Rattle.table_answers.specs.ColumnRows.{columns_rows}
use Rattle.table_answers.specs.Wholes.{whole_text}
use Rattle.table_answers.proofs.whole.WholeTableAnswer.of_table.Goals as goal

pub returns-clause-tells : goal.returns-clause-tells
returns-clause-tells c =
    let its = c.args.surveyed.now in
    let asked = c.args.self.now.asked in
    let bytes = c.args.bytes.now in
    let directions = c.in_ok-table.table.directions.items in
    let beside = c.in_ok-beside.beside in
    let compared = c.in_ok-answer.answer.compared in
    let columns : c.in_ok-table.table.by_columns
    ≡ columns_read asked.form its.station.targets bytes = search rules in (
      record {
        compares = by_how_far asked.form its.station c.args.limits.residual bytes asked.within
            beside.how_far compared
            (rw c.station-station.ensures at c.in_ok-answer.ensures.compared) (record {
              held = rw c.station-station.ensures at c.in_ok-adjustment.ensures.held;
              compared = record {
                directions = directions;
                states = search rules;
                are_apart = search rules;
              };
              limit = search rules;
            });
        differences = differences_text Commas (map InLine beside.rows.items);
        are_differences = text_of_rows (differences_text Commas) asked.form its.station bytes _
            directions beside.rows.items (search rules) (search rules) refl;
        report = beside.report.items;
        is_report = record {
          directions = directions;
          states = search rules;
          beside = search rules;
        };
        text_is = c.in_ok-answer.ensures.text ∙ (λ i. whole_text compared (columns_rows (columns i))
            (differences_text Commas (map InLine beside.rows.items)) beside.report.items);
      },
      rw c.station-station.ensures at c.in_ok-note.ensures,
    )

pub returns-clause-held : goal.returns-clause-held
returns-clause-held c = rw c.station-station.ensures at c.in_ok-adjustment.ensures.held

-- what comes of an error without memory
memory_of : {A : Type 0} (r : Result A CompareFault) → IsErr r → IsErrAnd r (λ why. why ≡ Memory)
    → r ≡ Err Memory
memory_of (Ok a) is_err is = absurd is
memory_of (Err why) is_err is = ap Err is

pub returns-in_err-answer-clause-tells : goal.returns-in_err-answer-clause-tells
returns-in_err-answer-clause-tells c =
    let e = c.from_residual-in_err-answer.ensures in
    rw (memory_of c.from_residual-in_err-answer.result e.0 e.1) (λ within. tt)
